-- What contracts see of the text of a moment: the octets of its element.
use Rattle.std.specs.Prelude.{ℕ, List, []}
use Rattle.ts_der.specs.Element.{encode}
use Rattle.ts_make.specs.declared.times.TimeText.{TimeText}
use Rattle.ts_make.specs.declared.times.TimeText.TheVariants.{Utc, General, Outside}

abbrev pub time_octets : TimeText → List ℕ
time_octets (Utc text) = encode 0x17 text
time_octets (General text) = encode 0x18 text
time_octets Outside = encode 0x18 []
