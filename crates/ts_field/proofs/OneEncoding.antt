-- No two lists of octets are one algorithm identifier, one name or one time of a form.
use Rattle.std.proofs.Common.{◌≡◌, sym, ◌∙◌}
use Rattle.ts_time.specs.Text.{IsUtc, IsGeneral}
use Rattle.ts_time.proofs.TextLemmas.{IsUtc-one_text, IsGeneral-one_text}
use Rattle.ts_shape.specs.Fields.{Within}
use Rattle.ts_shape.proofs.OneEncoding.{One, one-within}
use Rattle.ts_name.specs.NameEncoding.{IsName}
use Rattle.ts_field.specs.declared.time.TimeForm.{TimeForm}
use Rattle.ts_field.specs.declared.time.TimeForm.TheVariants.{Utc, General}
use Rattle.ts_field.specs.Algorithm.{IsAlgorithm}
use Rattle.ts_field.specs.Time.{IsTimeIn}

pub one-algorithm : One (Within 0x30 IsAlgorithm)
one-algorithm c d x a b = a.encoded ∙ (sym a.value.whole ∙ (b.value.whole ∙ sym b.encoded))

pub one-name : One IsName
one-name c d x a b = a.whole ∙ sym b.whole

pub one-time : (f : TimeForm) → One (IsTimeIn f)
one-time Utc c d m a b = one-within 0x17 IsUtc (λ v w n is other. IsUtc-one_text v w n is other) c d m a b
one-time General c d m a b = one-within 0x18 IsGeneral (λ v w n is other. IsGeneral-one_text v w n is other) c d m a b
