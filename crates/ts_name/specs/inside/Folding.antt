-- What is left of a text while its canonical form is read from front to back.
use Rattle.std.specs.Prelude.{ℕ, List, map}
use Rattle.ts_name.specs.declared.folded.FoldedText.{FoldedText}
use Rattle.ts_name.specs.Canon.{fold_case}
use Rattle.ts_name.specs.inside.Gaps.{without_gaps}

abbrev pub octets_left : FoldedText → List ℕ
octets_left f = map fold_case (without_gaps f.rest.now)
