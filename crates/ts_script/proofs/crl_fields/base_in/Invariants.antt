-- What was gathered precedes what the words say that are left.
use Rattle.std.proofs.Common.{◌≡◌, ◌++◌, drop}
use Rattle.std.specs.List.{flat_map}
use Rattle.ts_make.specs.Told.{list_of}
use Rattle.ts_script.specs.CrlLineWords.{base_said}
use Rattle.ts_script.specs.inside.CrlParts.{crl_parts}
use Rattle.ts_script.proofs.crl_fields.base_in.Given as goal

abbrev pub invariant-loop-word : goal.invariant-loop-word
invariant-loop-word l = flat_map base_said (crl_parts l.words) ≡ list_of l.base ++ flat_map base_said (crl_parts (drop l.word-index l.words))
