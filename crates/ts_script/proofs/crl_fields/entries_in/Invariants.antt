-- What was gathered is what the words so far say.
use Rattle.std.proofs.Common.{◌≡◌, take}
use Rattle.std.specs.List.{flat_map}
use Rattle.ts_script.specs.CrlLineWords.{entry_said}
use Rattle.ts_script.specs.inside.CrlParts.{crl_parts}
use Rattle.ts_script.proofs.crl_fields.entries_in.Given as goal

abbrev pub invariant-loop-word : goal.invariant-loop-word
invariant-loop-word l = l.entries.items ≡ flat_map entry_said (crl_parts (take l.word-index l.words))
