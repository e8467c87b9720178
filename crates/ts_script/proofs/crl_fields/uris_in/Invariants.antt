-- What was gathered is what the words so far say.
use Rattle.std.proofs.Common.{◌≡◌, map, take}
use Rattle.std.specs.List.{flat_map}
use Rattle.ts_script.specs.CrlLineWords.{uri_said}
use Rattle.ts_script.specs.inside.CrlParts.{crl_parts}
use Rattle.ts_script.proofs.crl_fields.uris_in.Given as goal

abbrev pub invariant-loop-word : goal.invariant-loop-word
invariant-loop-word l = map (λ uri. uri.now) l.uris.items ≡ flat_map uri_said (crl_parts (take l.word-index l.words))
