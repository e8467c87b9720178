-- The parts are those of the words so far.
use Rattle.std.proofs.Common.{◌≡◌, map, take}
use Rattle.std.specs.List.{flat_map}
use Rattle.ts_script.specs.Parts.{part_in}
use Rattle.ts_script.specs.inside.OwnedParts.{parts_of}
use Rattle.ts_script.proofs.extension_words.parts_in.Given as goal

abbrev pub invariant-loop-word : goal.invariant-loop-word
invariant-loop-word l = map part_in l.parts.items ≡ flat_map parts_of (take l.word-index l.words)
