-- What was read precedes what is left.
use Rattle.std.proofs.Common.{◌≡◌, ◌++◌, map, length, option_map}
use Rattle.ts_make.specs.Sayable.{AreTexts}
use Rattle.ts_script.specs.Pieces.{pieces_of, pieces_behind}
use Rattle.ts_script.specs.Words.{rdn_word}
use Rattle.ts_script.proofs.words.rdns_of.Given as goal

abbrev pub invariant-loop-rest : goal.invariant-loop-rest
invariant-loop-rest l = record {
  pieces : pieces_of 47 l.word ≡ map rdn_word l.rdns.items ++ pieces_behind 47 (option_map (λ rest. rest.now) l.rest);
  texts : AreTexts l.rdns.items;
}

abbrev pub decreases-loop-rest : goal.decreases-loop-rest
decreases-loop-rest l = length (pieces_behind 47 (option_map (λ rest. rest.now) l.rest))
