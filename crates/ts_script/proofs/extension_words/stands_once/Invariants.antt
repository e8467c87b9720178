-- The words of the keyword are the one that has stood, if it has, and those that are left.
use Rattle.std.proofs.Common.{◌≡◌, ◌+◌, length, option_map, cond}
use Rattle.std.specs.List.{count_by}
use Rattle.std.specs.Str.{bytes_eq}
use Rattle.ts_script.specs.Pieces.{pieces_behind}
use Rattle.ts_script.specs.ExtensionWords.{keyword_in, keyword_text}
use Rattle.ts_script.proofs.extension_words.stands_once.Given as goal

abbrev pub invariant-loop-rest : goal.invariant-loop-rest
invariant-loop-rest l =
    count_by (λ word. bytes_eq (keyword_in word) (keyword_text l.keyword)) (pieces_behind 32 (option_map (λ rest. rest.now) l.words))
    ≡ cond l.has_stood 1 0 + count_by (λ word. bytes_eq (keyword_in word) (keyword_text l.keyword)) (pieces_behind 32 (option_map (λ rest. rest.now) l.rest))

abbrev pub decreases-loop-rest : goal.decreases-loop-rest
decreases-loop-rest l = length (pieces_behind 32 (option_map (λ rest. rest.now) l.rest))
