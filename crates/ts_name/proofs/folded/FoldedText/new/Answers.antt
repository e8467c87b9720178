use Rattle.std.proofs.Common.{◌≡◌, ◌≢◌, ◌∙◌, ℕ, get_or, List, ap, arith}
use Rattle.std.specs.Prelude.{map}
use Rattle.std.specs.List.{join_with_byte}
use Rattle.ts_name.specs.Canon.{fold_case, canonical_text}
use Rattle.ts_name.proofs.Words.{read_at_end, read_from_word}
use Rattle.ts_name.proofs.folded.FoldedText.new.Goals as goal
use Rattle.ts_name.proofs.folded.FoldedText.new.Goals.{in_default, in_default-2}

pub returns : goal.returns
unfolding canonical_text
returns c =
    let same : canonical_text c.loop-rest.rest.now ≡ canonical_text c.args.text.now = ap (λ (ws : List (List ℕ)). map fold_case (join_with_byte 0x20 ws)) c.loop-rest.invariant in
    elim c.if-rest-lt1.branch [
      | in_default w ↦ read_at_end c.loop-rest.rest.now (omega arith) ∙ same
      | in_default-2 w ↦
          let ne : get_or c.loop-rest.rest.now 0 0 ≢ 0x20 = omega arith in
          read_from_word c.loop-rest.rest.now (omega arith) ne ∙ same
    ]
