use Rattle.std.proofs.Common.{◌++◌, ◌∙◌, ℕ, List, ap, length}
use Rattle.std.proofs.lemmas.List.{drop-replicate}
use Rattle.ts_hmac.proofs.key.pad_key.Goals as goal

pub returns : goal.returns
returns c =
    ap (λ (l : List ℕ). l ++ c.split_at_mut-front.result.1.now) c.copy_from_slice.ensures.after
    ∙ ap (λ (l : List ℕ). c.args.key.now ++ l) (c.split_at_mut-front.ensures.back
    ∙ drop-replicate (length c.args.key.now) 64 0)
