use Rattle.std.proofs.Common.{◌∙◌, ◌++◌, List, ℕ, ap, drop, sym}
use Rattle.std.proofs.lemmas.List.{take-append-drop}
use Rattle.ts_guard.proofs.hello.octets_at.Goals as goal

pub returns : goal.returns
returns c = sym (take-append-drop 32 c.args.octets.now)
    ∙ ap (λ (l : List ℕ). l ++ drop 32 c.args.octets.now) (sym c.copy_from_slice.ensures.after)
