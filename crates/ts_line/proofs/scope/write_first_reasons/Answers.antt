use Rattle.std.proofs.lemmas.Result.{on_ok_weaker}
use Rattle.ts_line.proofs.Listed.{two_behind}
use Rattle.ts_line.proofs.scope.write_first_reasons.Goals as goal

pub returns : goal.returns
returns c =
    on_ok_weaker c.reason_if-4.result
    (λ last. two_behind _ _ _ _ _ c.in_ok-reason_if.ensures
    (two_behind _ _ _ _ _ c.in_ok-reason_if-2.ensures (two_behind _ _ _ _ _ c.in_ok-reason_if-3.ensures last)))
    c.reason_if-4.ensures
