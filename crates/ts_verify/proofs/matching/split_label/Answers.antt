-- The first dot divides the name.
use Rattle.std.proofs.Common.{sym, ◌∙◌}
use Rattle.ts_verify.proofs.Dots.{no_dot, first_dot}
use Rattle.ts_verify.proofs.matching.split_label.Goals as goal

pub returns-in_err-end : goal.returns-in_err-end
returns-in_err-end c =
    rw c.from_residual.ensures (no_dot c.args.name.now (sym c.first_dot.ensures ∙ c.in_err-end.was))

pub returns : goal.returns
returns c = first_dot c.args.name.now c.in_ok-end.end (sym c.first_dot.ensures ∙ c.in_ok-end.was)
