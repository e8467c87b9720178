use Rattle.std.proofs.Common.{◌++◌, ap, sym, ◌∙◌}
use Rattle.ts_wire.specs.Frames.{body_encoding}
use Rattle.ts_wire.proofs.Joins.{three}
use Rattle.ts_wire.proofs.writing.push_body.Goals as goal

pub returns-in_ok-push_taken-in-Promise : goal.returns-in_ok-push_taken-in-Promise
returns-in_ok-push_taken-in-Promise c =
    three _ _ _ _ _ _ _ c.in_ok-push_number32-in-Promise.ensures c.in_ok-push_number64-in-Promise.ensures c.in_ok-push_taken-in-Promise.ensures
    ∙ ap (λ b. c.args.out.now.items ++ body_encoding b) (sym c.in-Promise.is)

pub returns-in_ok-push_number64-in-Busy-2 : goal.returns-in_ok-push_number64-in-Busy-2
returns-in_ok-push_number64-in-Busy-2 c =
    three _ _ _ _ _ _ _ c.in_ok-push_number32-in-Busy.ensures c.in_ok-push_number64-in-Busy.ensures c.in_ok-push_number64-in-Busy-2.ensures
    ∙ ap (λ b. c.args.out.now.items ++ body_encoding b) (sym c.in-Busy.is)

pub returns-in_ok-push_command-in-Accept : goal.returns-in_ok-push_command-in-Accept
returns-in_ok-push_command-in-Accept c =
    three _ _ _ _ _ _ _ c.in_ok-push_number32-in-Accept.ensures c.in_ok-push_number64-in-Accept.ensures c.in_ok-push_command-in-Accept.ensures
    ∙ ap (λ b. c.args.out.now.items ++ body_encoding b) (sym c.in-Accept.is)

pub returns-in_ok-push_command-in-Accepted : goal.returns-in_ok-push_command-in-Accepted
returns-in_ok-push_command-in-Accepted c =
    three _ _ _ _ _ _ _ c.in_ok-push_number32-in-Accepted.ensures c.in_ok-push_number64-in-Accepted.ensures c.in_ok-push_command-in-Accepted.ensures
    ∙ ap (λ b. c.args.out.now.items ++ body_encoding b) (sym c.in-Accepted.is)
