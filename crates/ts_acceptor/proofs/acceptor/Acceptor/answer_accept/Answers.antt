use Rattle.std.proofs.Common.{rules, sym, subst}
use Rattle.ts_acceptor.specs.Acceptor.{config_of, promised_at, taken_at}
use Rattle.ts_acceptor.specs.Steps.{IsOfOther, Makes}
use Rattle.ts_acceptor.proofs.acceptor.Acceptor.answer_accept.Goals as goal
use Rattle.ts_acceptor.proofs.acceptor.Acceptor.answer_accept.Goals.{in_default-via-in-Some+else-vote-ballot, in_default-via-in_default}
use Rattle.ts_acceptor.proofs.Rule.{takes}

pub returns-in_ok-step-in_default-clause-step : goal.returns-in_ok-step-in_default-clause-step
returns-in_ok-step-in_default-clause-step g c =
    let a = c.args.self.now in
    let p = c.args.position in
    let other : IsOfOther c.args.ballot (taken_at a p) = elim c.in_default.branch [ in_default-via-in-Some+else-vote-ballot w ↦ search rules | in_default-via-in_default w ↦ search rules ] in
    subst (Makes c.in_ok-step-in_default.step)
    (sym (takes (config_of a) (promised_at a p) (taken_at a p) c.args.from p c.args.ballot
    c.args.command.now (search rules) other)) c.in_ok-step-in_default.ensures.step
