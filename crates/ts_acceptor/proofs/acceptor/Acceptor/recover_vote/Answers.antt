use Rattle.std.proofs.Common.{rules, ◌++◌, ◌∷◌, [], subst}
use Rattle.ts_synod.specs.declared.message.Fact.TheVariants.{Took}
use Rattle.ts_acceptor.specs.Acceptor.{HasVotes, taken_at}
use Rattle.ts_acceptor.proofs.Stands.{IsAbove, IsNotAbove, votes_recovered, votes_stay}
use Rattle.ts_acceptor.proofs.acceptor.Acceptor.recover_vote.Goals as goal
use Rattle.ts_acceptor.proofs.acceptor.Acceptor.recover_vote.Goals.{in-Some+else-ballot-vote, in_default}

pub returns-then-ballot-vote-clause-votes : goal.returns-then-ballot-vote-clause-votes
returns-then-ballot-vote-clause-votes g c = λ facts h.
    let a = c.args.self.now in
    votes_stay a.taken facts c.args.position c.args.ballot c.args.command.now h (subst (IsNotAbove c.args.ballot) c.in-Some.ensures c.if-ballot-vote.true)

pub returns-clause-votes : goal.returns-clause-votes
returns-clause-votes g c = λ facts h.
    let a = c.args.self.now in
    let b = c.args.ballot in
    let q = c.args.position in
    let up : IsAbove b (taken_at a q) = elim c.match-taken.branch [ in-Some+else-ballot-vote w ↦ search rules | in_default w ↦ search rules ] in
    subst (λ d. HasVotes c.insert.new.self (facts ++ Took q b d ∷ [])) c.in_ok-try_copy.ensures.copy
    (votes_recovered a.taken c.insert.new.self facts q b c.in_ok-try_copy.field-0 h up
    c.in_ok-insert.ensures.updates.0)
