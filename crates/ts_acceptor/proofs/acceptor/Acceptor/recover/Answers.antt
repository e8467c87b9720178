use Rattle.std.proofs.Common.{◌≡◌, ◌++◌, ◌∷◌, [], max, refl, sym, subst, arith}
use Rattle.ts_synod.specs.declared.message.Fact.TheVariants.{Promised, Took, Used, Chosen}
use Rattle.ts_synod.specs.Force.{taken_vote}
use Rattle.ts_acceptor.specs.Acceptor.{HasBallots, StandsFor, promised_at}
use Rattle.ts_acceptor.proofs.Stands.{ballots_put, no_vote, stands_idle, votes_same}
use Rattle.ts_acceptor.proofs.acceptor.Acceptor.recover.Goals as goal

pub returns-in_ok-insert-in-Promised-clause-state : goal.returns-in_ok-insert-in-Promised-clause-state
returns-in_ok-insert-in-Promised-clause-state g c = λ facts h.
    let a = c.args.self.now in
    let q = c.in-Promised.position in
    let b = c.in-Promised.ballot in
    let e : c.max-ballot.result ≡ max (promised_at a q) b = omega (arith, c.max-ballot.ensures, c.promised.ensures) in
    subst (λ f. StandsFor (record a { promised = c.insert.new.self }) (facts ++ f ∷ [])) (sym c.in-Promised.is) (record {
      promised = ballots_put a.promised c.insert.new.self facts (Promised q b) q b c.max-ballot.result h.promised (λ p. refl) e c.in_ok-insert-in-Promised.ensures.updates.0;
      taken = votes_same a.taken facts (Promised q b) h.taken (λ p. no_vote (taken_vote p facts));
    })

pub returns-in_ok-recover_vote-in-Took-clause-state : goal.returns-in_ok-recover_vote-in-Took-clause-state
returns-in_ok-recover_vote-in-Took-clause-state g c = λ facts h.
    let a = c.args.self.now in
    let q = c.in-Took.position in
    let b = c.in-Took.ballot in
    let e : c.max-promised.result ≡ max (promised_at a q) b = omega (arith, c.max-promised.ensures, c.promised-in-Took.ensures) in
    let took = Took q b c.in-Took.command in
    let after = c.in_ok-recover_vote-in-Took.ensures in
    subst (λ f. StandsFor c.recover_vote.new.self (facts ++ f ∷ [])) (sym c.in-Took.is) (record {
      promised = subst (λ m. HasBallots m (facts ++ took ∷ [])) (sym after.promised)
          (ballots_put a.promised c.insert-in-Took.new.self facts took q b c.max-promised.result
          h.promised (λ p. refl) e c.in_ok-insert-in-Took.ensures.updates.0);
      taken = after.votes facts h.taken;
    })

pub returns-in-Used-clause-state : goal.returns-in-Used-clause-state
returns-in-Used-clause-state g c = λ facts h.
    let a = c.args.self.now in
    subst (λ f. StandsFor a (facts ++ f ∷ [])) (sym c.in-Used.is) (stands_idle a facts (Used c.in-Used.round) h (λ p. refl) (λ p. refl))

pub returns-in-Chosen-clause-state : goal.returns-in-Chosen-clause-state
returns-in-Chosen-clause-state g c = λ facts h.
    let a = c.args.self.now in
    subst (λ f. StandsFor a (facts ++ f ∷ [])) (sym c.in-Chosen.is) (stands_idle a facts (Chosen c.in-Chosen.position c.in-Chosen.command) h (λ p. refl) (λ p. refl))
