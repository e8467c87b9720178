use Rattle.std.proofs.Common.{◌++◌, sym, subst}
use Rattle.ts_acceptor.specs.Acceptor.{StandsFor}
use Rattle.ts_acceptor.specs.Steps.{IsChangeOf}
use Rattle.ts_acceptor.proofs.acceptor.Acceptor.keep.Goals as goal
use Rattle.ts_acceptor.proofs.Stands.{stands_promise, stands_take}

pub returns-in-Promise-clause-state : goal.returns-in-Promise-clause-state
returns-in-Promise-clause-state g c = λ facts h.
    let a = c.args.self.now in
    let is = subst (λ change. IsChangeOf a change c.args.step.facts.items) c.in-Promise.is c.requires in
    subst (λ more. StandsFor (record a { promised = c.put_at.new.map }) (facts ++ more)) (sym is.0)
    (stands_promise a facts c.in-Promise.position c.in-Promise.ballot c.put_at.new.map h is.1
    c.put_at.ensures)

pub returns-clause-state : goal.returns-clause-state
returns-clause-state g c = λ facts h.
    let a = c.args.self.now in
    let is = subst (λ change. IsChangeOf a change c.args.step.facts.items) c.in-Take.is c.requires in
    subst (λ more. StandsFor
    (record a { promised = c.put_at-in-Take.new.map; taken = c.put_at-in-Take-2.new.map })
    (facts ++ more)) (sym is.0)
    (stands_take a facts c.in-Take.position c.in-Take.ballot c.in-Take.command
    c.put_at-in-Take.new.map c.put_at-in-Take-2.new.map h is.1 is.2 c.put_at-in-Take.ensures
    c.put_at-in-Take-2.ensures)
