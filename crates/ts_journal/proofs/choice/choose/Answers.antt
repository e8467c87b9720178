use Rattle.ts_journal.proofs.Choices.{chosen, unchosen}
use Rattle.ts_journal.specs.Choice.{IsChosen, Unchosen}
use Rattle.std.proofs.Common.{IfSome, IfNone, subst, sym}
use Rattle.ts_journal.proofs.choice.choose.Goals as goal

pub returns-clause-chosen : goal.returns-clause-chosen
returns-clause-chosen c =
    let a = c.args.a.now in
    let b = c.args.b.now in
    subst (λ r. IfSome r (λ choice. IsChosen choice a b)) (sym c.pick.ensures) (chosen a b c.look_at.result c.look_at-2.result c.look_at.ensures c.look_at-2.ensures)

pub returns-clause-none : goal.returns-clause-none
returns-clause-none c =
    let a = c.args.a.now in
    let b = c.args.b.now in
    subst (λ r. IfNone r (Unchosen a b)) (sym c.pick.ensures) (unchosen a b c.look_at.result c.look_at-2.result c.look_at.ensures c.look_at-2.ensures)
