use Rattle.std.proofs.Common.{◌≡◌, ◌↔◌, IsTrue, List, sym, ap, subst, ◌∙◌, arith}
use Rattle.ts_name.specs.General.{GeneralName}
use Rattle.ts_constraint.specs.inside.RangeTable.{LiesIn}
use Rattle.ts_constraint.specs.inside.Ranges.{is_in_one, number}
use Rattle.ts_constraint.specs.View.{bases_in}
use Rattle.ts_constraint.proofs.DomainEnds.{along}
use Rattle.ts_constraint.proofs.RangeTables.{other-found}
use Rattle.ts_constraint.proofs.ranges.Ranges.has.Goals as goal

pub returns : goal.returns
returns c = λ bases are.
    other-found c.args.address.now c.hold.result (bases_in c.as_slice-2.result.now) (bases_in c.args.self.now.others.items) bases (ap bases_in c.as_slice-2.ensures.value) c.hold.ensures
    (are.others_are c.args.address.now (c.if-address-eq4.false, c.if-address-eq16.false))
