use Rattle.std.proofs.Common.{◌≡◌, ◌↔◌, IsTrue, List, sym, ap, subst, ◌∙◌}
use Rattle.ts_name.specs.General.{GeneralName}
use Rattle.ts_name.specs.Holds.{Holds}
use Rattle.ts_constraint.specs.declared.condition.Condition.{Condition}
use Rattle.ts_constraint.specs.Conditions.{Some_of, FailsAt}
use Rattle.ts_constraint.specs.Source.{Source}
use Rattle.ts_constraint.specs.inside.Sought.{name_in}
use Rattle.ts_constraint.proofs.source.Source.fails.Goals as goal

pub returns-in-Supported : goal.returns-in-Supported
returns-in-Supported c =
    subst (λ (k : Condition). IsTrue c.is_unsupported.result ↔ FailsAt k (name_in c.args.name.now) c.args.self.now) (sym c.in-Supported.is) c.is_unsupported.ensures

pub returns-in-Permitted : goal.returns-in-Permitted
returns-in-Permitted c =
    subst (λ (k : Condition). IsTrue c.is_not_permitted.result ↔ FailsAt k (name_in c.args.name.now) c.args.self.now) (sym c.in-Permitted.is) c.is_not_permitted.ensures

pub returns-in-NotExcluded : goal.returns-in-NotExcluded
returns-in-NotExcluded c =
    let excluded = ap (λ (s : Source). s.excluded) c.self.view_is in
    subst (λ (k : Condition). IsTrue c.holds.result ↔ FailsAt k (name_in c.args.name.now) c.args.self.now) (sym c.in-NotExcluded.is)
    (subst (λ (xs : List GeneralName). IsTrue c.holds.result ↔ Some_of (λ base. Holds base (name_in c.args.name.now)) xs) excluded c.holds.ensures)
