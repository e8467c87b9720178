use Rattle.std.proofs.Common.{◌≡◌, inl, inr, ap, subst}
use Rattle.ts_name.specs.General.{GeneralName, iPAddress}
use Rattle.ts_name.specs.GeneralView.{general_in}
use Rattle.ts_name.specs.Holds.{Holds}
use Rattle.ts_constraint.proofs.RangeTables.{never-other, not-unequal}
use Rattle.ts_constraint.proofs.ranges.may_be_other.Goals as goal

pub returns-then-range-ne8 : goal.returns-then-range-ne8
returns-then-range-ne8 c = λ e address o h.
    never-other c.in-IpAddress.range.now address (inr (not-unequal _ _ e)) o (subst (λ (b : GeneralName). Holds b (iPAddress address)) (ap general_in c.in-IpAddress.is) h)

pub returns-else-range-ne8 : goal.returns-else-range-ne8
returns-else-range-ne8 c = λ e address o h.
    never-other c.in-IpAddress.range.now address (inl c.if-range-ne8.false) o (subst (λ (b : GeneralName). Holds b (iPAddress address)) (ap general_in c.in-IpAddress.is) h)
