use Rattle.std.proofs.Common.{sym, ap, ◌∙◌}
use Rattle.ts_name.specs.Holds.{lower}
use Rattle.ts_name.proofs.Domains.{ends-by, ends-only}
use Rattle.ts_name.proofs.holding.ends_in.Goals as goal

pub returns : goal.returns
returns c = (
  λ t. ends-by c.args.text.now c.args.end.now
      (ap lower (sym c.split_at.ensures.back) ∙ c.eq_ignore_ascii_case.ensures.test.0 t),
  λ ends.
      c.eq_ignore_ascii_case.ensures.test.1
      (ap lower c.split_at.ensures.back ∙ ends-only c.args.text.now c.args.end.now ends),
)
