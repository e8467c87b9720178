-- The pairs name no command.
use Rattle.std.proofs.Common.{rules, ◌≡◌, subst, List, ℕ, Option, None}
use Rattle.ts_site.specs.Statuses.{IsNamed}
use Rattle.ts_site.proofs.commanding.begin_outcome.Goals as goal

pub returns-in_default : goal.returns-in_default
returns-in_default c =
    let none : c.in_ok-id.field-0 ≡ None = search rules in
    let named = subst (λ (octets : List ℕ). IsNamed octets c.in_ok-id.field-0) c.deref.ensures.value c.in_ok-id.ensures in (
      None,
      subst (λ (id : Option (List ℕ)). IsNamed c.args.request.now.target.items id) none named,
      c.in_ok-error.ensures,
    )
