use Rattle.std.proofs.Common.{◌≡◌, ◌∙◌, ap, sym, ◌||◌, map, false}
use Rattle.ts_policy.specs.Labels.{same, has, any_policy}
use Rattle.ts_policy.specs.Accepted.{is_none}
use Rattle.ts_policy.proofs.Views.{any_of_view, is_none-view}
use Rattle.ts_policy.proofs.policies.accepts_any.Goals as goal

pub returns-else-is_empty : goal.returns-else-is_empty
returns-else-is_empty c =
    let user = c.args.user.now in
    let some : is_none (map (λ x. x.content.now) user) ≡ false = sym (is_none-view (λ x. x.content.now) user) ∙ sym c.is_empty.ensures ∙ c.if-is_empty.false in
    c.names_any.ensures ∙ any_of_view (λ x. x.content.now) (λ p. same p any_policy) user ∙ ap (λ b. b || has (map (λ x. x.content.now) user) any_policy) (sym some)
