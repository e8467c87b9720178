use Rattle.std.proofs.Common.{◌∙◌, sym, map}
use Rattle.std.proofs.lemmas.Result.{IfOk-weaker}
use Rattle.ts_policy.proofs.KeptLaw.{chosen_members}
use Rattle.ts_policy.proofs.policies.chosen.Goals as goal

pub returns : goal.returns
returns c =
    IfOk-weaker c.members-else-free-2.result _ _
    (λ v is. chosen_members (λ x. x.content.now) (map (λ x. x.content.now) c.args.found.items)
    c.of.result c.of.ensures c.args.free c.args.user.now v.items
    (sym c.accepts_any.ensures ∙ c.if-accepts_any.false) c.if-free-2.false is)
    c.members-else-free-2.ensures
