use Rattle.std.proofs.Common.{◌∙◌, sym}
use Rattle.std.proofs.lemmas.Result.{IfOk-weaker}
use Rattle.ts_policy.proofs.Layered.{added_view}
use Rattle.ts_policy.proofs.layer.added.Goals as goal

pub returns-then-contains : goal.returns-then-contains
returns-then-contains c =
    let above = c.any_policy-above.result in
    IfOk-weaker c.absent.result _ _
    (λ v is. added_view c.args.labels.now above c.args.mappings.now v.items c.any_policy-above.ensures (sym c.contains.ensures ∙ c.if-contains.true) is)
    c.absent.ensures
