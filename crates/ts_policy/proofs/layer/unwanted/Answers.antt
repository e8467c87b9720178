use Rattle.std.proofs.Common.{◌∙◌, sym}
use Rattle.std.proofs.lemmas.Result.{IfOk-weaker}
use Rattle.ts_policy.proofs.Layered.{unwanted_view}
use Rattle.ts_policy.proofs.layer.unwanted.Goals as goal

pub returns-then-contains : goal.returns-then-contains
returns-then-contains c =
    let above = c.any_policy-above.result in
    IfOk-weaker c.unexpected.result _ _
    (λ v is. unwanted_view c.args.expected.now above c.args.stated.now v.items c.any_policy-above.ensures (sym c.contains.ensures ∙ c.if-contains.true) is)
    c.unexpected.ensures
