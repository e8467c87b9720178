use Rattle.std.proofs.lemmas.Result.{IfOk-weaker}
use Rattle.ts_policy.specs.Certificates.{policies_in}
use Rattle.ts_policy.proofs.Layered.{unmapped_view}
use Rattle.ts_policy.proofs.layer.mapped_layer.Goals as goal

pub returns-else-cert-gt0 : goal.returns-else-cert-gt0
returns-else-cert-gt0 c =
    IfOk-weaker c.unmapped.result _ _
    (λ v is. unmapped_view (policies_in c.args.cert.now) c.args.mapped.now c.requires c.if-cert-gt0.false c.args.links.now v.items is)
    c.unmapped.ensures
