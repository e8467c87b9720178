use Rattle.std.proofs.Math.Logic.{∥∥₁_elim}
use Rattle.std.proofs.Props.{props}
use Rattle.ts_cert.proofs.Held.{validity}
use Rattle.ts_cert.proofs.Sets.{validity-one}
use Rattle.ts_cert.proofs.certificate.Cert.validity.Goals as goal

pub validity_from-requires : goal.validity_from-requires
validity_from-requires c = ∥∥₁_elim c.args.self.laid (Prim.hlevel props) (λ laid. ∣ (_, validity c.args.self.octets.now c.args.self.layout laid) ∣₁)

pub returns : goal.returns
returns c = ∥∥₁_elim c.args.self.laid (validity-one _ _) (λ laid. c.validity_from.ensures _ (validity c.args.self.octets.now c.args.self.layout laid))
