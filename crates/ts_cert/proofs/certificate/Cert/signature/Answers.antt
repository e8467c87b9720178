use Rattle.std.proofs.Math.Logic.{∥∥₁_elim}
use Rattle.std.proofs.Props.{props}
use Rattle.ts_cert.proofs.Held.{signature_value}
use Rattle.ts_cert.proofs.Sets.{octets-one}
use Rattle.ts_cert.proofs.certificate.Cert.signature.Goals as goal

pub bits_from-requires : goal.bits_from-requires
bits_from-requires c = ∥∥₁_elim c.args.self.laid (Prim.hlevel props) (λ laid. ∣ (_, signature_value c.args.self.octets.now c.args.self.layout laid) ∣₁)

pub returns : goal.returns
returns c = ∥∥₁_elim c.args.self.laid (octets-one _ _) (λ laid. c.bits_from.ensures _ (signature_value c.args.self.octets.now c.args.self.layout laid))
