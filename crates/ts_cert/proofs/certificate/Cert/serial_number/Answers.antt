use Rattle.std.proofs.Math.Logic.{∥∥₁_elim}
use Rattle.std.proofs.Props.{props}
use Rattle.ts_cert.proofs.Held.{serial_number}
use Rattle.ts_cert.proofs.Sets.{octets-one}
use Rattle.ts_cert.proofs.certificate.Cert.serial_number.Goals as goal

pub integer_from-requires : goal.integer_from-requires
integer_from-requires c = ∥∥₁_elim c.args.self.laid (Prim.hlevel props) (λ laid. ∣ (_, serial_number c.args.self.octets.now c.args.self.layout laid) ∣₁)

pub returns : goal.returns
returns c = ∥∥₁_elim c.args.self.laid (octets-one _ _) (λ laid. c.integer_from.ensures _ (serial_number c.args.self.octets.now c.args.self.layout laid))
