use Rattle.std.proofs.Math.Logic.{∥∥₁_elim}
use Rattle.std.proofs.Props.{props}
use Rattle.ts_cert.proofs.Held.{subject_public_key_info}
use Rattle.ts_cert.proofs.Sets.{key-one}
use Rattle.ts_cert.proofs.certificate.Cert.subject_public_key_info.Goals as goal

pub key_from-requires : goal.key_from-requires
key_from-requires c = ∥∥₁_elim c.args.self.laid (Prim.hlevel props) (λ laid. ∣ (_, subject_public_key_info c.args.self.octets.now c.args.self.layout laid) ∣₁)

pub returns : goal.returns
returns c = ∥∥₁_elim c.args.self.laid (key-one _ _) (λ laid. c.key_from.ensures _ (subject_public_key_info c.args.self.octets.now c.args.self.layout laid))
