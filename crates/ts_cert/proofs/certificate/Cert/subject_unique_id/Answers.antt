use Rattle.std.proofs.Math.Logic.{∥∥₁_elim}
use Rattle.std.proofs.Props.{props}
use Rattle.ts_cert.proofs.Held.{subject_unique_id}
use Rattle.ts_cert.proofs.Sets.{id-one}
use Rattle.ts_cert.proofs.certificate.Cert.subject_unique_id.Goals as goal

pub unique_id_from-requires : goal.unique_id_from-requires
unique_id_from-requires c = ∥∥₁_elim c.args.self.laid (Prim.hlevel props) (λ laid. ∣ (_, subject_unique_id c.args.self.octets.now c.args.self.layout laid) ∣₁)

pub returns : goal.returns
returns c = ∥∥₁_elim c.args.self.laid (id-one _ _) (λ laid. c.unique_id_from.ensures _ (subject_unique_id c.args.self.octets.now c.args.self.layout laid))
