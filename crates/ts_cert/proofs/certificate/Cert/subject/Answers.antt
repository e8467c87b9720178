use Rattle.std.proofs.Math.Logic.{∥∥₁_elim}
use Rattle.std.proofs.Props.{props}
use Rattle.ts_cert.proofs.Held.{subject}
use Rattle.ts_cert.proofs.Sets.{names-one}
use Rattle.ts_cert.proofs.certificate.Cert.subject.Goals as goal

pub name_from-requires : goal.name_from-requires
name_from-requires c = ∥∥₁_elim c.args.self.laid (Prim.hlevel props) (λ laid. ∣ (_, subject c.args.self.octets.now c.args.self.layout laid) ∣₁)

pub returns : goal.returns
returns c = ∥∥₁_elim c.args.self.laid (names-one _ _) (λ laid. c.name_from.ensures _ (subject c.args.self.octets.now c.args.self.layout laid))
