use Rattle.std.proofs.Math.Logic.{∥∥₁_elim}
use Rattle.std.proofs.Props.{props}
use Rattle.ts_cert.proofs.Held.{signature_algorithm}
use Rattle.ts_cert.proofs.Sets.{algorithm-one}
use Rattle.ts_cert.proofs.certificate.Cert.signature_algorithm.Goals as goal

pub algorithm_from-requires : goal.algorithm_from-requires
algorithm_from-requires c = ∥∥₁_elim c.args.self.laid (Prim.hlevel props) (λ laid. ∣ (_, signature_algorithm c.args.self.octets.now c.args.self.layout laid) ∣₁)

pub returns : goal.returns
returns c = ∥∥₁_elim c.args.self.laid (algorithm-one _ _) (λ laid. c.algorithm_from.ensures _ (signature_algorithm c.args.self.octets.now c.args.self.layout laid))
