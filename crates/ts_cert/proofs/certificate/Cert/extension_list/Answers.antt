use Rattle.std.proofs.Math.Logic.{∥∥₁_elim}
use Rattle.std.proofs.Props.{props}
use Rattle.ts_cert.proofs.Held.{extensions}
use Rattle.ts_cert.proofs.Sets.{extensions-one}
use Rattle.ts_cert.proofs.certificate.Cert.extension_list.Goals as goal

pub extensions_from-requires : goal.extensions_from-requires
extensions_from-requires c = ∥∥₁_elim c.args.self.laid (Prim.hlevel props) (λ laid. ∣ (_, extensions c.args.self.octets.now c.args.self.layout laid) ∣₁)

pub returns : goal.returns
returns c = ∥∥₁_elim c.args.self.laid (extensions-one _ _) (λ laid. c.extensions_from.ensures _ (extensions c.args.self.octets.now c.args.self.layout laid))
