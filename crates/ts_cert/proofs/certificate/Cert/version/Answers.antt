use Rattle.std.proofs.Math.Logic.{∥∥₁_elim}
use Rattle.ts_cert.proofs.Held.{version}
use Rattle.ts_cert.proofs.Sets.{version-one}
use Rattle.ts_cert.proofs.certificate.Cert.version.Goals as goal

pub returns : goal.returns
returns c = ∥∥₁_elim c.args.self.laid (version-one _ _) (version c.args.self.octets.now c.args.self.layout)
