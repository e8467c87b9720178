use Rattle.std.proofs.Math.Logic.{∥∥₁_elim}
use Rattle.std.proofs.Props.{props}
use Rattle.ts_cert.proofs.Held.{tbs-ordered, tbs-within, tbs-between}
use Rattle.ts_cert.proofs.Sets.{octets-one}
use Rattle.ts_cert.proofs.certificate.Cert.tbs.Goals as goal

pub slice_bounds-result-count : goal.slice_bounds-result-count
slice_bounds-result-count c = ∥∥₁_elim c.args.self.laid (Prim.hlevel props) (tbs-ordered c.args.self.octets.now c.args.self.layout)

pub slice_bounds-result-start : goal.slice_bounds-result-start
slice_bounds-result-start c = ∥∥₁_elim c.args.self.laid (Prim.hlevel props) (tbs-ordered c.args.self.octets.now c.args.self.layout)

pub slice_bounds-result-end : goal.slice_bounds-result-end
slice_bounds-result-end c = ∥∥₁_elim c.args.self.laid (Prim.hlevel props) (tbs-within c.args.self.octets.now c.args.self.layout)

pub returns : goal.returns
returns c = ∥∥₁_elim c.args.self.laid (octets-one _ _) (tbs-between c.args.self.octets.now c.args.self.layout)
