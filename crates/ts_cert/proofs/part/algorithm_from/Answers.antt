use Rattle.std.proofs.Math.Logic.{∥∥₁_elim}
use Rattle.std.proofs.Props.{props}
use Rattle.ts_field.proofs.Algorithms.{algorithm-part}
use Rattle.ts_cert.proofs.Held.{only-there, never-refused}
use Rattle.ts_cert.proofs.part.algorithm_from.Goals as goal

pub at-requires : goal.at-requires
at-requires c = ∥∥₁_elim c.requires (Prim.hlevel props) (λ h. h.1.begins)

pub unreachable-requires : goal.unreachable-requires
unreachable-requires c = ∥∥₁_elim c.requires (λ x y. absurd x) (λ h. never-refused algorithm-part c.args.octets.now c.args.at c.at.result c.at.ensures c.in-Err.field-0 c.in-Err.ensures h.0 h.1)

pub returns : goal.returns
returns c = only-there algorithm-part c.args.octets.now c.args.at c.at.result c.at.ensures _ _ c.in-Ok.ensures
