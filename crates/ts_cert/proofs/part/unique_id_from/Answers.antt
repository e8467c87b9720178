use Rattle.std.proofs.Math.Logic.{∥∥₁_elim}
use Rattle.ts_cert.proofs.Certificates.{unique-part}
use Rattle.ts_cert.proofs.Held.{only-if-there, never-refused-if}
use Rattle.ts_cert.proofs.part.unique_id_from.Goals as goal

pub unreachable-requires : goal.unreachable-requires
unreachable-requires c =
    ∥∥₁_elim c.requires (λ x y. absurd x)
    (λ h. never-refused-if (unique-part c.args.tag) c.args.octets.now c.args.at c.at.result
    c.at.ensures c.in-Err.field-0 c.in-Err.ensures h.0 h.1)

pub returns : goal.returns
returns c = only-if-there (unique-part c.args.tag) c.args.octets.now c.args.at c.at.result c.at.ensures _ _ c.in-Ok.ensures
