use Rattle.std.proofs.Common.{arith}
use Rattle.std.proofs.lemmas.List.{take_rest}
use Rattle.ts_wire.proofs.Bodies.{first_frame, first_fault}
use Rattle.ts_wire.proofs.feed.first.Goals as goal

pub returns-in-Ok : goal.returns-in-Ok
returns-in-Ok c =
    first_frame c.args.octets.now c.in-Ok-Some.size c.in-Ok.frame (λ i. omega (arith, c.type_inv.octets i)) (rw c.in-Ok-Some.field-0-is at c.in-Ok-Some.ensures) (rw take_rest at c.in-Ok.ensures)

pub returns-in-Err-frame_of : goal.returns-in-Err-frame_of
returns-in-Err-frame_of c =
    first_fault c.args.octets.now c.in-Ok-Some.size c.in-Err-frame_of.fault
    (λ i. omega (arith, c.type_inv.octets i)) (rw c.in-Ok-Some.field-0-is at c.in-Ok-Some.ensures)
    (rw take_rest at c.in-Err-frame_of.ensures)
