use Rattle.std.proofs.Common.{refl}
use Rattle.ts_der.specs.View.{now}
use Rattle.ts_name.proofs.Shapes.{rdn-single}
use Rattle.ts_name.proofs.name_reading.check_any_rdn.Goals as goal

pub returns-then-branch : goal.returns-then-branch
returns-then-branch c =
    let one = c.in_ok-check_attributes.ensures.single c.if-branch.true in
    rw (rdn-single (now c.args.set) one.0 c.args.set.octets one.1) refl
