use Rattle.std.proofs.Common.{◌∷◌, [], refl}
use Rattle.ts_der.specs.View.{now}
use Rattle.ts_name.proofs.Shapes.{rdn-again}
use Rattle.ts_name.proofs.name_reading.check_rdn.Goals as goal

pub returns-then-is_one_short_attribute : goal.returns-then-is_one_short_attribute
returns-then-is_one_short_attribute c =
    let one = c.if-is_one_short_attribute.ensures refl in
    rw (rdn-again (now c.args.set) (one.0 ∷ []) one.1.1 one.1.0) refl
