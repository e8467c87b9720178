use Rattle.std.proofs.Common.{refl}
use Rattle.ts_der.specs.View.{now}
use Rattle.ts_name.proofs.Shapes.{name-again}
use Rattle.ts_name.proofs.name_reading.check_name.Goals as goal

pub returns-then-are_short_rdns : goal.returns-then-are_short_rdns
returns-then-are_short_rdns c =
    let some = c.if-are_short_rdns.ensures refl in
    rw (name-again (now c.args.name) some.0 some.1) refl
