use Rattle.std.proofs.Common.{arith}
use Rattle.std.proofs.lemmas.Int.{ints}
use Rattle.ts_time.specs.Civil.{moment_of}
use Rattle.ts_time.proofs.civil.CivilTime.moment.Goals as goal

pub returns : goal.returns
unfolding moment_of
returns c =
    let h = c.in_ok-number.ensures in
    (record { date = h.value.0; hour = omega arith; minute = omega arith; second = omega arith }, omega (arith, ints, h.value.1, h.bound))
