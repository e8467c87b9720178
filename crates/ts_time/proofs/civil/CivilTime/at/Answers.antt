use Rattle.std.proofs.Common.{refl, ◌≡◌, ℕ, ◌+◌, ◌*◌, ◌/◌, ◌%◌, ◌<◌, ◌≤◌, arith, rules, to_z, of_z, w64, unsigned_abs, FitsSigned}
use Rattle.jiff_core.proofs.SignedLemmas.{signed_arith}
use Rattle.ts_time.specs.Civil.{moment_of, year_start}
use Rattle.ts_time.proofs.civil.CivilTime.at.Goals as goal

-- a number of seconds below a day, from the clock that shows it
clock_seconds : (s : ℕ) → s < 86400 → (s / 3600 ≤ 23) × (s / 60 % 60 ≤ 59) × (s % 60 ≤ 59) × (3600 * (s / 3600) + 60 * (s / 60 % 60) + s % 60 ≡ s)
clock_seconds s h = (omega arith, omega arith, omega arith, omega arith)

pub returns-in_err-year-clause-none : goal.returns-in_err-year-clause-none
unfolding year_start
returns-in_err-year-clause-none c =
    let h = c.in_err-year.ensures.none in
    let d = c.div_euclid.ensures in
    let v : c.moment.inside.0 ≡ c.args.moment = c.moment.view_is in
    let range : FitsSigned w64 c.moment.inside.0 = search rules in
    rw c.from_residual.ensures (λ some. cc, λ within. h.1 (omega (arith, signed_arith, within.0, within.1), omega (arith, signed_arith, within.0, within.1)))

pub returns-clause-found : goal.returns-clause-found
unfolding moment_of
returns-clause-found c =
    let h = c.in_ok-year.ensures.found in
    let d = c.div_euclid.ensures in
    let r = c.rem_euclid-seconds.ensures in
    let v : c.moment.inside.0 ≡ c.args.moment = c.moment.view_is in
    let range : FitsSigned w64 c.moment.inside.0 = search rules in
    let clock = clock_seconds (unsigned_abs (to_z w64 (of_z w64 c.rem_euclid-seconds.result))) (omega (arith, signed_arith)) in
    (record { date = h.0; hour = clock.0; minute = clock.1; second = clock.2 }, omega (arith, signed_arith, clock.3, h.1))

pub returns-clause-none : goal.returns-clause-none
unfolding year_start
returns-clause-none c =
    let h = c.in_ok-year.ensures.none.0 refl in
    let d = c.div_euclid.ensures in
    let v : c.moment.inside.0 ≡ c.args.moment = c.moment.view_is in
    let range : FitsSigned w64 c.moment.inside.0 = search rules in
    (λ some. (omega (arith, signed_arith, h.0, h.1), omega (arith, signed_arith, h.0, h.1)), λ within. refl)
