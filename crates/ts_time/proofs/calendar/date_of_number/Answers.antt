use Rattle.std.proofs.Common.{refl, ◌≡◌, ◌<ℤ◌, pos, ◌+ℤ◌, ◌∙◌, ap, arith, rules, to_z, of_z, w16, w64, IsOk, unsigned_abs}
use Rattle.std.proofs.lemmas.Int.{ints}
use Rattle.jiff_core.specs.Date.{epoch_day}
use Rattle.ts_time.proofs.CalendarLemmas.{epoch_day-IsYmd, day_number-epoch, epoch_day_same, IsDate-jiff, year_0_bound, year_10000, before_year_0, in_years}
use Rattle.ts_time.proofs.calendar.date_of_number.Goals as goal

pub returns-in_err-date-clause-none : goal.returns-in_err-date-clause-none
returns-in_err-date-clause-none c =
    let epoch : epoch_day c.to_plain-epoch.result ≡ pos 0 = ap epoch_day c.to_plain-epoch.ensures ∙ epoch_day-IsYmd 1970 1 1 c.date.result c.date.ensures ∙ day_number-epoch in
    let refused : IsOk c.checked_add.result → ⊥ = λ ok. cc (c.in_err-date.ensures.variant) in
    rw c.from_residual.ensures (
      λ some. cc,
      λ h. absurd
          (refused (c.checked_add.ensures.succeeds.1 (
            omega (arith, ints, h.0, h.1, year_0_bound, year_10000, epoch),
            omega
                (arith, ints, h.0, h.1, year_0_bound, year_10000, epoch),
          ))),
    )

pub returns-then-date-lt0-clause-none : goal.returns-then-date-lt0-clause-none
returns-then-date-lt0-clause-none c =
    let epoch : epoch_day c.to_plain-epoch.result ≡ pos 0 = ap epoch_day c.to_plain-epoch.ensures ∙ epoch_day-IsYmd 1970 1 1 c.date.result c.date.ensures ∙ day_number-epoch in
    let number : epoch_day c.in_ok-date.date ≡ epoch_day c.to_plain-epoch.result +ℤ to_z w64 (of_z w64 c.args.number) = search rules in
    let t = c.if-date-lt0.true in
    let year : c.in_ok-date.date.year <ℤ pos 0 = omega (arith, ints) in
    (λ some. cc, λ h. absurd (omega (arith, ints, h.0, before_year_0 c.in_ok-date.date year, number, epoch)))

pub returns-clause-found : goal.returns-clause-found
returns-clause-found c =
    let epoch : epoch_day c.to_plain-epoch.result ≡ pos 0 = ap epoch_day c.to_plain-epoch.ensures ∙ epoch_day-IsYmd 1970 1 1 c.date.result c.date.ensures ∙ day_number-epoch in
    let number : epoch_day c.in_ok-date.date ≡ epoch_day c.to_plain-epoch.result +ℤ to_z w64 (of_z w64 c.args.number) = search rules in
    let t = c.if-date-lt0.false in
    let year : c.in_ok-date.date.year ≡ pos (unsigned_abs (to_z w16 (of_z w16 c.in_ok-date.date.year))) = omega (arith, ints) in
    (IsDate-jiff _ c.in_ok-date.date year, omega (arith, ints, number, epoch, epoch_day_same c.in_ok-date.date _ year))

pub returns-clause-none : goal.returns-clause-none
returns-clause-none c =
    let epoch : epoch_day c.to_plain-epoch.result ≡ pos 0 = ap epoch_day c.to_plain-epoch.ensures ∙ epoch_day-IsYmd 1970 1 1 c.date.result c.date.ensures ∙ day_number-epoch in
    let number : epoch_day c.in_ok-date.date ≡ epoch_day c.to_plain-epoch.result +ℤ to_z w64 (of_z w64 c.args.number) = search rules in
    let t = c.if-date-lt0.false in
    let year : c.in_ok-date.date.year ≡ pos (unsigned_abs (to_z w16 (of_z w16 c.in_ok-date.date.year))) = omega (arith, ints) in
    let within = in_years _ c.in_ok-date.date year in
    (λ some. (omega (arith, ints, number, epoch, within.0), omega (arith, ints, number, epoch, within.1)), λ h. refl)
