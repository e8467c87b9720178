use Rattle.std.proofs.Common.{◌≡◌, pos, ap, arith, rules, to_z, of_z, w8, w16, IsOk}
use Rattle.std.proofs.lemmas.Int.{ints}
use Rattle.jiff_core.specs.Date.{epoch_day, IsYmd}
use Rattle.ts_time.proofs.CalendarLemmas.{IsPlainDate-from, IsDate-from, epoch_day-IsYmd}
use Rattle.ts_time.proofs.calendar.number_of_date.Goals as goal

pub returns-in_err-date-clause-value : goal.returns-in_err-date-clause-value
returns-in_err-date-clause-value c =
    let year : to_z w16 (of_z w16 c.in_ok-year.year) ≡ pos c.args.year = search rules in
    let month : to_z w8 (of_z w8 c.in_ok-month.month) ≡ pos c.args.month = search rules in
    let day : to_z w8 (of_z w8 c.in_ok-day.day) ≡ pos c.args.day = search rules in
    rw c.from_residual-in_err-date.ensures (λ h. let ok : IsOk c.new.result = c.new.ensures.succeeds.1 (rw (year, month, day) (IsPlainDate-from _ _ _ h)) in cc (c.in_err-date.ensures.variant))

pub returns-clause-value : goal.returns-clause-value
returns-clause-value c =
    let year : to_z w16 (of_z w16 c.in_ok-year.year) ≡ pos c.args.year = search rules in
    let month : to_z w8 (of_z w8 c.in_ok-month.month) ≡ pos c.args.month = search rules in
    let day : to_z w8 (of_z w8 c.in_ok-day.day) ≡ pos c.args.day = search rules in
    let ok : IsOk c.new.result = search rules in
    let date = rw (year, month, day) at (c.new.ensures.succeeds.0 ok) in
    let ymd : IsYmd (to_z w16 (of_z w16 c.in_ok-year.year)) (to_z w8 (of_z w8 c.in_ok-month.month)) (to_z w8 (of_z w8 c.in_ok-day.day)) c.in_ok-date.date = search rules in
    let number = epoch_day-IsYmd _ _ _ c.in_ok-date.date (rw (year, month, day) at ymd) in
    let same = ap epoch_day c.to_plain.ensures in
    (IsDate-from _ _ _ date, omega (arith, ints, c.to_unix_epoch_day.ensures.value, same, number, c.to_unix_epoch_day.ensures.bound))
