-- The day numbers of the definitions are those of `jiff`.
use Rattle.std.proofs.Common.{◌≡◌, ℕ, zero, suc, ◌+◌, ◌-◌, ◌≤◌, refl, sym, ap, ◌∙◌, arith, ℤ, pos, neg_ℤ, ◌+ℤ◌, ◌<ℤ◌, ◌≤ℤ◌}
use Rattle.jiff_core.specs.declared.civil.date.Date.{Date}
use Rattle.jiff_core.specs.Calendar.{days_of_years, days_of_months as plain_months, day_count, days_from_civil, IsCivilDate, IsDate as IsPlainDate}
use Rattle.jiff_core.specs.Date.{epoch_day, IsYmd}
use Rattle.jiff_core.proofs.SignedLemmas.{signed_arith}
use Rattle.jiff_core.proofs.MarchLemmas.{leap_day-shift, days_in_year-leap_day, days_of_years-suc}
use Rattle.jiff_core.proofs.CalendarLemmas.{days_from_civil-day_count, day_count-year_bounds, day_count-lt_year, day_of_year_bound}
use Rattle.jiff_core.proofs.DateLemmas.{civil, days_from_civil-max, days_from_civil-next_year, epoch_day_range, epoch_day_injective}
use Rattle.ts_time.specs.Calendar.{days_in_year, days_in_month, days_before_year, days_of_months, days_since_year_0, day_number, IsDate}

months_same : (y n : ℕ) → plain_months (pos y) n ≡ days_of_months y n
unfolding plain_months days_of_months
months_same y zero = refl
months_same y (suc n) = ap (λ k. k + days_in_month y (suc n)) (months_same y n)

days_before_year-zero : days_before_year 0 ≡ 0
unfolding days_before_year
days_before_year-zero = refl

days_before_year-suc : (y : ℕ) → days_before_year (suc y) ≡ days_before_year y + days_in_year y
unfolding days_before_year
days_before_year-suc y = refl

-- `jiff` counts from a year that lies a multiple of 400 years earlier
years_same : (y : ℕ) → days_of_years (y + 10000) ≡ days_of_years 10000 + days_before_year y
years_same zero = omega (arith, days_before_year-zero)
years_same (suc y) =
    let next : suc y + 10000 ≡ suc (y + 10000) = omega arith in
    let here = leap_day-shift (pos y) (y + 10000) refl in
    rw next (omega (arith, years_same y, days_before_year-suc y, days_of_years-suc (y + 10000), days_in_year-leap_day (pos y)))

day_count_same : (y m d : ℕ) → 1 ≤ d → day_count (pos y) m d ≡ days_of_years 10000 + days_since_year_0 y m d
unfolding day_count
day_count_same y m d h = omega (arith, years_same y, months_same y (m - 1))

pub number_same : (y m d : ℕ) → 1 ≤ d → days_from_civil (pos y) m d ≡ day_number y m d
unfolding days_from_civil day_number
number_same y m d h =
    omega (arith, signed_arith, day_count_same y m d h, day_count_same 1970 1 1 (omega arith))

-- the day number of a date of `jiff` whose year is a natural number
pub epoch_day_same : (date : Date) (y : ℕ) → date.year ≡ pos y → epoch_day date ≡ day_number y date.month date.day
epoch_day_same date y e = rw e (number_same y date.month date.day date.day_in.0)

pub day_number-epoch : day_number 1970 1 1 ≡ pos 0
unfolding day_number
day_number-epoch = omega (arith, signed_arith)

-- the years 0 to 9999 lie within the years of `jiff`, and end with them
pub year_0_bound : neg_ℤ (pos 4_371_587) ≤ℤ day_number 0 1 1
year_0_bound =
    omega (arith, signed_arith, number_same 0 1 1 (omega arith), days_from_civil-day_count (pos 0) 1 1, day_count-year_bounds (pos 0) (omega (arith, signed_arith), omega (arith, signed_arith)))

pub year_10000 : day_number 10000 1 1 ≡ pos 2_932_897
year_10000 =
    sym (number_same 10000 1 1 (omega arith)) ∙ days_from_civil-next_year (pos 9999) (pos 10000) (omega (arith, signed_arith)) refl ∙ ap (λ z. z +ℤ pos 1) days_from_civil-max

pub after_year_0 : (y m d : ℕ) → day_number 0 1 1 ≤ℤ day_number y m d
unfolding day_number days_before_year days_of_months
after_year_0 y m d = omega (arith, signed_arith)

pub before_year_0 : (date : Date) → date.year <ℤ pos 0 → epoch_day date <ℤ day_number 0 1 1
before_year_0 date h =
    omega (arith, signed_arith, number_same 0 1 1 (omega arith), days_from_civil-day_count, day_count-lt_year date.year date.month date.day (pos 0) 1 1 (civil date) (omega arith) h)

-- the calendar of the definitions has a day exactly where that of `jiff` has it
pub IsPlainDate-from : (y m d : ℕ) → IsDate y m d → IsPlainDate (pos y) (pos m) (pos d)
IsPlainDate-from y m d h =
    let year = h.year_in in
    let month = h.month_in in
    let day = h.day_in in
    ((omega (arith, signed_arith), omega (arith, signed_arith)), (omega (arith, signed_arith), omega (arith, signed_arith)), (omega (arith, signed_arith), omega (arith, signed_arith)))

pub IsCivilDate-from : (y m d : ℕ) → IsDate y m d → IsCivilDate (pos y) m d
IsCivilDate-from y m d h = ((omega (arith, signed_arith), omega (arith, signed_arith, h.year_in)), h.month_in, h.day_in)

abbrev date_of : (y m d : ℕ) → IsDate y m d → Date
date_of y m d h =
    record { year = pos y; month = m; day = d; year_in = (IsCivilDate-from y m d h).0; month_in = h.month_in; day_in = h.day_in }

pub IsDate-from : (y m d : ℕ) → IsPlainDate (pos y) (pos m) (pos d) → IsDate y m d
IsDate-from y m d h =
    record {
      year_in = omega (arith, signed_arith, h.0.1);
      month_in = (omega (arith, signed_arith, h.1.0), omega (arith, signed_arith, h.1.1));
      day_in = (omega (arith, signed_arith, h.2.0), omega (arith, signed_arith, h.2.1));
    }

pub epoch_day-IsYmd : (y m d : ℕ) (date : Date) → IsYmd (pos y) (pos m) (pos d) date → epoch_day date ≡ day_number y m d
epoch_day-IsYmd y m d date h =
    let month : date.month ≡ m = cc (h.1) in
    let day : date.day ≡ d = cc (h.2) in
    epoch_day_same date y h.0 ∙ rw (month, day) refl

-- a date of `jiff` that has this natural year is one of the definitions
IsDate-civil : (y m d : ℕ) (year : ℤ) → year ≡ pos y → IsCivilDate year m d → IsDate y m d
IsDate-civil y m d year e h =
    let h' = rw e at h in
    record {
      year_in = omega (arith, signed_arith);
      month_in = (omega (arith, signed_arith), omega (arith, signed_arith));
      day_in = (omega (arith, signed_arith), omega (arith, signed_arith));
    }

pub IsDate-jiff : (y : ℕ) (date : Date) → date.year ≡ pos y → IsDate y date.month date.day
IsDate-jiff y date e = IsDate-civil y date.month date.day date.year e (civil date)

-- and lies in the years 0 to 9999
pub in_years : (y : ℕ) (date : Date) → date.year ≡ pos y → (day_number 0 1 1 ≤ℤ epoch_day date) × (epoch_day date <ℤ day_number 10000 1 1)
in_years y date e =
    (rw (epoch_day_same date y e) (after_year_0 y date.month date.day), omega (arith, signed_arith, epoch_day_range date, year_10000))

days_before_year-add : (y k : ℕ) → days_before_year y ≤ days_before_year (k + y)
days_before_year-add y zero = let same : 0 + y ≡ y = omega arith in rw same (omega arith)
days_before_year-add y (suc k) =
    let next : suc k + y ≡ suc (k + y) = omega arith in
    rw next (omega (arith, days_before_year-add y k, days_before_year-suc (k + y)))

-- a later year begins later
pub new_year_mono : (y z : ℕ) → y ≤ z → day_number y 1 1 ≤ℤ day_number z 1 1
unfolding day_number days_of_months
new_year_mono y z h =
    let same : z - y + y ≡ z = omega arith in
    omega (arith, signed_arith, rw same at (days_before_year-add y (z - y)))

-- a date lies between its new year and the next
pub in_own_year : (y m d : ℕ) → IsDate y m d → (day_number y 1 1 ≤ℤ day_number y m d) × (day_number y m d <ℤ day_number (y + 1) 1 1)
unfolding day_number days_of_months
in_own_year y m d h =
    let first = h.day_in in
    let next : y + 1 ≡ suc y = omega arith in
    let bound = day_of_year_bound (pos y) m d (IsCivilDate-from y m d h) in
    (omega (arith, signed_arith), rw next (omega (arith, signed_arith, bound, months_same y (m - 1), days_before_year-suc y)))

-- no two dates have one number
pub day_number_injective : (y m d y₂ m₂ d₂ : ℕ) → IsDate y m d → IsDate y₂ m₂ d₂ → day_number y m d ≡ day_number y₂ m₂ d₂ → (y ≡ y₂) × (m ≡ m₂) × (d ≡ d₂)
day_number_injective y m d y₂ m₂ d₂ h k e =
    let same = epoch_day_injective (date_of y m d h) (date_of y₂ m₂ d₂ k) (number_same y m d h.day_in.0 ∙ e ∙ sym (number_same y₂ m₂ d₂ k.day_in.0)) in
    (cc (same.0), same.1, same.2)
