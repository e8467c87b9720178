-- The moment that is read of octets is the one that they name, and each that they name is read.
use Rattle.std.proofs.Common.{◌≡◌, ℕ, ◌+◌, ◌-◌, ◌*◌, ◌/◌, ◌%◌, ◌<◌, ◌≤◌, Bool, true, false, ◌&&◌}
use Rattle.std.proofs.Common.{cond, eqb, leb, List, [], ◌∷◌, ◌++◌, length, codes, Option, Some}
use Rattle.std.proofs.Common.{None, option_map, option_and_then, IfSome, inl, inr, refl, sym, ap}
use Rattle.std.proofs.Common.{◌∙◌, arith, ℤ}
use Rattle.std.specs.Char.{is_ascii_digit}
use Rattle.std.specs.Int.{is_in_range}
use Rattle.std.specs.List.{flat_map, AllByRecursion}
use Rattle.std.proofs.lemmas.Bool.{eqb-true, leb-true, le-leb, and_parts, and_from, cases_Bool}
use Rattle.ts_time.specs.declared.civil.CivilTime.{CivilTime}
use Rattle.ts_time.specs.Calendar.{IsDate, days_in_month}
use Rattle.ts_time.specs.Civil.{Exists, moment_of}
use Rattle.ts_time.specs.Text.{two_digits, general_text, year_of_two, IsGeneral, IsUtc}
use Rattle.ts_time.specs.Reading.{number_of_two, numbers_in, is_date, does_exist, moment_if, moment_in, utc_moment, general_moment, utc_in, generalized_time_in}

-- ---- numbers of two digits

abbrev AreBelow100 : List ℕ → Type 0
AreBelow100 numbers = AllByRecursion (λ n. n < 100) numbers

-- what numbers are written as
abbrev written : List ℕ → List ℕ
written numbers = flat_map two_digits numbers ++ codes "Z"

in_range : (low high n : ℕ) → is_in_range low high n ≡ true → (low ≤ n) × (n ≤ high)
in_range low high n h = let p = and_parts (leb low n) (leb n high) h in (leb-true low n p.0, leb-true n high p.1)

in_range-only : (low high n : ℕ) → low ≤ n → n ≤ high → is_in_range low high n ≡ true
in_range-only low high n a b = and_from (leb low n) (leb n high) (le-leb low n a) (le-leb n high b)

-- the octets are the two digits of a number
record AreDigitsOf (tens ones n : ℕ) : Type 0 where
  pub small : n < 100
  pub tens_is : 48 + n / 10 ≡ tens
  pub ones_is : 48 + n % 10 ≡ ones

number_of_two-found : (tens ones n : ℕ) → number_of_two tens ones ≡ Some n → AreDigitsOf tens ones n
number_of_two-found tens ones n h = elim (cases_Bool (is_ascii_digit tens && is_ascii_digit ones)) [
  | inl digits ↦
      let p = and_parts (is_ascii_digit tens) (is_ascii_digit ones) digits in
      let t = in_range 48 57 tens p.0 in
      let o = in_range 48 57 ones p.1 in
      let found = rw digits at h in
      let is : 10 * (tens - 48) + (ones - 48) ≡ n = cc in
      record { small = omega arith; tens_is = omega arith; ones_is = omega arith }
  | inr other ↦ absurd (let found = rw other at h in cc)
]

number_of_two-only : (n : ℕ) → n < 100 → number_of_two (48 + n / 10) (48 + n % 10) ≡ Some n
number_of_two-only n small =
    let t = in_range-only 48 57 (48 + n / 10) (omega arith) (omega arith) in
    let o = in_range-only 48 57 (48 + n % 10) (omega arith) (omega arith) in
    let is : 10 * (48 + n / 10 - 48) + (48 + n % 10 - 48) ≡ n = omega arith in
    rw (t, o) (ap (λ (k : ℕ). Some k) is)

-- the octets are these numbers in two digits each, and a Z
record AreNumbersOf (octets numbers : List ℕ) : Type 0 where
  pub small : AreBelow100 numbers
  pub encoded : octets ≡ written numbers

numbers_in-found : (octets numbers : List ℕ) → numbers_in octets ≡ Some numbers → AreNumbersOf octets numbers
unfolding numbers_in
numbers_in-found [] numbers h = absurd cc
numbers_in-found (z ∷ []) numbers h = elim (cases_Bool (eqb z 90)) [
  | inl end ↦
      let found = rw end at h in
      let is : [] ≡ numbers = cc in
      rw (eqb-true z 90 end, ← is) (record { small = tt; encoded = refl })
  | inr other ↦ absurd (let found = rw other at h in cc)
]
numbers_in-found (tens ∷ ones ∷ octets) numbers h =
    by_parts (number_of_two tens ones) (numbers_in octets) (λ n e. number_of_two-found tens ones n e) (λ ns e. numbers_in-found octets ns e) h
  where
    by_parts : (a : Option ℕ) (b : Option (List ℕ)) → ((n : ℕ) → a ≡ Some n → AreDigitsOf tens ones n) → ((ns : List ℕ) → b ≡ Some ns → AreNumbersOf octets ns)
        → option_and_then (λ n. option_map (λ ns. n ∷ ns) b) a ≡ Some numbers → AreNumbersOf (tens ∷ ones ∷ octets) numbers
    by_parts None b first rest e = absurd cc
    by_parts (Some n) None first rest e = absurd cc
    by_parts (Some n) (Some ns) first rest e =
        let is : n ∷ ns ≡ numbers = cc in
        let f = first n refl in
        let r = rest ns refl in
        rw (← is) (record { small = (f.small, r.small); encoded = rw (f.tens_is, f.ones_is, ← r.encoded) refl })

-- numbers are read of the octets that they are written as
numbers_in-only : (numbers : List ℕ) → AreBelow100 numbers → numbers_in (written numbers) ≡ Some numbers
unfolding numbers_in
numbers_in-only [] small = refl
numbers_in-only (n ∷ numbers) small = rw (number_of_two-only n small.0, numbers_in-only numbers small.1) refl

-- ---- times that exist

IsDate-found : (year month day : ℕ) → is_date year month day ≡ true → IsDate year month day
IsDate-found year month day h =
    let p = and_parts (leb year 9999 && is_in_range 1 12 month) (is_in_range 1 (days_in_month year month) day) h in
    let q = and_parts (leb year 9999) (is_in_range 1 12 month) p.0 in
    record {
      year_in = leb-true year 9999 q.0;
      month_in = in_range 1 12 month q.1;
      day_in = in_range 1 (days_in_month year month) day p.1;
    }

IsDate-only : (year month day : ℕ) → IsDate year month day → is_date year month day ≡ true
IsDate-only year month day h =
    and_from (leb year 9999 && is_in_range 1 12 month) (is_in_range 1 (days_in_month year month) day)
    (and_from (leb year 9999) (is_in_range 1 12 month) (le-leb year 9999 h.year_in) (in_range-only 1 12 month h.month_in.0 h.month_in.1))
    (in_range-only 1 (days_in_month year month) day h.day_in.0 h.day_in.1)

clock_parts : (a b c d : Bool) → (a && b && c && d) ≡ true → (a ≡ true) × (b ≡ true) × (c ≡ true) × (d ≡ true)
clock_parts true true true true h = (refl, refl, refl, refl)
clock_parts true true true false h = absurd cc
clock_parts true true false d h = absurd cc
clock_parts true false c d h = absurd cc
clock_parts false b c d h = absurd cc

Exists-found : (t : CivilTime) → does_exist t ≡ true → Exists t
Exists-found t h =
    let p = clock_parts (is_date t.year t.month t.day) (leb t.hour 23) (leb t.minute 59) (leb t.second 59) h in
    record {
      date = IsDate-found t.year t.month t.day p.0;
      hour = leb-true t.hour 23 p.1;
      minute = leb-true t.minute 59 p.2;
      second = leb-true t.second 59 p.3;
    }

Exists-only : (t : CivilTime) → Exists t → does_exist t ≡ true
Exists-only t h =
    rw (IsDate-only t.year t.month t.day h.date, le-leb t.hour 23 h.hour, le-leb t.minute 59 h.minute, le-leb t.second 59 h.second) refl

-- ---- the moments of times

-- the numbers of a time after its year
abbrev behind_year : CivilTime → List ℕ
behind_year t = t.month ∷ t.day ∷ t.hour ∷ t.minute ∷ t.second ∷ []

-- a time that exists, in this year, and its numbers after the year
record IsTimeOf (year : ℕ) (numbers : List ℕ) (m : ℤ) : Type 0 where
  pub time : CivilTime
  pub year_is : time.year ≡ year
  pub exists : Exists time
  pub numbers_are : numbers ≡ behind_year time
  pub named : m ≡ moment_of time

moment_if-found : (t : CivilTime) (m : ℤ) → moment_if t ≡ Some m → Exists t × (m ≡ moment_of t)
moment_if-found t m h = by_test (does_exist t) (λ e. Exists-found t e) h
  where
    by_test : (b : Bool) → (b ≡ true → Exists t) → cond b (Some (moment_of t)) None ≡ Some m → Exists t × (m ≡ moment_of t)
    by_test true exists e = (exists refl, cc)
    by_test false exists e = absurd cc

moment_in-found : (year : ℕ) (numbers : List ℕ) (m : ℤ) → moment_in year numbers ≡ Some m → IsTimeOf year numbers m
unfolding moment_in
moment_in-found year (month ∷ day ∷ hour ∷ minute ∷ second ∷ []) m h =
    let t : CivilTime = record { year = year; month = month; day = day; hour = hour; minute = minute; second = second } in
    let found = moment_if-found t m h in
    record { time = t; year_is = refl; exists = found.0; numbers_are = refl; named = found.1 }
moment_in-found year numbers m h = absurd cc

moment_in-only : (t : CivilTime) → Exists t → moment_in t.year (behind_year t) ≡ Some (moment_of t)
unfolding moment_in
moment_in-only t h = rw (Exists-only t h) refl

some_parts : {A B : Type 0} (f : A → Option B) (x : Option A) (y : B) → option_and_then f x ≡ Some y → (a : A) × (x ≡ Some a) × (f a ≡ Some y)
some_parts f None y h = absurd cc
some_parts f (Some a) y h = (a, refl, h)

day_bound : (year month : ℕ) → days_in_month year month ≤ 31
day_bound year month = grind arith

behind_year-small : (t : CivilTime) → Exists t → AreBelow100 (behind_year t)
behind_year-small t h =
    let month = h.date.month_in in
    let day = h.date.day_in in
    let bound = day_bound t.year t.month in
    (omega arith, (omega arith, (omega (arith, h.hour), (omega (arith, h.minute), (omega (arith, h.second), tt)))))

-- ---- UTCTime

utc_moment-found : (text numbers : List ℕ) (m : ℤ) → AreNumbersOf text numbers → utc_moment numbers ≡ Some m → IsUtc text m
unfolding utc_moment
utc_moment-found text [] m r h = absurd cc
utc_moment-found text (yy ∷ numbers) m r h =
    let t = moment_in-found (year_of_two yy) numbers m h in
    record {
      yy = yy;
      two = r.small.0;
      time = t.time;
      year = t.year_is;
      exists = t.exists;
      encoded = r.encoded ∙ ap (λ ns. written (yy ∷ ns)) t.numbers_are;
      named = t.named;
    }

-- a moment that is read is the one that the octets name
pub utc_in-found : (text : List ℕ) (m : ℤ) → utc_in text ≡ Some m → IsUtc text m
unfolding utc_in
utc_in-found text m h =
    let p = some_parts utc_moment (numbers_in text) m h in
    utc_moment-found text p.0 m (numbers_in-found text p.0 p.1) p.2

-- a moment that the octets name is read
pub utc_in-only : (text : List ℕ) (m : ℤ) → IsUtc text m → utc_in text ≡ Some m
unfolding utc_in utc_moment
utc_in-only text m h =
    let numbers = h.yy ∷ behind_year h.time in
    let read : numbers_in text ≡ Some numbers = ap numbers_in h.encoded ∙ numbers_in-only numbers (h.two, behind_year-small h.time h.exists) in
    rw (read, ← h.year, h.named) (moment_in-only h.time h.exists)

-- ---- GeneralizedTime

written_year : (century year : ℕ) (t : CivilTime) → century < 100 → year < 100 → t.year ≡ 100 * century + year → written (century ∷ year ∷ behind_year t) ≡ general_text t
written_year century year t small₁ small₂ e =
    let c : t.year / 100 ≡ century = omega arith in
    let y : t.year % 100 ≡ year = omega arith in
    rw (c, y) refl

general_moment-found : (text numbers : List ℕ) (m : ℤ) → AreNumbersOf text numbers → general_moment numbers ≡ Some m → IsGeneral text m
unfolding general_moment
general_moment-found text [] m r h = absurd cc
general_moment-found text (century ∷ []) m r h = absurd cc
general_moment-found text (century ∷ year ∷ numbers) m r h =
    let t = moment_in-found (100 * century + year) numbers m h in
    record {
      time = t.time;
      exists = t.exists;
      encoded = r.encoded
          ∙ ap (λ ns. written (century ∷ year ∷ ns)) t.numbers_are
          ∙ written_year century year t.time r.small.0 r.small.1.0 t.year_is;
      named = t.named;
    }

-- a moment that is read is the one that the octets name
pub general_in-found : (text : List ℕ) (m : ℤ) → generalized_time_in text ≡ Some m → IsGeneral text m
unfolding generalized_time_in
general_in-found text m h =
    let p = some_parts general_moment (numbers_in text) m h in
    general_moment-found text p.0 m (numbers_in-found text p.0 p.1) p.2

-- a moment that the octets name is read
pub general_in-only : (text : List ℕ) (m : ℤ) → IsGeneral text m → generalized_time_in text ≡ Some m
unfolding generalized_time_in general_moment
general_in-only text m h =
    let high = h.exists.date.year_in in
    let numbers = h.time.year / 100 ∷ h.time.year % 100 ∷ behind_year h.time in
    let read : numbers_in text ≡ Some numbers = ap numbers_in h.encoded ∙ numbers_in-only numbers (omega arith, (omega arith, behind_year-small h.time h.exists)) in
    let year : 100 * (h.time.year / 100) + h.time.year % 100 ≡ h.time.year = omega arith in
    rw (read, year, h.named) (moment_in-only h.time h.exists)

-- ---- no text of either form has more than 15 octets

pub utc-short : (text : List ℕ) (m : ℤ) → IsUtc text m → length text ≤ 15
utc-short text m h = rw h.encoded (omega arith)

pub general-short : (text : List ℕ) (m : ℤ) → IsGeneral text m → length text ≤ 15
general-short text m h = rw h.encoded (omega arith)

-- ---- what the readers answer

-- two answers are one where both are the moment that meets P, if there is one
pub same_answer : (a b : Option ℤ) (P : ℤ → Type 0) → IfSome a P → ((m : ℤ) → P m → a ≡ Some m) → ((m : ℤ) → b ≡ Some m → P m) → ((m : ℤ) → P m → b ≡ Some m) → a ≡ b
same_answer (Some m) b P found only found₂ only₂ = sym (only₂ m found)
same_answer None (Some m) P found only found₂ only₂ = only m (found₂ m refl)
same_answer None None P found only found₂ only₂ = refl
