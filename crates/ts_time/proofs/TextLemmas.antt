-- Each moment has one text of each form.
use Rattle.std.proofs.Common.{◌≡◌, ℕ, ◌+◌, ◌/◌, ◌%◌, ◌<◌, ◌≤◌, List, ◌++◌, refl, sym, ap, ◌∙◌, arith, ℤ, Option, Some, None, IfErr, ok_or}
use Rattle.ts_time.specs.declared.civil.CivilTime.{CivilTime}
use Rattle.ts_time.specs.Civil.{Exists, moment_of, IsInYears}
use Rattle.ts_time.specs.Text.{two_digits, text_in_year, general_text, year_of_two, IsGeneral, IsUtc}
use Rattle.ts_time.proofs.CivilLemmas.{IsSameTime, moment_of-same, moment_of_injective, moment_in_years}

-- where a value is the only one that meets P, the error for want of one comes only where none does
pub ok_or-only : {E : Type 0} (r : Option ℤ) (e : E) (P : ℤ → Type 0) → ((m : ℤ) → P m → r ≡ Some m) → IfErr (ok_or r e) (λ f. (f ≡ e) × ((m : ℤ) → ¬ (P m)))
ok_or-only (Some n) e P only = tt
ok_or-only None e P only = (refl, λ m h. cc (only m h))

text_in_year-same : (t u : CivilTime) → IsSameTime t u → text_in_year t ≡ text_in_year u
text_in_year-same t u h = rw (h.month, h.day, h.hour, h.minute, h.second) refl

pub IsGeneral-text : (text : List ℕ) (m : ℤ) (t : CivilTime) → IsGeneral text m → Exists t → moment_of t ≡ m → text ≡ general_text t
IsGeneral-text text m t h exists e =
    let same = moment_of_injective h.time t h.exists exists (sym h.named ∙ sym e) in
    h.encoded ∙ rw (same.year, same.month, same.day, same.hour, same.minute, same.second) refl

pub IsGeneral-in_years : (text : List ℕ) (m : ℤ) → IsGeneral text m → IsInYears 0 9999 m
IsGeneral-in_years text m h =
    rw h.named (moment_in_years 0 9999 h.time h.exists (omega arith) h.exists.date.year_in)

year_of_two-mod : (yy : ℕ) → yy < 100 → year_of_two yy % 100 ≡ yy
year_of_two-mod yy h = grind arith

year_of_two-bounds : (yy : ℕ) → yy < 100 → (1950 ≤ year_of_two yy) × (year_of_two yy ≤ 2049)
year_of_two-bounds yy h = grind arith

pub year_of_two-back : (y : ℕ) → 1950 ≤ y → y ≤ 2049 → y ≡ year_of_two (y % 100)
year_of_two-back y low high = grind arith

pub IsUtc-in_years : (text : List ℕ) (m : ℤ) → IsUtc text m → IsInYears 1950 2049 m
IsUtc-in_years text m h =
    let years = year_of_two-bounds h.yy h.two in
    let year = h.year in
    rw h.named (moment_in_years 1950 2049 h.time h.exists (omega arith) (omega arith))

pub IsUtc-text : (text : List ℕ) (m : ℤ) (t : CivilTime) → IsUtc text m → Exists t → moment_of t ≡ m → text ≡ two_digits (t.year % 100) ++ text_in_year t
IsUtc-text text m t h exists e =
    let same = moment_of_injective h.time t h.exists exists (sym h.named ∙ sym e) in
    let yy : h.yy ≡ t.year % 100 = sym (year_of_two-mod h.yy h.two) ∙ ap (λ y. y % 100) (sym h.year ∙ same.year) in
    h.encoded ∙ rw (yy, same.month, same.day, same.hour, same.minute, same.second) refl

pub IsGeneral-one_text : (a b : List ℕ) (m : ℤ) → IsGeneral a m → IsGeneral b m → a ≡ b
IsGeneral-one_text a b m h k = IsGeneral-text a m k.time h k.exists (sym k.named) ∙ sym k.encoded

pub IsUtc-one_text : (a b : List ℕ) (m : ℤ) → IsUtc a m → IsUtc b m → a ≡ b
IsUtc-one_text a b m h k =
    IsUtc-text a m k.time h k.exists (sym k.named) ∙ sym (IsUtc-text b m k.time k k.exists (sym k.named))

two_digits_injective : (a b : ℕ) → 48 + a / 10 ≡ 48 + b / 10 → 48 + a % 10 ≡ 48 + b % 10 → a ≡ b
two_digits_injective a b tens ones = omega arith

-- what each text says after the year, if the years are the same
text_in_year-year : (t u : CivilTime) → t.year ≡ u.year → text_in_year t ≡ text_in_year u → IsSameTime t u
text_in_year-year t u year e =
    record {
      year = year;
      month = two_digits_injective t.month u.month (cc) (cc);
      day = two_digits_injective t.day u.day (cc) (cc);
      hour = two_digits_injective t.hour u.hour (cc) (cc);
      minute = two_digits_injective t.minute u.minute (cc) (cc);
      second = two_digits_injective t.second u.second (cc) (cc);
    }

pub IsGeneral-one_moment : (text : List ℕ) (m n : ℤ) → IsGeneral text m → IsGeneral text n → m ≡ n
IsGeneral-one_moment text m n h k =
    let e : general_text h.time ≡ general_text k.time = sym h.encoded ∙ k.encoded in
    let century = two_digits_injective (h.time.year / 100) (k.time.year / 100) (cc) (cc) in
    let year = two_digits_injective (h.time.year % 100) (k.time.year % 100) (cc) (cc) in
    let rest : text_in_year h.time ≡ text_in_year k.time = cc in
    h.named ∙ moment_of-same h.time k.time (text_in_year-year h.time k.time (omega (arith, century, year)) rest) ∙ sym k.named

pub IsUtc-one_moment : (text : List ℕ) (m n : ℤ) → IsUtc text m → IsUtc text n → m ≡ n
IsUtc-one_moment text m n h k =
    let e : two_digits h.yy ++ text_in_year h.time ≡ two_digits k.yy ++ text_in_year k.time = sym h.encoded ∙ k.encoded in
    let yy = two_digits_injective h.yy k.yy (cc) (cc) in
    let rest : text_in_year h.time ≡ text_in_year k.time = cc in
    h.named ∙ moment_of-same h.time k.time (text_in_year-year h.time k.time (h.year ∙ ap year_of_two yy ∙ sym k.year) rest) ∙ sym k.named
