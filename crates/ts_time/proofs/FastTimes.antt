-- UTCTimes by the bounds of their octets.
use Rattle.std.proofs.Common.{◌≡◌, ℕ, ◌+◌, ◌-◌, ◌*◌, ◌/◌, ◌%◌, ◌<◌, ◌≤◌, true, List, [], ◌∷◌, ◌++◌, length, get_or, take, drop, refl, sym, ap, ap₂, ◌∙◌, arith, ltb, leb, subst}
use Rattle.std.proofs.lemmas.Bool.{ltb-true, leb-true, le-leb}
use Rattle.std.proofs.lemmas.List.{take-append-drop}
use Rattle.std.specs.Prelude.{ℤ}
use Rattle.ts_der.specs.Between.{lie_between}
use Rattle.ts_der.specs.Octets.{AreOctets}
use Rattle.ts_der.proofs.Standing.{one_by_one, encoded-out}
use Rattle.ts_der.proofs.Lanes.{between-at, between-length}
use Rattle.ts_time.specs.declared.civil.CivilTime.{CivilTime}
use Rattle.ts_time.specs.Calendar.{days_in_month}
use Rattle.ts_time.specs.Civil.{Exists, moment_of}
use Rattle.ts_time.specs.Text.{two_digits, text_in_year, year_of_two, IsUtc}

-- the number that two digits write
abbrev pub two : ℕ → ℕ → ℕ
two tens ones = 10 * (tens - 48) + (ones - 48)

-- a digit, of a number that has no greater one
pub record IsDigitTo (greatest octet : ℕ) : Type 0 where
  pub least : 48 ≤ octet
  pub most : octet ≤ greatest

year_of_two-most : (yy : ℕ) → yy < 100 → year_of_two yy ≤ 9999
year_of_two-most yy h = grind arith

-- no month is shorter
pub twenty-eight : (year month : ℕ) → 28 ≤ days_in_month year month
twenty-eight year month = grind arith

digits-two : (tens ones : ℕ) → IsDigitTo 57 tens → IsDigitTo 57 ones → two_digits (two tens ones) ≡ tens ∷ ones ∷ []
digits-two tens ones t o =
    let a : 48 + two tens ones / 10 ≡ tens = omega arith in
    let b : 48 + two tens ones % 10 ≡ ones = omega arith in
    rw (a, b) refl

-- two digits more
more : (tens ones : ℕ) (left right : List ℕ) → IsDigitTo 57 tens → IsDigitTo 57 ones → left ≡ right → two_digits (two tens ones) ++ left ≡ tens ∷ ones ∷ right
more tens ones left right t o e = ap₂ (λ (x y : List ℕ). x ++ y) (digits-two tens ones t o) e

-- a digit up to 5 is one
to-nine : (octet : ℕ) → IsDigitTo 53 octet → IsDigitTo 57 octet
to-nine octet h = let most = h.most in record { least = h.least; most = omega arith }

-- twelve digits, and Z
utc-of-digits : (y z m n d e h i k l s t : ℕ)
    → IsDigitTo 57 y → IsDigitTo 57 z → IsDigitTo 57 m → IsDigitTo 57 n → IsDigitTo 57 d
    → IsDigitTo 57 e → IsDigitTo 57 h → IsDigitTo 57 i → IsDigitTo 53 k → IsDigitTo 57 l
    → IsDigitTo 53 s → IsDigitTo 57 t
    → 1 ≤ two m n → two m n ≤ 12 → 1 ≤ two d e → two d e ≤ days_in_month (year_of_two (two y z)) (two m n) → two h i ≤ 23
    → (moment : ℤ) × IsUtc (y ∷ z ∷ m ∷ n ∷ d ∷ e ∷ h ∷ i ∷ k ∷ l ∷ s ∷ t ∷ 90 ∷ []) moment
utc-of-digits y z m n d e h i k l s t y_is z_is m_is n_is d_is e_is h_is i_is k_is l_is s_is t_is some few first last hours = (
  moment_of time,
  record { yy = two y z; two = years; time = time; year = refl; exists = exists; encoded = sym encoded; named = refl },
)
  where
    years : two y z < 100
    years = let a = y_is.most in let b = z_is.most in omega arith

    time : CivilTime
    time =
        record {
          year = year_of_two (two y z);
          month = two m n;
          day = two d e;
          hour = two h i;
          minute = two k l;
          second = two s t;
        }

    below : (tens ones : ℕ) → IsDigitTo 53 tens → IsDigitTo 57 ones → two tens ones ≤ 59
    below tens ones a b = let x = a.most in let w = b.most in omega arith

    exists : Exists time
    exists =
        record {
          date = record { year_in = year_of_two-most (two y z) years; month_in = (some, few); day_in = (first, last) };
          hour = hours;
          minute = below k l k_is l_is;
          second = below s t s_is t_is;
        }

    encoded : two_digits (two y z) ++ text_in_year time ≡ y ∷ z ∷ m ∷ n ∷ d ∷ e ∷ h ∷ i ∷ k ∷ l ∷ s ∷ t ∷ 90 ∷ []
    encoded =
        more y z _ _ y_is z_is
        (more m n _ _ m_is n_is
        (more d e _ _ d_is e_is (more h i _ _ h_is i_is (more k l _ _ (to-nine k k_is) l_is (more s t _ _ (to-nine s s_is) t_is refl)))))

-- the octet at a place
abbrev at : List ℕ → ℕ → ℕ
at octets i = get_or octets i 0

-- the octets that no place of a UTCTime exceeds on either side, and three that are not of it
abbrev least : List ℕ
least = 48 ∷ 48 ∷ 48 ∷ 48 ∷ 48 ∷ 48 ∷ 48 ∷ 48 ∷ 48 ∷ 48 ∷ 48 ∷ 48 ∷ 90 ∷ 0 ∷ 0 ∷ 0 ∷ []

abbrev greatest : List ℕ
greatest = 57 ∷ 57 ∷ 49 ∷ 57 ∷ 51 ∷ 57 ∷ 50 ∷ 57 ∷ 53 ∷ 57 ∷ 53 ∷ 57 ∷ 90 ∷ 255 ∷ 255 ∷ 255 ∷ []

-- the octet at a place is not below the least there
pub bound-at : (octets : List ℕ) (i : ℕ) → lie_between least greatest octets ≡ true → i < 16 → get_or least i 0 ≤ at octets i
bound-at octets i h lt = (between-at least greatest octets i h lt).0

-- thirteen octets between their bounds, whose numbers are those of a time
pub utc-between : (octets : List ℕ) (month day hour : ℕ) → lie_between least greatest octets ≡ true → month ≡ two (at octets 2) (at octets 3) → day ≡ two (at octets 4) (at octets 5)
    → hour ≡ two (at octets 6) (at octets 7) → 1 ≤ month → month ≤ 12 → 1 ≤ day → ((yy : ℕ) → yy ≡ two (at octets 0) (at octets 1) → day ≤ days_in_month (year_of_two yy) month) → hour ≤ 23
    → (moment : ℤ) × IsUtc (take 13 octets) moment
utc-between octets month day hour h month_is day_is hour_is some few first_day last_day hours =
    let found = utc-of-digits _ _ _ _ _ _ _ _ _ _ _ _ (nine 0 refl refl refl)
    (nine 1 refl refl refl) (nine 2 refl refl refl) (nine 3 refl refl refl)
    (nine 4 refl refl refl) (nine 5 refl refl refl) (nine 6 refl refl refl)
    (nine 7 refl refl refl)
    (five 8 refl refl refl) (nine 9 refl refl refl) (five 10 refl refl refl) (nine 11 refl refl refl) (omega arith) (omega arith) (omega arith) last (omega arith) in
    (found.0, rw encoded found.1)
  where
    last : two (at octets 4) (at octets 5) ≤ days_in_month (year_of_two (two (at octets 0) (at octets 1))) (two (at octets 2) (at octets 3))
    last = rw (← day_is, ← month_is) (last_day (two (at octets 0) (at octets 1)) refl)

    enough : 16 ≤ length octets
    enough = between-length least greatest octets h

    within : (i : ℕ) → i < 16 → (get_or least i 0 ≤ at octets i) × (at octets i ≤ get_or greatest i 0)
    within i lt = between-at least greatest octets i h lt

    nine : (i : ℕ) → ltb i 16 ≡ true → get_or least i 0 ≡ 48 → leb (get_or greatest i 0) 57 ≡ true → IsDigitTo 57 (at octets i)
    nine i lt low high =
        let b = within i (ltb-true i 16 lt) in
        let most = leb-true (get_or greatest i 0) 57 high in
        record { least = omega arith; most = omega arith }

    five : (i : ℕ) → ltb i 16 ≡ true → get_or least i 0 ≡ 48 → get_or greatest i 0 ≡ 53 → IsDigitTo 53 (at octets i)
    five i lt low high = let b = within i (ltb-true i 16 lt) in record { least = omega arith; most = omega arith }

    z : at octets 12 ≡ 90
    z = let b = within 12 (omega arith) in omega arith

    encoded : take 13 octets ≡ one_by_one octets 0 12 (90 ∷ [])
    encoded =
        ap (take 13) (encoded-out octets 0 13 13 refl (let all = enough in omega arith))
        ∙ ap (λ (o : ℕ). one_by_one octets 0 12 (o ∷ [])) z

-- the octets lie between the bounds, and their numbers are those of a time
pub record IsTold (octets : List ℕ) : Type 0 where
  pub between : lie_between least greatest octets ≡ true
  pub some : 1 ≤ two (at octets 2) (at octets 3)
  pub few : two (at octets 2) (at octets 3) ≤ 12
  pub first_day : 1 ≤ two (at octets 4) (at octets 5)
  pub last_day : two (at octets 4) (at octets 5) ≤ days_in_month (year_of_two (two (at octets 0) (at octets 1))) (two (at octets 2) (at octets 3))
  pub hours : two (at octets 6) (at octets 7) ≤ 23

-- an octet between its bounds, and those after it
one-more : (l h octet : ℕ) (low high octets : List ℕ) → l ≤ octet → octet ≤ h → lie_between low high octets ≡ true → lie_between (l ∷ low) (h ∷ high) (octet ∷ octets) ≡ true
one-more l h octet low high octets least most rest = rw (le-leb l octet least, le-leb octet h most) rest

-- a number in two digits, of which the first is not above this
two-more : (n most : ℕ) (low high octets : List ℕ) → n / 10 + 48 ≤ most
    → lie_between low high octets ≡ true
    → lie_between (48 ∷ 48 ∷ low) (most ∷ 57 ∷ high) ((48 + n / 10) ∷ (48 + n % 10) ∷ octets) ≡ true
two-more n most low high octets few rest = one-more 48 most (48 + n / 10) (48 ∷ low) (57 ∷ high)
    ((48 + n % 10) ∷ octets) (omega arith) (omega arith)
    (one-more 48 57 (48 + n % 10) low high octets (omega arith) (omega arith) rest)

two-is : (n : ℕ) → two (48 + n / 10) (48 + n % 10) ≡ n
two-is n = omega arith

-- no month is longer
thirty-one : (year month : ℕ) → days_in_month year month ≤ 31
thirty-one year month = grind arith

time-told : (yy : ℕ) (time : CivilTime) (a b c : ℕ) (more : List ℕ) → yy < 100
    → time.year ≡ year_of_two yy → Exists time → a < 256 → b < 256 → c < 256
    → IsTold ((two_digits yy ++ text_in_year time) ++ (a ∷ b ∷ c ∷ more))
time-told yy time a b c more low year exists x y z =
    let date = exists.date in
    let days = thirty-one time.year time.month in
    let last : time.day ≤ 31 = omega (arith, days, date.day_in.1) in
    let z_low : List ℕ = 90 ∷ 0 ∷ 0 ∷ 0 ∷ [] in
    let z_high : List ℕ = 90 ∷ 255 ∷ 255 ∷ 255 ∷ [] in
    let z_octets : List ℕ = 90 ∷ a ∷ b ∷ c ∷ more in
    let z_is : lie_between z_low z_high z_octets ≡ true =
    rw (
      le-leb 0 a (omega arith),
      le-leb a 255 (omega arith),
      le-leb 0 b (omega arith),
      le-leb b
          255 (omega arith),
      le-leb 0 c (omega arith),
      le-leb c 255 (omega arith),
    ) refl in
    let seconds = two-more time.second 53 z_low z_high z_octets (omega (arith, exists.second)) z_is in
    let minutes = two-more time.minute 53 (48 ∷ 48 ∷ z_low) (53 ∷ 57 ∷ z_high) (two_digits time.second ++ z_octets) (omega (arith, exists.minute)) seconds in
    let hours = two-more time.hour 50 (48 ∷ 48 ∷ 48 ∷ 48 ∷ z_low) (53 ∷ 57 ∷ 53 ∷ 57 ∷ z_high) (two_digits time.minute ++ two_digits time.second ++ z_octets) (omega (arith, exists.hour)) minutes in
    let days_is = two-more time.day 51 (48 ∷ 48 ∷ 48 ∷ 48 ∷ 48 ∷ 48 ∷ z_low)
    (50 ∷ 57 ∷ 53 ∷ 57 ∷ 53 ∷ 57 ∷ z_high)
    (two_digits time.hour ++ two_digits time.minute ++ two_digits time.second ++ z_octets)
    (omega (arith, last)) hours in
    let months = two-more time.month 49 (48 ∷ 48 ∷ 48 ∷ 48 ∷ 48 ∷ 48 ∷ 48 ∷ 48 ∷ z_low)
    (51 ∷ 57 ∷ 50 ∷ 57 ∷ 53 ∷ 57 ∷ 53 ∷ 57 ∷ z_high)
    (two_digits time.day ++ two_digits time.hour ++ two_digits time.minute
    ++ two_digits time.second ++ z_octets) (omega (arith, date.month_in.1)) days_is in
    let years = two-more yy 57 (48 ∷ 48 ∷ 48 ∷ 48 ∷ 48 ∷ 48 ∷ 48 ∷ 48 ∷ 48 ∷ 48 ∷ z_low)
    (49 ∷ 57 ∷ 51 ∷ 57 ∷ 50 ∷ 57 ∷ 53 ∷ 57 ∷ 53 ∷ 57 ∷ z_high)
    (two_digits time.month ++ two_digits time.day ++ two_digits time.hour
    ++ two_digits time.minute ++ two_digits time.second ++ z_octets)
    (omega (arith, low)) months in
    record {
      between = years;
      some = rw (two-is time.month) date.month_in.0;
      few = rw (two-is time.month) date.month_in.1;
      first_day = rw (two-is time.day) date.day_in.0;
      last_day = rw (two-is time.day, two-is time.month, two-is yy, ← year) date.day_in.1;
      hours = rw (two-is time.hour) exists.hour;
    }

-- the first thirteen octets of a list, and at least three after them
pub utc-told : (octets : List ℕ) (moment : ℤ) → 16 ≤ length octets → AreOctets octets → IsUtc (take 13 octets) moment → IsTold octets
utc-told octets moment enough are is =
    let whole : octets ≡ (two_digits is.yy ++ text_in_year is.time) ++ (at octets 13 ∷ at octets 14 ∷ at octets 15 ∷ drop 16 octets) =
    sym (take-append-drop 13 octets) ∙ ap₂ (λ (x y : List ℕ). x ++ y) is.encoded (encoded-out octets 13 3 16 refl enough) in
    subst IsTold (sym whole) (time-told is.yy is.time (at octets 13) (at octets 14) (at octets 15) (drop 16 octets) is.two is.year is.exists (are 13) (are 14) (are 15))
