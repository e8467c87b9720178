-- A serial number is written in as few octets as can be, and is that number.
use Rattle.std.proofs.Common.{◌≡◌, ℕ, ◌/◌, ◌%◌, ◌^◌, ◌<◌, ◌≤◌, true, false, inl, inr, List, [], ◌∷◌, length, refl, ap, arith, pos}
use Rattle.std.proofs.lemmas.Bool.{cases_lt, cases_eq, lt-ltb, le-ltb, ne_eqb}
use Rattle.ts_der.specs.Element.{number, encode}
use Rattle.ts_der.specs.Integer.{is_shortest, is_negative, twos_complement}
use Rattle.ts_der.specs.Integer as integers
use Rattle.ts_shape.specs.Fields.{Within, IsInteger}
use Rattle.ts_ext.specs.Encoding.{IsSmall}
use Rattle.ts_make.specs.Serial.{serial_content}
use Rattle.ts_make.proofs.StandIns.{content-short}

-- a number in as few octets as can be
pub record IsSerial (content : List ℕ) (n : ℕ) : Type 0 where
  pub shortest : is_shortest content ≡ true
  pub natural : is_negative content ≡ false
  pub number_is : number content ≡ n
  pub value : twos_complement content ≡ pos n

one : (n : ℕ) → n < 2 ^ 7 → IsSerial (n ∷ []) n
unfolding twos_complement number
one n lt = record { shortest = refl; natural = le-ltb 127 n (omega arith); number_is = omega arith; value = rw (le-ltb 127 n (omega arith)) (ap pos (omega arith)) }

more : (a b : ℕ) (octets : List ℕ) (n : ℕ) → a < 128 → (a ≡ 0 → 128 ≤ b) → number (a ∷ b ∷ octets) ≡ n → IsSerial (a ∷ b ∷ octets) n
unfolding twos_complement
more a b octets n low first e = record { shortest = form; natural = le-ltb 127 a (omega arith); number_is = e; value = rw (le-ltb 127 a (omega arith)) (ap pos e) }
  where
    form : is_shortest (a ∷ b ∷ octets) ≡ true
    form = elim (cases_eq a 0) [
      | inl zero ↦ rw (zero, le-ltb b 128 (first zero)) refl
      | inr some ↦ rw (ne_eqb a 0 some, ne_eqb a 255 (omega arith)) refl
    ]

pub serial-is : (n : ℕ) → n < 2 ^ 32 → IsSerial (serial_content n) n
unfolding serial_content number
serial-is n high =
    elim (cases_lt n (2 ^ 7)) [
      | inl lt ↦ rw (lt-ltb n (2 ^ 7) lt) (one n lt)
      | inr le7 ↦ elim (cases_lt n (2 ^ 15)) [
        | inl lt ↦ rw (le-ltb n (2 ^ 7) le7, lt-ltb n (2 ^ 15) lt) (more (n / 2 ^ 8) (n % 2 ^ 8) [] n (omega arith) (λ z. omega arith) (omega arith))
        | inr le15 ↦ elim (cases_lt n (2 ^ 23)) [
          | inl lt ↦ rw (le-ltb n (2 ^ 7) le7, le-ltb n (2 ^ 15) le15, lt-ltb n (2 ^ 23) lt) (more (n / 2 ^ 16) (n / 2 ^ 8 % 2 ^ 8) (n % 2 ^ 8 ∷ []) n (omega arith) (λ z. omega arith) (omega arith))
          | inr le23 ↦ elim (cases_lt n (2 ^ 31)) [
            | inl lt ↦ rw (
              le-ltb n (2 ^ 7) le7,
              le-ltb n (2 ^ 15) le15,
              le-ltb n
                  (2 ^ 23) le23,
              lt-ltb n (2 ^ 31) lt,
            )
                (more (n / 2 ^ 24) (n / 2 ^ 16 % 2 ^ 8) (n / 2 ^ 8 % 2 ^ 8 ∷ n % 2 ^ 8 ∷ []) n
                (omega arith) (λ z. omega arith) (omega arith))
            | inr le31 ↦ rw (
              le-ltb n (2 ^ 7) le7,
              le-ltb n (2 ^ 15) le15,
              le-ltb n
                  (2 ^ 23) le23,
              le-ltb n (2 ^ 31) le31,
            )
                (more 0 (n / 2 ^ 24) (n / 2 ^ 16 % 2 ^ 8 ∷ n / 2 ^ 8 % 2 ^ 8 ∷ n % 2 ^ 8 ∷ []) n
                (omega arith) (λ z. omega arith) (omega arith))
          ]
        ]
      ]
    ]

-- it is encoded so
pub serial-encoded : (n : ℕ) → n < 2 ^ 32 → length (encode 0x02 (serial_content n)) ≤ 4194304 → Within 0x02 IsInteger (encode 0x02 (serial_content n)) (serial_content n)
serial-encoded n high le =
    let short = content-short 0x02 (serial_content n) in
    let is = serial-is n high in
    record {
      content = serial_content n;
      fits = record { octet = omega arith; low = omega arith; short = omega arith };
      encoded = refl;
      value = (refl, is.shortest);
    }

-- the same in the words of X.690
pub serial-integer : (n : ℕ) → n < 2 ^ 32 → integers.IsInteger (serial_content n) (pos n)
serial-integer n high = let is = serial-is n high in record { shortest = is.shortest; value = is.value }

-- the same as a number that is not negative
pub serial-small : (n : ℕ) → n < 2 ^ 32 → IsSmall (serial_content n) n
serial-small n high = let is = serial-is n high in record { shortest = is.shortest; natural = is.natural; value = is.number_is; limit = high }
