-- Octets and numbers are read in one way.
use Rattle.std.proofs.Common.{◌≡◌, ℕ, suc, ◌^◌, ◌<◌, ◌≤◌, Bool, true, false, cond, ltb, List, [], ◌∷◌, ◌++◌, length, take, drop, Option, Some, None, refl, sym, ap, subst, ◌∙◌, arith}
use Rattle.std.specs.Int.{Width, w16, w32, w64, byte_len, from_be_bytes, to_be_bytes}
use Rattle.std.proofs.lemmas.Bool.{ltb-false, le-ltb}
use Rattle.std.proofs.lemmas.List.{take_at, drop_at, take-append-drop, length-append, length-take}
use Rattle.std.proofs.lemmas.Nat.{be_bytes_2, be_bytes_4, be_bytes_8, from_be_bytes-to_be_bytes_2, from_be_bytes-to_be_bytes_4, from_be_bytes-to_be_bytes_8}
use Rattle.ts_codec.specs.Reading.{octet_at, number_at, octets_at}
use Rattle.ts_codec.proofs.Laws.{IsBytes, IsBytes-drop, IsBytes-take, Takes, Part, some_is, made}

pub octet_part : Part (λ o. o ∷ []) (λ o. o < 256) octet_at
octet_part = record {
  takes = λ octets x rest bytes is. takes octets x rest bytes is;
  again = λ x rest fit. refl;
}
  where
    takes : (octets : List ℕ) (x : ℕ) (rest : List ℕ) → IsBytes octets → octet_at octets ≡ Some (x, rest) → Takes octets (x ∷ []) rest × (x < 256)
    takes [] x rest bytes is = absurd (cc is)
    takes (o ∷ octets) x rest bytes is = made (λ o. o ∷ []) (λ o. o < 256) (o ∷ octets) octets o x rest is refl (λ i. bytes (suc i)) (bytes 0)

-- an octet that a format does not bound
pub any_octet : Part (λ o. o ∷ []) (λ o. Unit {0}) octet_at
any_octet = record {
  takes = λ octets x rest bytes is. let t = octet_part.takes octets x rest bytes is in (t.0, tt);
  again = λ x rest fit. refl;
}

pub record IsWide (w : Width) (limit : ℕ) : Type 0 where
  pub len : (n : ℕ) → length (to_be_bytes w n) ≡ byte_len w
  pub back : (bytes : List ℕ) → length bytes ≡ byte_len w → IsBytes bytes → to_be_bytes w (from_be_bytes w bytes) ≡ bytes
  pub again : (n : ℕ) → n < limit → from_be_bytes w (to_be_bytes w n) ≡ n
  pub below : (bytes : List ℕ) → IsBytes bytes → from_be_bytes w bytes < limit

wide16 : IsWide w16 (2 ^ 16)
wide16 = record {
  len = λ n. refl;
  back = λ bytes len fits. be_bytes_2 bytes _ len fits refl;
  again = λ n lt. from_be_bytes-to_be_bytes_2 n lt;
  below = λ bytes fits. omega (arith, fits 0, fits 1);
}

wide32 : IsWide w32 (2 ^ 32)
wide32 = record {
  len = λ n. refl;
  back = λ bytes len fits. be_bytes_4 bytes _ len fits refl;
  again = λ n lt. from_be_bytes-to_be_bytes_4 n lt;
  below = λ bytes fits. omega (arith, fits 0, fits 1, fits 2, fits 3);
}

wide64 : IsWide w64 (2 ^ 64)
wide64 = record {
  len = λ n. refl;
  back = λ bytes len fits. be_bytes_8 bytes _ len fits refl;
  again = λ n lt. from_be_bytes-to_be_bytes_8 n lt;
  below = λ bytes fits. omega (arith, fits 0, fits 1, fits 2, fits 3, fits 4, fits 5, fits 6, fits 7);
}

guard : {A P : Type 0} (b : Bool) (x y : A) → cond b None (Some x) ≡ Some y → (b ≡ false → x ≡ y → P) → P
guard true x y is go = absurd (cc is)
guard false x y is go = go refl (some_is x y is)

number_part : (w : Width) (limit : ℕ) → IsWide w limit → Part (to_be_bytes w) (λ n. n < limit) (number_at w)
number_part w limit wide = record { takes = takes; again = again }
  where
    takes : (octets : List ℕ) (n : ℕ) (rest : List ℕ) → IsBytes octets → number_at w octets ≡ Some (n, rest) → Takes octets (to_be_bytes w n) rest × (n < limit)
    takes octets n rest bytes is =
        guard (ltb (length octets) (byte_len w)) (from_be_bytes w (take (byte_len w) octets), drop (byte_len w) octets) (n, rest) is
        (λ enough e.
        let long : byte_len w ≤ length octets = ltb-false _ _ enough in
        let n-is : from_be_bytes w (take (byte_len w) octets) ≡ n = ap (λ (p : ℕ × List ℕ). p.0) e in
        let rest-is : drop (byte_len w) octets ≡ rest = ap (λ (p : ℕ × List ℕ). p.1) e in
        let front : to_be_bytes w n ≡ take (byte_len w) octets =
        rw (← n-is) (wide.back (take (byte_len w) octets)
        (omega (arith, length-take (byte_len w) octets))
        (IsBytes-take (byte_len w) octets bytes)) in (
          record {
            is = rw (front, ← rest-is) (sym (take-append-drop (byte_len w) octets));
            more =
                rw (← rest-is) (IsBytes-drop (byte_len w) octets bytes);
          },
          rw (← n-is)
              (wide.below (take (byte_len w) octets) (IsBytes-take (byte_len w) octets bytes)),
        ))

    again : (n : ℕ) (rest : List ℕ) → n < limit → number_at w (to_be_bytes w n ++ rest) ≡ Some (n, rest)
    again n rest lt =
        let len = wide.len n in
        let long : ltb (length (to_be_bytes w n ++ rest)) (byte_len w) ≡ false = le-ltb _ _ (omega (arith, length-append (to_be_bytes w n) rest)) in
        rw (long, take_at (to_be_bytes w n) rest (byte_len w) len, drop_at (to_be_bytes w n) rest (byte_len w) len, wide.again n lt) refl

pub number16 : Part (to_be_bytes w16) (λ n. n < 2 ^ 16) (number_at w16)
number16 = number_part w16 (2 ^ 16) wide16

pub number32 : Part (to_be_bytes w32) (λ n. n < 2 ^ 32) (number_at w32)
number32 = number_part w32 (2 ^ 32) wide32

pub number64 : Part (to_be_bytes w64) (λ n. n < 2 ^ 64) (number_at w64)
number64 = number_part w64 (2 ^ 64) wide64

pub octets_part : (n : ℕ) → Part (λ (x : List ℕ). x) (λ x. length x ≡ n) (octets_at n)
octets_part n = record { takes = takes; again = again }
  where
    takes : (octets x rest : List ℕ) → IsBytes octets → octets_at n octets ≡ Some (x, rest) → Takes octets x rest × (length x ≡ n)
    takes octets x rest bytes is =
        guard (ltb (length octets) n) (take n octets, drop n octets) (x, rest) is
        (λ enough e.
        let long : n ≤ length octets = ltb-false _ _ enough in
        let len : length (take n octets) ≡ n = omega (arith, length-take n octets) in
        subst (λ (p : List ℕ × List ℕ). Takes octets p.0 p.1 × (length p.0 ≡ n)) e (record { is = sym (take-append-drop n octets); more = IsBytes-drop n octets bytes }, len))

    again : (x rest : List ℕ) → length x ≡ n → octets_at n (x ++ rest) ≡ Some (x, rest)
    again x rest len =
        let long : ltb (length (x ++ rest)) n ≡ false = le-ltb _ _ (omega (arith, length-append x rest)) in
        rw (long, take_at x rest n len, drop_at x rest n len) refl
