-- Addresses as numbers, and their bits under a mask.
use Rattle.std.proofs.Common.{◌≡◌, ◌↔◌, ℕ, zero, suc, ◌+◌, ◌-◌, ◌*◌, ◌^◌, ◌<◌, ◌≤◌, Bool, true}
use Rattle.std.proofs.Common.{false, ltb, eqb, List, [], ◌∷◌, length, take, drop, get_or, refl, sym}
use Rattle.std.proofs.Common.{ap, ◌∙◌, arith, length-take, length-take-le, length-drop, get_or-take}
use Rattle.std.proofs.Common.{get_or-drop, add-one}
use Rattle.std.specs.Prelude.{bit_and, min, IsTrue}
use Rattle.std.specs.Int.{bit_at}
use Rattle.std.proofs.lemmas.Bool.{false≢true, ltb-true, ltb-false, eqb-true}
use Rattle.std.proofs.lemmas.Bool.Decides.{nat_tests}
use Rattle.std.proofs.lemmas.Nat.{and_le_l, pow-add}
use Rattle.std.proofs.lemmas.Nat.Bits.{same_from_bits, bit_at_and, bit_at_cat_low, bit_at_cat_high}
use Rattle.std.proofs.Math.Nat.{pow-le-pow_right}
use Rattle.std.proofs.Math.Seq.{drop-cons}
use Rattle.ts_der.specs.Octets.{AreOctets}
use Rattle.ts_name.specs.Holds.{IsWithinRange}
use Rattle.ts_constraint.specs.inside.Ranges.{number_from, number}

past : (xs : List ℕ) (i d : ℕ) → length xs ≤ i → get_or xs i d ≡ d
past [] i d h = refl
past (x ∷ xs) zero d h = absurd (omega arith)
past (x ∷ xs) (suc i) d h = past xs i d (omega arith)

-- ---- digits under a mask

and-digit : (a b c d : ℕ) → b < 256 → d < 256 → bit_and (a * 256 + b) (c * 256 + d) ≡ bit_and a c * 256 + bit_and b d
and-digit a b c d h k = same_from_bits (bit_and (a * 256 + b) (c * 256 + d)) (bit_and a c * 256 + bit_and b d) (λ i. by_side i (ltb i 8) refl)
  where
    by_side : (i : ℕ) (t : Bool) → ltb i 8 ≡ t → bit_at (bit_and (a * 256 + b) (c * 256 + d)) i ≡ bit_at (bit_and a c * 256 + bit_and b d) i
    by_side i true e =
        let low = ltb-true i 8 e in
        bit_at_and (a * 256 + b) (c * 256 + d) i
        ∙ ap (λ n. min n (bit_at (c * 256 + d) i)) (bit_at_cat_low a 8 b i low)
        ∙ ap (λ n. min (bit_at b i) n) (bit_at_cat_low c 8 d i low)
        ∙ sym (bit_at_and b d i)
        ∙ sym (bit_at_cat_low (bit_and a c) 8 (bit_and b d) i low)
    by_side i false e =
        let high = ltb-false i 8 e in
        let small : bit_and b d < 256 = omega (arith, and_le_l b d) in
        bit_at_and (a * 256 + b) (c * 256 + d) i
        ∙ ap (λ n. min n (bit_at (c * 256 + d) i)) (bit_at_cat_high a 8 b i h high)
        ∙ ap (λ n. min (bit_at a (i - 8)) n) (bit_at_cat_high c 8 d i k high)
        ∙ sym (bit_at_and a c (i - 8))
        ∙ sym (bit_at_cat_high (bit_and a c) 8 (bit_and b d) i small high)

-- octets under a mask, one by one
abbrev under : List ℕ → List ℕ → List ℕ
under [] ms = []
under (x ∷ xs) [] = []
under (x ∷ xs) (m ∷ ms) = bit_and x m ∷ under xs ms

tail-octets : (x : ℕ) (xs : List ℕ) → AreOctets (x ∷ xs) → AreOctets xs
tail-octets x xs o i = o (suc i)

and-number : (n k : ℕ) (xs ms : List ℕ) → length xs ≡ length ms → AreOctets xs → AreOctets ms → bit_and (number_from n xs) (number_from k ms) ≡ number_from (bit_and n k) (under xs ms)
and-number n k [] [] e o p = refl
and-number n k [] (m ∷ ms) e o p = absurd (omega arith)
and-number n k (x ∷ xs) [] e o p = absurd (omega arith)
and-number n k (x ∷ xs) (m ∷ ms) e o p =
    and-number (n * 256 + x) (k * 256 + m) xs ms (omega arith) (tail-octets x xs o) (tail-octets m ms p)
    ∙ ap (λ j. number_from j (under xs ms)) (and-digit n x k m (o 0) (p 0))

under-octets : (xs ms : List ℕ) → AreOctets xs → AreOctets (under xs ms)
under-octets [] ms o i = omega arith
under-octets (x ∷ xs) [] o i = omega arith
under-octets (x ∷ xs) (m ∷ ms) o zero = let h : x < 256 = o 0 in omega (arith, and_le_l x m)
under-octets (x ∷ xs) (m ∷ ms) o (suc i) = under-octets xs ms (tail-octets x xs o) i

length-under : (xs ms : List ℕ) → length xs ≡ length ms → length (under xs ms) ≡ length xs
length-under [] ms e = refl
length-under (x ∷ xs) [] e = absurd (omega arith)
length-under (x ∷ xs) (m ∷ ms) e = ap suc (length-under xs ms (omega arith))

-- octets of one number
same-digits : (n k : ℕ) (xs ys : List ℕ) → length xs ≡ length ys → AreOctets xs → AreOctets ys → number_from n xs ≡ number_from k ys → (n ≡ k) × (xs ≡ ys)
same-digits n k [] [] l o p e = (e, refl)
same-digits n k [] (y ∷ ys) l o p e = absurd (omega arith)
same-digits n k (x ∷ xs) [] l o p e = absurd (omega arith)
same-digits n k (x ∷ xs) (y ∷ ys) l o p e =
    let rest = same-digits (n * 256 + x) (k * 256 + y) xs ys (omega arith) (tail-octets x xs o) (tail-octets y ys p) e in
    let h : x < 256 = o 0 in
    let j : y < 256 = p 0 in
    let both : n * 256 + x ≡ k * 256 + y = rest.0 in
    let tail : xs ≡ ys = rest.1 in
    let here : n ≡ k = omega arith in
    let digit : x ≡ y = omega arith in
    (here, λ i. digit i ∷ tail i)

-- ---- an address in a range

abbrev Agree : List ℕ → List ℕ → List ℕ → Type 0
Agree xs ys ms = (k : ℕ) → k < length xs → bit_and (get_or xs k 0) (get_or ms k 0) ≡ bit_and (get_or ys k 0) (get_or ms k 0)

agree-under : (xs ys ms : List ℕ) → length xs ≡ length ms → length ys ≡ length ms → Agree xs ys ms → under xs ms ≡ under ys ms
agree-under [] [] ms e f g = refl
agree-under [] (y ∷ ys) ms e f g = absurd (omega arith)
agree-under (x ∷ xs) [] ms e f g = absurd (omega arith)
agree-under (x ∷ xs) (y ∷ ys) [] e f g = absurd (omega arith)
agree-under (x ∷ xs) (y ∷ ys) (m ∷ ms) e f g =
    let here = g 0 (omega arith) in
    let rest = agree-under xs ys ms (omega arith) (omega arith) (λ k h. g (suc k) (omega arith)) in
    λ i. here i ∷ rest i

under-agree : (xs ys ms : List ℕ) → length xs ≡ length ms → length ys ≡ length ms → under xs ms ≡ under ys ms → Agree xs ys ms
under-agree [] ys ms e f u k h = absurd (omega arith)
under-agree (x ∷ xs) [] ms e f u k h = absurd (omega arith)
under-agree (x ∷ xs) (y ∷ ys) [] e f u k h = absurd (omega arith)
under-agree (x ∷ xs) (y ∷ ys) (m ∷ ms) e f u zero h = cc
under-agree (x ∷ xs) (y ∷ ys) (m ∷ ms) e f u (suc k) h = under-agree xs ys ms (omega arith) (omega arith) (cc) k (omega arith)

itself : (n : ℕ) → eqb n n ≡ true
itself n = grind (arith, nat_tests)

-- the test of numbers is that of each octet
pub same-bits : (xs ys ms : List ℕ) → length xs ≡ length ms → length ys ≡ length ms → AreOctets xs → AreOctets ys → AreOctets ms
    → IsTrue (eqb (bit_and (number xs) (number ms)) (bit_and (number ys) (number ms))) ↔ Agree xs ys ms
same-bits xs ys ms e f o p q =
    let left = and-number 0 0 xs ms e o q in
    let right = and-number 0 0 ys ms f p q in (
      λ t.
          let same : number_from (bit_and 0 0) (under xs ms) ≡ number_from (bit_and 0 0) (under ys ms) = sym left ∙ (eqb-true _ _ t ∙ right) in
          under-agree xs ys ms e f
          (same-digits (bit_and 0 0) (bit_and 0 0) (under xs ms) (under ys ms)
          (length-under xs ms e ∙ (e ∙ (sym f ∙ sym (length-under ys ms f)))) (under-octets xs ms o)
          (under-octets ys ms p) same).1,
      λ a.
          let same : bit_and (number xs) (number ms) ≡ bit_and (number ys) (number ms) = left ∙ (ap (number_from (bit_and 0 0)) (agree-under xs ys ms e f a) ∙ sym right) in
          ap (λ n. eqb n (bit_and (number ys) (number ms))) same ∙ itself (bit_and (number ys) (number ms)),
    )

pub range-bits : (address range : List ℕ) (size : ℕ) → length address ≡ size → length range ≡ 2 * size → Agree address (take size range) (drop size range) ↔ IsWithinRange address range
range-bits address range size a r = (
  λ g. record {
    lengths = omega arith;
    masked = λ k h. ap (bit_and (get_or address k 0)) (at k)
        ∙ (g k h ∙ (ap (λ n. bit_and n (get_or (drop size range) k 0))
        (get_or-take size range k 0 (omega arith)) ∙ ap (bit_and (get_or range k 0)) (sym (at k))));
  },
  λ w k h. ap (bit_and (get_or address k 0)) (sym (at k))
      ∙ (w.masked k h ∙ (ap (bit_and (get_or range k 0)) (at k)
      ∙ ap (λ n. bit_and n (get_or (drop size range) k 0))
      (sym (get_or-take size range k 0 (omega arith))))),
)
  where
    at : (k : ℕ) → get_or range (length address + k) 0 ≡ get_or (drop size range) k 0
    at k = ap (λ n. get_or range (n + k) 0) a ∙ sym (get_or-drop size range k 0)

-- ---- the number of a loop over octets

pub fits-more : (n octet i : ℕ) → n < 2 ^ (8 * i) → octet < 256 → n * 256 + octet < 2 ^ (8 * (i + 1))
fits-more n octet i h k =
    let next : 2 ^ (8 * (i + 1)) ≡ 2 ^ (8 * i) * 256 = ap (λ j. 2 ^ j) (eight i) ∙ pow-add 2 (8 * i) 8 in
    omega arith
  where
    eight : (i : ℕ) → 8 * (i + 1) ≡ 8 * i + 8
    eight i = omega arith

pub fits-in : (n octet i : ℕ) → n < 2 ^ (8 * i) → octet < 256 → i < 16 → n * 256 + octet < 2 ^ 128
fits-in n octet i h k low =
    let more = fits-more n octet i h k in
    let most : 2 ^ (8 * (i + 1)) ≤ 2 ^ 128 = pow-le-pow_right {n = 2} (omega arith) {i = 8 * (i + 1)} {j = 128} (omega arith) in
    omega arith

pub next-digit : (n i : ℕ) (octets : List ℕ) (m : ℕ) → i < length octets → number_from n (drop i octets) ≡ m → number_from (n * 256 + get_or octets i 0) (drop (i + 1) octets) ≡ m
next-digit n i octets m h e =
    ap (λ k. number_from (n * 256 + get_or octets i 0) (drop k octets)) (add-one i) ∙ (sym (ap (number_from n) (drop-cons octets i 0 h)) ∙ e)

-- what the numbers of a range and of its mask test
pub within-bits : (address range base mask : List ℕ) (size b m : ℕ) → AreOctets address
    → AreOctets range → length address ≡ size → length range ≡ 2 * size → base ≡ take size range
    → mask ≡ drop size range
    → b ≡ number base → m ≡ number mask → IsTrue (eqb (bit_and (number address) m) (bit_and b m)) ↔ IsWithinRange address range
within-bits address range base mask size b m o p a r e f g h =
    let n : m ≡ number (drop size range) = h ∙ ap number f in
    let k : b ≡ number (take size range) = g ∙ ap number e in
    let test : eqb (bit_and (number address) m) (bit_and b m) ≡ eqb (bit_and (number address) (number (drop size range))) (bit_and (number (take size range)) (number (drop size range))) =
    ap (λ j. eqb (bit_and (number address) j) (bit_and b j)) n ∙ ap (λ j. eqb (bit_and (number address) (number (drop size range))) (bit_and j (number (drop size range)))) k in
    let bits = same-bits address (take size range) (drop size range) (a ∙ sym (half range size r))
    (length-take-le size range (omega arith) ∙ sym (half range size r)) o
    (front-octets range size p) (back-octets range size p) in
    let agree = range-bits address range size a r in
    (λ t. agree.0 (bits.0 (sym test ∙ t)), λ w. test ∙ bits.1 (agree.1 w))
  where
    half : (range : List ℕ) (size : ℕ) → length range ≡ 2 * size → length (drop size range) ≡ size
    half range size r = length-drop size range ∙ omega arith

    front-octets : (range : List ℕ) (size : ℕ) → AreOctets range → AreOctets (take size range)
    front-octets range size p i = by_side (ltb i size) refl
      where
        by_side : (t : Bool) → ltb i size ≡ t → get_or (take size range) i 0 < 256
        by_side true e = let g = get_or-take size range i 0 (ltb-true i size e) in omega (arith, p i)
        by_side false e = let g = past (take size range) i 0 (omega (arith, ltb-false i size e, length-take size range)) in omega arith

    back-octets : (range : List ℕ) (size : ℕ) → AreOctets range → AreOctets (drop size range)
    back-octets range size p i = let g = get_or-drop size range i 0 in omega (arith, p (size + i))

-- an address of another length
pub other-length : (address range : List ℕ) (size : ℕ) → length address ≡ size → (length range ≡ 2 * size → ⊥) → IsTrue false ↔ IsWithinRange address range
other-length address range size a not = (λ t. absurd (false≢true t), λ w. absurd (not (w.lengths ∙ ap (λ n. 2 * n) a)))
