-- The BIT STRING of keyUsage has the bits whose numbers the parts say.
use Rattle.std.proofs.Common.{◌≡◌, ◌≢◌, ℕ, zero, suc, ◌+◌, ◌-◌, ◌*◌, ◌/◌, ◌%◌, ◌<◌, ◌≤◌, ◌⊎◌, inl}
use Rattle.std.proofs.Common.{inr, max, Bool, true, false, eqb, eq-eqb, List, [], ◌∷◌, ◌++◌, length}
use Rattle.std.proofs.Common.{Some, refl, sym, ap, subst, ◌∙◌, arith}
use Rattle.std.specs.Prelude.{map, fold, replicate, ◌||◌}
use Rattle.std.specs.List.{flat_map, range_with_len, list_any}
use Rattle.std.proofs.lemmas.Bool.{ne_eqb, cases_eq, cases_lt}
use Rattle.std.proofs.lemmas.List.{get_or_past}
use Rattle.std.proofs.lemmas.List.FromFn.{length-map-range_with_len, get_or-map-range_with_len, map-range_with_len_more}
use Rattle.ts_der.specs.Element.{encode}
use Rattle.ts_der.specs.BitString.{octet_bits, EndsInOne}
use Rattle.ts_ext.specs.declared.known.Known.TheVariants as extension
use Rattle.ts_ext.specs.NamedBits.{bit, IsNamedBits}
use Rattle.ts_ext.specs.Ext.{IsExt, keyUsage}
use Rattle.ts_make.specs.KeyUsage.{is_set, last_set, usage_bits, weight, octet_from, usage_octets, usage_content}
use Rattle.ts_make.proofs.StandIns.{fits-bits}

-- ---- an octet

weight-is : (b : Bool) (v : ℕ) → weight b v ≡ v * weight b 1
weight-is true v = omega arith
weight-is false v = omega arith

weight-low : (b : Bool) → weight b 1 ≤ 1
weight-low true = omega arith
weight-low false = omega arith

bit-is : (b : Bool) (m : ℕ) → m ≡ weight b 1 → eqb m 1 ≡ b
bit-is true m e = rw e refl
bit-is false m e = rw e refl

eight : (a b c d e f g h : Bool)
    → octet_bits (weight a 128 + weight b 64 + weight c 32 + weight d 16 + weight e 8 + weight f 4 + weight g 2 + weight h 1) ≡ a ∷ b ∷ c ∷ d ∷ e ∷ f ∷ g ∷ h ∷ []
eight a b c d e f g h =
    let n = weight a 128 + weight b 64 + weight c 32 + weight d 16 + weight e 8 + weight f 4 + weight g 2 + weight h 1 in
    let wa = weight-is a 128 in
    let wb = weight-is b 64 in
    let wc = weight-is c 32 in
    let wd = weight-is d 16 in
    let we = weight-is e 8 in
    let wf = weight-is f 4 in
    let wg = weight-is g 2 in
    let la = weight-low a in
    let lb = weight-low b in
    let lc = weight-low c in
    let ld = weight-low d in
    let le = weight-low e in
    let lf = weight-low f in
    let lg = weight-low g in
    let lh = weight-low h in
    rw (
      bit-is a (n / 128 % 2) (omega arith),
      bit-is b (n / 64 % 2) (omega arith),
      bit-is c
          (n / 32 % 2) (omega arith),
      bit-is d (n / 16 % 2) (omega arith),
      bit-is e (n / 8 % 2)
          (omega arith),
      bit-is f (n / 4 % 2) (omega arith),
      bit-is g (n / 2 % 2) (omega arith),
      bit-is h
          (n % 2) (omega arith),
    ) refl

-- ---- all octets

range-eight : (f : ℕ → Bool) (b n m : ℕ) → m ≡ 8 * n + 8 → map f (range_with_len b m) ≡ f b
    ∷ f (b + 1) ∷ f (b + 2) ∷ f (b + 3) ∷ f (b + 4) ∷ f (b + 5) ∷ f (b + 6) ∷ f (b + 7)
    ∷ map f (range_with_len (b + 8) (8 * n))
range-eight f b n m e =
    let more : m ≡ suc (suc (suc (suc (suc (suc (suc (suc (8 * n)))))))) = omega arith in
    let e1 : b + 1 + 1 ≡ b + 2 = omega arith in
    let e2 : b + 2 + 1 ≡ b + 3 = omega arith in
    let e3 : b + 3 + 1 ≡ b + 4 = omega arith in
    let e4 : b + 4 + 1 ≡ b + 5 = omega arith in
    let e5 : b + 5 + 1 ≡ b + 6 = omega arith in
    let e6 : b + 6 + 1 ≡ b + 7 = omega arith in
    let e7 : b + 7 + 1 ≡ b + 8 = omega arith in
    rw (more, e1, e2, e3, e4, e5, e6, e7) refl

-- the bits of octets from one on are those from its first on
all-bits : (numbers : List ℕ) (a b n : ℕ) → 8 * a ≡ b → flat_map octet_bits (map (λ i. octet_from numbers (8 * i)) (range_with_len a n)) ≡ map (is_set numbers) (range_with_len b (8 * n))
unfolding octet_from
all-bits numbers a b zero e = refl
all-bits numbers a b (suc n) e =
    let rest = all-bits numbers (a + 1) (b + 8) n (omega arith) in
    let first = eight (is_set numbers b) (is_set numbers (b + 1)) (is_set numbers (b + 2))
    (is_set numbers (b + 3)) (is_set numbers (b + 4)) (is_set numbers (b + 5))
    (is_set numbers (b + 6)) (is_set numbers (b + 7)) in
    let bits = range-eight (is_set numbers) b n (8 * suc n) (omega arith) in
    let octet : octet_bits (octet_from numbers (8 * a)) ≡ is_set numbers b ∷ is_set numbers (b + 1)
    ∷ is_set numbers (b + 2) ∷ is_set numbers (b + 3) ∷ is_set numbers (b + 4)
    ∷ is_set numbers (b + 5) ∷ is_set numbers (b + 6) ∷ is_set numbers (b + 7)
    ∷ [] = ap (λ (k : ℕ). octet_bits (octet_from numbers k)) e ∙ first in
    let others = flat_map octet_bits (map (λ i. octet_from numbers (8 * i)) (range_with_len (a + 1) n)) in
    ap (λ (o : List Bool). o ++ others) octet
    ∙ (ap (λ (r : List Bool).
    (is_set numbers b ∷ is_set numbers (b + 1) ∷ is_set numbers (b + 2) ∷ is_set numbers (b + 3)
    ∷ is_set numbers (b + 4) ∷ is_set numbers (b + 5) ∷ is_set numbers (b + 6)
    ∷ is_set numbers (b + 7) ∷ []) ++ r) rest ∙ sym bits)

-- ---- the bits after the last

fold-above : (a : ℕ) (ns : List ℕ) → a ≤ fold max a ns
fold-above a [] = omega arith
fold-above a (n ∷ ns) = let more = fold-above (max a n) ns in omega arith

set-none : (a : ℕ) (ns : List ℕ) (k : ℕ) → fold max a ns < k → is_set ns k ≡ false
set-none a [] k h = refl
set-none a (n ∷ ns) k h =
    let above = fold-above (max a n) ns in
    rw (ne_eqb n k (omega arith), set-none (max a n) ns k h) refl

none-set : (f : ℕ → Bool) (b n : ℕ) → ((k : ℕ) → b ≤ k → f k ≡ false) → map f (range_with_len b n) ≡ replicate n false
none-set f b zero none = refl
none-set f b (suc n) none = rw (none b (omega arith), none-set f (b + 1) n (λ k le. none k (omega arith))) refl

range-append : (f : ℕ → Bool) (b p q c : ℕ) → b + p ≡ c → map f (range_with_len b p) ++ map f (range_with_len c q) ≡ map f (range_with_len b (p + q))
range-append f b zero q c e = let same : b ≡ c = omega arith in let sum : zero + q ≡ q = omega arith in rw (sum, same) refl
range-append f b (suc p) q c e = let sum : suc p + q ≡ suc (p + q) = omega arith in rw sum (ap (λ (o : List Bool). f b ∷ o) (range-append f (b + 1) p q c (omega arith)))

-- ---- the last bit

set-last : (a : ℕ) (ns : List ℕ) → (fold max a ns ≡ a) ⊎ (is_set ns (fold max a ns) ≡ true)
set-last a [] = inl refl
set-last a (n ∷ ns) = elim (set-last (max a n) ns) [
  | inl e ↦ elim (cases_eq (fold max (max a n) ns) a) [ inl same ↦ inl same | inr other ↦ inr (front n (fold max (max a n) ns) (omega arith)) ]
  | inr later ↦ inr (behind (eqb n (fold max (max a n) ns)) later)
]
  where
    front : (n k : ℕ) → n ≡ k → (eqb n k || list_any (λ m. eqb m k) ns) ≡ true
    front n k e = rw (eq-eqb n k e) refl

    behind : (b : Bool) {c : Bool} → c ≡ true → (b || c) ≡ true
    behind true e = refl
    behind false e = e

last-set : (numbers : List ℕ) → numbers ≢ [] → is_set numbers (last_set numbers) ≡ true
last-set [] some = absurd (some refl)
last-set (n ∷ ns) some = elim (set-last 0 (n ∷ ns)) [
  | inl e ↦
      let above = fold-above (max 0 n) ns in
      let zero_is : n ≡ fold max (max 0 n) ns = omega arith in
      rw (eq-eqb n (fold max (max 0 n) ns) zero_is) refl
  | inr set ↦ set
]

ends : (xs : List Bool) → EndsInOne (xs ++ true ∷ [])
ends [] = refl
ends (x ∷ []) = refl
ends (x ∷ y ∷ xs) = ends (y ∷ xs)

-- ---- all of it

bits-are : (numbers : List ℕ) → numbers ≢ [] → IsNamedBits (usage_content numbers) (usage_bits numbers)
unfolding usage_content
bits-are numbers some =
    let last = last_set numbers in
    let unused = 7 - last % 8 in
    let none : (k : ℕ) → last + 1 ≤ k → is_set numbers k ≡ false = λ k le. set-none 0 numbers k (omega arith) in
    let behind = none-set (is_set numbers) (last + 1) unused none in
    let joined = range-append (is_set numbers) 0 (last + 1) unused (last + 1) (omega arith) in
    let count : last + 1 + unused ≡ 8 * (last / 8 + 1) = omega arith in
    let octets = all-bits numbers 0 0 (last / 8 + 1) (omega arith) in
    let padded : usage_bits numbers
    ++ replicate unused false ≡ flat_map octet_bits (usage_octets numbers) =
    rw (← behind) (joined
    ∙ (ap (λ (n : ℕ). map (is_set numbers) (range_with_len 0 n)) count ∙ sym octets)) in
    let final : usage_bits numbers ≡ map (is_set numbers) (range_with_len 0 last) ++ true
    ∷ [] = map-range_with_len_more (is_set numbers) 0 last last (omega arith)
    ∙ ap (λ (b : Bool). map (is_set numbers) (range_with_len 0 last) ++ b ∷ [])
    (last-set numbers some) in
    record {
      encoded = record { unused = unused; octets = usage_octets numbers; parts = refl; few = omega arith; padded = padded };
      shortest = subst EndsInOne (sym final) (ends (map (is_set numbers) (range_with_len 0 last)));
    }

pub usage-told : (numbers : List ℕ) → numbers ≢ [] → length (usage_content numbers) ≤ 4194304 → IsExt (Some extension.KeyUsage) (encode 0x03 (usage_content numbers)) (keyUsage (usage_bits numbers))
usage-told numbers some le =
    record { content = usage_content numbers; fits = fits-bits (usage_content numbers) le; encoded = refl; value = (usage_bits numbers, refl, bits-are numbers some) }

-- bit k is 1 where k is one of the numbers
pub bit-told : (numbers : List ℕ) (k : ℕ) → bit k (usage_bits numbers) ≡ is_set numbers k
bit-told numbers k = elim (cases_lt k (last_set numbers + 1)) [
  | inl lt ↦ get_or-map-range_with_len (is_set numbers) 0 (last_set numbers + 1) k k false lt (omega arith)
  | inr le ↦
      let past : length (usage_bits numbers) ≤ k = rw (length-map-range_with_len (is_set numbers) 0 (last_set numbers + 1)) le in
      get_or_past (usage_bits numbers) k false past ∙ sym (set-none 0 numbers k (omega arith))
]
