-- The octets of a number, the lowest first, and the number that octets are, are inverses.
use Rattle.std.proofs.Common.{◌≡◌, ℕ, zero, suc, ◌+◌, ◌*◌, ◌/◌, ◌%◌, ◌^◌, ◌<◌, List, [], ◌∷◌}
use Rattle.std.proofs.Common.{length, reverse, refl, sym, ap, ◌∙◌, arith}
use Rattle.std.specs.Int.{byte_at, bytes_low_first}
use Rattle.std.specs.Int.Digits.{AllBelowBase, number_from_digits}
use Rattle.std.proofs.Math.Nat.{pow-zero, pow-suc, div-div-eq-div-mul}
use Rattle.std.proofs.lemmas.List.{reverse-append}
use Rattle.std.proofs.lemmas.Int.Digits.{number_push}
use Rattle.ts_eddsa.specs.Octets.{little}
use Rattle.ts_curve.specs.Octets.{number_of}

little-none : little [] ≡ 0
unfolding little number_of
little-none = refl

little-cons : (o : ℕ) (octets : List ℕ) → little (o ∷ octets) ≡ little octets * 256 + o
unfolding little number_of
little-cons o octets =
    ap (number_from_digits 256) (reverse-append (o ∷ []) octets)
    ∙ number_push 256 (reverse octets) o

-- one octet after the other
abbrev octets_of : ℕ → ℕ → List ℕ
octets_of zero n = []
octets_of (suc k) n = n % 256 ∷ octets_of k (n / 256)

byte-is : (i n : ℕ) → byte_at i n ≡ n / 256 ^ i % 256
byte-is zero n = ap (λ z. z % 256) (let e : n ≡ n / 1 = omega arith in e)
byte-is (suc i) n = refl

bytes-are : (i k n : ℕ) → bytes_low_first i k n ≡ octets_of k (n / 256 ^ i)
bytes-are i zero n = refl
bytes-are i (suc k) n =
    let next : n / 256 ^ suc i ≡ n / 256 ^ i / 256 =
    ap (λ z. n / z) (pow-suc 256 i) ∙ sym (div-div-eq-div-mul n (256 ^ i) 256) in
    ap (λ z. z ∷ bytes_low_first (suc i) k n) (byte-is i n)
    ∙ ap (λ z. n / 256 ^ i % 256 ∷ z) (bytes-are (suc i) k n ∙ ap (octets_of k) next)

bytes-from-zero : (k n : ℕ) → bytes_low_first 0 k n ≡ octets_of k n
bytes-from-zero k n = bytes-are 0 k n ∙ ap (octets_of k) (let e : n / 1 ≡ n = omega arith in e)

number-is : (k n : ℕ) → n < 256 ^ k → little (octets_of k n) ≡ n
number-is zero n l = little-none ∙ (let e : 0 ≡ n = omega (arith, l, pow-zero 256) in e)
number-is (suc k) n l =
    let e = number-is k (n / 256) (omega (arith, l, pow-suc 256 k)) in
    little-cons (n % 256) (octets_of k (n / 256)) ∙ (
    let w : little (octets_of k (n / 256)) * 256 + n % 256 ≡ n = omega (arith, e) in
    w
    )

length-is : (k n : ℕ) → length (octets_of k n) ≡ k
length-is zero n = refl
length-is (suc k) n = ap suc (length-is k (n / 256))

same-octets : (octets : List ℕ) → AllBelowBase 256 octets
    → octets_of (length octets) (little octets) ≡ octets
same-octets [] h = refl
same-octets (o ∷ octets) h =
    let e = little-cons o octets in
    let l = h.0 in
    let low : little (o ∷ octets) % 256 ≡ o = omega (arith, e, l) in
    let high : little (o ∷ octets) / 256 ≡ little octets = omega (arith, e, l) in
    ap (λ z. z ∷ octets_of (length octets) (little (o ∷ octets) / 256)) low
    ∙ ap (λ z. o ∷ z) (ap (octets_of (length octets)) high ∙ same-octets octets h.1)

pub bytes-number : (k n : ℕ) → n < 256 ^ k → little (bytes_low_first 0 k n) ≡ n
bytes-number k n l = ap little (bytes-from-zero k n) ∙ number-is k n l

pub bytes-length : (k n : ℕ) → length (bytes_low_first 0 k n) ≡ k
bytes-length k n = ap length (bytes-from-zero k n) ∙ length-is k n

pub number-bytes : (k : ℕ) (octets : List ℕ) → length octets ≡ k → AllBelowBase 256 octets
    → octets ≡ bytes_low_first 0 k (little octets)
number-bytes k octets e h =
    sym (same-octets octets h) ∙ ap (λ z. octets_of z (little octets)) e
    ∙ sym (bytes-from-zero k (little octets))
