-- How many bits a modulus has.
use Rattle.std.proofs.Common.{◌≡◌, ℕ, suc, ◌+◌, ◌-◌, ◌*◌, ◌^◌, ◌<◌, ◌≤◌, List, [], ◌∷◌, length, get_or, sym, ap, ◌∙◌, arith}
use Rattle.std.proofs.Math.Nat.{mul-le-mul_right}
use Rattle.std.proofs.lemmas.Nat.{pow-add, leading_top}
use Rattle.std.specs.Int.{w8, leading_zeros}
use Rattle.ts_rsa.specs.Octets.{os2ip}
use Rattle.ts_rsa.specs.Key.{bit_length}
use Rattle.ts_rsa.proofs.OctetLemmas.{os2ip-lt, power-256}

-- the first octet of a modulus has at most seven zeros before its first 1
pub few-zeros : (x : ℕ) → 0 < x → x < 256 → leading_zeros w8 x ≤ 7
few-zeros x p l = let t = leading_top 8 x p l in omega (arith, t.1)

number-between : (x r j n w : ℕ) → x < 2 ^ suc j → 2 ^ j ≤ x → r < w
    → (2 ^ j * w ≤ x * w + r) × (x * w + r < 2 ^ suc j * w)
number-between x r j n w h l s =
    (omega (arith, mul-le-mul_right w l), omega (arith, mul-le-mul_right w h))

pub bits-of-number : (octets : List ℕ) → ((i : ℕ) → get_or octets i 0 < 256) → 0 < get_or octets 0 0
    → (2 ^ (bit_length octets - 1) ≤ os2ip octets) × (os2ip octets < 2 ^ bit_length octets)
unfolding os2ip
bits-of-number [] fit p = absurd (omega arith)
bits-of-number (x ∷ xs) fit p =
    let n = length xs in
    let t = leading_top 8 x p (fit 0) in
    let j = t.0 in
    let b : bit_length (x ∷ xs) ≡ suc j + 8 * n = omega (arith, t.1) in
    let low : bit_length (x ∷ xs) - 1 ≡ j + 8 * n = omega (arith, b) in
    let both = number-between x (os2ip xs) j n (256 ^ n) t.3 t.2 (os2ip-lt xs (λ i. fit (suc i))) in
    let lowest : 2 ^ (bit_length (x ∷ xs) - 1) ≡ 2 ^ j * 256 ^ n =
    ap (λ z. 2 ^ z) low ∙ pow-add 2 j (8 * n) ∙ ap (λ z. 2 ^ j * z) (sym (power-256 n)) in
    let highest : 2 ^ bit_length (x ∷ xs) ≡ 2 ^ suc j * 256 ^ n =
    ap (λ z. 2 ^ z) b ∙ pow-add 2 (suc j) (8 * n) ∙ ap (λ z. 2 ^ suc j * z) (sym (power-256 n)) in
    (omega (arith, both.0, lowest), omega (arith, both.1, highest))

-- octets that begin with another than 0 are some
pub some-octets : (octets : List ℕ) → 0 < get_or octets 0 0 → 0 < length octets
some-octets [] p = absurd (omega arith)
some-octets (x ∷ xs) p = omega arith
