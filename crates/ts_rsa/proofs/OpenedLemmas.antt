-- The octets that a signature of RSASSA-PSS opens to, one of which is left out if it has no bits.
use Rattle.std.proofs.Common.{◌≡◌, ℕ, suc, ◌+◌, ◌-◌, ◌*◌, ◌/◌, ◌%◌, ◌^◌, ◌<◌, ◌↔◌, List, [], ◌∷◌, length, get_or, take, drop, ap, subst, ◌∙◌, arith}
use Rattle.std.proofs.Math.Nat.{pow-suc}
use Rattle.std.proofs.lemmas.Nat.{mod_below, div-add-mod'}
use Rattle.std.proofs.Math.Nat.{mul-le-mul_right}
use Rattle.std.proofs.lemmas.Bool.{cases_lt}
use Rattle.std.proofs.Common.{inl, inr}
use Rattle.ts_digest.specs.declared.hash.Hash.{Hash}
use Rattle.ts_rsa.specs.Octets.{os2ip, i2osp}
use Rattle.ts_rsa.specs.Pss.{IsPssEncoding}
use Rattle.ts_rsa.proofs.OctetLemmas.{os2ip-lt, i2osp-more}

-- what a signature opens to fits the octets of the modulus
pub opened-fits : (x : ℕ) (modulus : List ℕ) → 0 < os2ip modulus
    → ((i : ℕ) → get_or modulus i 0 < 256) → x % os2ip modulus < 256 ^ length modulus
opened-fits x modulus p fit = omega (arith, mod_below x (os2ip modulus) p, os2ip-lt modulus fit)

-- the first octet and the others
pub opened-split : (x k : ℕ) (octets : List ℕ) → 0 < k → octets ≡ i2osp x k
    → (get_or octets 0 0 ≡ x / 256 ^ (k - 1) % 256) × (drop 1 octets ≡ i2osp x (k - 1))
opened-split x k octets p e =
    let n : k ≡ (k - 1) + 1 = omega arith in
    let s : octets ≡ x / 256 ^ (k - 1) % 256 ∷ i2osp x (k - 1) =
    e ∙ ap (i2osp x) n ∙ i2osp-more x (k - 1) in
    (ap (λ z. get_or z 0 0) s, ap (drop 1) s)

-- the first octet is 0 exactly if the number needs one octet less
pub first-zero : (x w : ℕ) → 0 < w → x < w * 256 → (x / w % 256 ≡ 0) ↔ (x < w)
first-zero x w p l =
    let small : x / w < 256 = elim (cases_lt (x / w) 256) [
      | inl s ↦ s
      | inr s ↦ absurd (omega (arith, mul-le-mul_right w s, div-add-mod' x w))
    ] in (
      (λ e. let none : x / w ≡ 0 = omega arith in
          omega (arith, div-add-mod' x w, mod_below x w p, ap (λ z. z * w) none)),
      (λ s. elim (cases_lt 0 (x / w)) [
        | inl g ↦ absurd (omega (arith, mul-le-mul_right w g, div-add-mod' x w))
        | inr g ↦ omega arith
      ]),
    )

-- the same octets in as many bits
pub moved : (hash : Hash) (b c : ℕ) (message em fm : List ℕ) → b ≡ c → em ≡ fm
    → IsPssEncoding hash b message em → IsPssEncoding hash c message fm
moved hash b c message em fm e f h =
    subst (λ z. IsPssEncoding hash c message z) f (subst (λ z. IsPssEncoding hash z message em) e h)

pub whole-octets : (k : ℕ) → 0 < k → 256 ^ k ≡ 256 ^ (k - 1) * 256
whole-octets k p =
    let n : k ≡ suc (k - 1) = omega arith in
    ap (λ z. 256 ^ z) n ∙ pow-suc 256 (k - 1)

-- the first octet of a slice of one
pub first-of : (front octets : List ℕ) → front ≡ take 1 octets
    → get_or front 0 0 ≡ get_or octets 0 0
first-of front [] e = ap (λ z. get_or z 0 0) e
first-of front (x ∷ xs) e = ap (λ z. get_or z 0 0) e
