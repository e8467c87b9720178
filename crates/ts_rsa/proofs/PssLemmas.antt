-- MGF1, block by block.
use Rattle.std.proofs.Common.{◌≡◌, ℕ, zero, suc, ◌+◌, ◌*◌, ◌/◌, ◌%◌, ◌^◌, ◌<◌, ◌≤◌, List, [], ◌∷◌, ◌++◌, length, get_or, bit_xor, refl, sym, ap, ◌∙◌, arith}
use Rattle.std.proofs.Math.Nat.{mul-le-mul_right, mul-le-mul_left}
use Rattle.std.proofs.lemmas.Nat.{div-add-mod', mod_below, div-mul-add, mod-mul-add}
use Rattle.std.proofs.lemmas.List.{append-nil}
use Rattle.ts_digest.specs.declared.hash.Hash.{Hash}
use Rattle.ts_rsa.specs.Octets.{i2osp}
use Rattle.ts_digest.specs.Hash.{hash_size, hash_of}
use Rattle.ts_rsa.specs.Pss.{mask_octet, unmasked_from}

-- a block begins within the octets
pub block-starts : (b n s : ℕ) → b < n / s + 1 → b * s ≤ n
block-starts b n s l =
    let k : b ≤ n / s = omega arith in
    omega (arith, mul-le-mul_right s k, div-add-mod' n s)

-- a block's number fits one octet
pub block-small : (b n s : ℕ) → b < n / s + 1 → 32 ≤ s → n ≤ 1024 → b < 256
block-small b n s l m h =
    let k = block-starts b n s l in
    let d : b * 32 ≤ b * s = mul-le-mul_left b m in
    omega (arith, k, d)

-- the blocks reach all octets
pub all-covered : (n s : ℕ) → 0 < s → n < (n / s + 1) * s
all-covered n s p = omega (arith, div-add-mod' n s, mod_below n s p)

pub length-unmasked : (hash : Hash) (seed : List ℕ) (k : ℕ) (xs : List ℕ)
    → length (unmasked_from hash seed k xs) ≡ length xs
unfolding unmasked_from
length-unmasked hash seed k [] = refl
length-unmasked hash seed k (x ∷ xs) = omega (arith, length-unmasked hash seed (k + 1) xs)

pub octet-unmasked : (hash : Hash) (seed : List ℕ) (k : ℕ) (xs : List ℕ) (i : ℕ) → i < length xs
    → get_or (unmasked_from hash seed k xs) i 0
    ≡ bit_xor (get_or xs i 0) (mask_octet hash seed (k + i))
unfolding unmasked_from
octet-unmasked hash seed k [] i l = absurd (omega arith)
octet-unmasked hash seed k (x ∷ xs) zero l =
    let e : k ≡ k + 0 = omega arith in
    ap (λ z. bit_xor x (mask_octet hash seed z)) e
octet-unmasked hash seed k (x ∷ xs) (suc i) l =
    let e : (k + 1) + i ≡ k + suc i = omega arith in
    octet-unmasked hash seed (k + 1) xs i (omega arith)
    ∙ ap (λ z. bit_xor (get_or xs i 0) (mask_octet hash seed z)) e

-- a small number in four octets
counter : (b : ℕ) → b < 256 → i2osp b 4 ≡ 0 ∷ 0 ∷ 0 ∷ b ∷ []
unfolding i2osp
counter b l =
    let e3 : b / 256 ^ 3 % 256 ≡ 0 = omega arith in
    let e2 : b / 256 ^ 2 % 256 ≡ 0 = omega arith in
    let e1 : b / 256 ^ 1 % 256 ≡ 0 = omega arith in
    let e0 : b / 256 ^ 0 % 256 ≡ b = omega arith in
    λ j. e3 j ∷ e2 j ∷ e1 j ∷ e0 j ∷ []

-- an octet of the block's hash is that of the mask
pub mask-octet : (hash : Hash) (seed items : List ℕ) (b s j : ℕ) → s ≡ hash_size hash → j < s
    → b < 256 → items ≡ hash_of hash (seed ++ (0 ∷ 0 ∷ 0 ∷ b ∷ []) ++ [])
    → get_or items j 0 ≡ mask_octet hash seed (b * s + j)
unfolding mask_octet
mask-octet hash seed items b s j size l m e =
    let d : (b * s + j) / hash_size hash ≡ b =
    ap (λ z. (b * s + j) / z) (sym size) ∙ div-mul-add b s j l in
    let r : (b * s + j) % hash_size hash ≡ j =
    ap (λ z. (b * s + j) % z) (sym size) ∙ mod-mul-add b s j l in
    let bare : seed ++ (0 ∷ 0 ∷ 0 ∷ b ∷ []) ++ [] ≡ seed ++ i2osp b 4 =
    append-nil (seed ++ (0 ∷ 0 ∷ 0 ∷ b ∷ [])) ∙ ap (λ z. seed ++ z) (sym (counter b m)) in
    ap (λ z. get_or z j 0) (e ∙ ap (λ z. hash_of hash z) bare)
    ∙ sym (λ k. get_or (hash_of hash (seed ++ i2osp (d k) 4)) (r k) 0)
