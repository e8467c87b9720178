-- The octets of bits.
use Rattle.std.proofs.Common.{◌≡◌, ℕ, ◌+◌, ◌*◌, ◌/◌, ◌<◌, ◌≤◌, Bool, true, false, List, [], ◌∷◌, ◌++◌, length, get_or, refl, ap, ◌∙◌, arith}
use Rattle.std.specs.Prelude.{map}
use Rattle.std.specs.List.{flat_map, range_with_len}
use Rattle.std.proofs.lemmas.List.FromFn.{length-map-range_with_len, get_or-map-range_with_len}
use Rattle.ts_der.specs.Element.{encode}
use Rattle.ts_make.specs.Extensions.{extension_octets, extension, id_ce, key_usage}
use Rattle.ts_make.specs.KeyUsage.{is_set, last_set, weight, octet_from, usage_content}
use Rattle.ts_make.proofs.StandIns.{content-short}
use Rattle.ts_make.proofs.TooLong.{value-within}

-- one of the bits
flag-is : (numbers : List ℕ) (flags : List Bool) (count k : ℕ) → flags ≡ map (is_set numbers) (range_with_len 0 count) → k < count → get_or flags k false ≡ is_set numbers k
flag-is numbers flags count k e h = ap (λ (f : List Bool). get_or f k false) e ∙ get_or-map-range_with_len (is_set numbers) 0 count k k false h (omega arith)

-- the octet of eight of them
pub octet-is : (numbers : List ℕ) (flags : List Bool) (count i : ℕ) → flags ≡ map (is_set numbers) (range_with_len 0 (8 * count)) → i < count
    → weight (get_or flags (8 * i) false) 128 + weight (get_or flags (8 * i + 1) false) 64 + weight
    (get_or flags (8 * i + 2) false) 32 + weight (get_or flags (8 * i + 3) false) 16 + weight
    (get_or flags (8 * i + 4) false) 8 + weight (get_or flags (8 * i + 5) false) 4 + weight
    (get_or flags (8 * i + 6) false) 2 + weight (get_or flags (8 * i + 7) false) 1 ≡ octet_from
    numbers (8 * i)
unfolding octet_from
octet-is numbers flags count i e h =
    let at : (k : ℕ) → k < 8 * count → get_or flags k false ≡ is_set numbers k = λ k lt. flag-is numbers flags (8 * count) k e lt in
    rw (
      at (8 * i) (omega arith),
      at (8 * i + 1) (omega arith),
      at (8 * i + 2) (omega arith),
      at
          (8 * i + 3) (omega arith),
      at (8 * i + 4) (omega arith),
      at (8 * i + 5) (omega arith),
      at
          (8 * i + 6) (omega arith),
      at (8 * i + 7) (omega arith),
    ) refl

-- as many octets as a number asks for
usage-length : (numbers : List ℕ) → length (usage_content numbers) ≡ last_set numbers / 8 + 2
unfolding usage_content
usage-length numbers =
    let octets = length-map-range_with_len (λ i. octet_from numbers (8 * i)) 0 (last_set numbers / 8 + 1) in
    omega arith

-- nor is the BIT STRING longer than the extension
pub usage-value : (old numbers : List ℕ) → 0 < length numbers → length (encode 0x03 (usage_content numbers)) ≤ length (old ++ flat_map extension_octets (key_usage numbers))
usage-value old [] some = absurd (omega arith)
usage-value old (n ∷ numbers) some = value-within old (extension (id_ce 15) true (encode 0x03 (usage_content (n ∷ numbers))))

-- nor is its content
pub usage-within : (old numbers : List ℕ) → 0 < length numbers → length (usage_content numbers) ≤ length (old ++ flat_map extension_octets (key_usage numbers))
usage-within old numbers some =
    let value = usage-value old numbers some in
    let short = content-short 0x03 (usage_content numbers) in
    omega arith

-- there is no room for a bit of a great number
pub usage-far : (numbers : List ℕ) → 0x2000000 ≤ last_set numbers → 4194304 < length (usage_content numbers)
usage-far numbers far = let content = usage-length numbers in omega arith
