-- A number has one encoding, and it is read in one way.
use Rattle.std.proofs.Common.{◌≡◌, ◌<◌, ◌^◌, ℕ, List, ◌++◌, length, take, drop, sym, ◌∙◌, ap, arith}
use Rattle.std.proofs.lemmas.Nat.{from_be_bytes-to_be_bytes_8}
use Rattle.std.specs.Int.{to_be_bytes, from_be_bytes, w32, w64}
use Rattle.ts_journal.proofs.Blocks.{Same, one4}

pub cut4 : (rest : List ℕ) (n : ℕ) (after : List ℕ) → length rest < 4 → rest ≡ to_be_bytes w32 n ++ after → ⊥
cut4 rest n after short is = absurd (omega (arith, short, ap length is))

pub cut8 : (rest : List ℕ) (n : ℕ) (after : List ℕ) → length rest < 8 → rest ≡ to_be_bytes w64 n ++ after → ⊥
cut8 rest n after short is = absurd (omega (arith, short, ap length is))

pub one8 : (m n : ℕ) (t u : List ℕ) → m < 2 ^ 64 → n < 2 ^ 64 → to_be_bytes w64 m ++ t ≡ to_be_bytes w64 n ++ u → Same m n t u
one8 m n t u small less is = record {
  number = sym (from_be_bytes-to_be_bytes_8 m small) ∙ ap (λ l. from_be_bytes w64 (take 8 l)) is ∙ from_be_bytes-to_be_bytes_8 n less;
  rest = ap (drop 8) is;
}

pub same4 : (rest : List ℕ) (m n : ℕ) (after : List ℕ) → m < 2 ^ 32 → n < 2 ^ 32 → rest ≡ to_be_bytes w32 m ++ drop 4 rest → rest ≡ to_be_bytes w32 n ++ after → Same m n (drop 4 rest) after
same4 rest m n after small less is too = one4 m n (drop 4 rest) after small less (sym is ∙ too)

pub same8 : (rest : List ℕ) (m n : ℕ) (after : List ℕ) → m < 2 ^ 64 → n < 2 ^ 64 → rest ≡ to_be_bytes w64 m ++ drop 8 rest → rest ≡ to_be_bytes w64 n ++ after → Same m n (drop 8 rest) after
same8 rest m n after small less is too = one8 m n (drop 8 rest) after small less (sym is ∙ too)
