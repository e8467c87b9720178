-- A line of base64 is no boundary.
use Rattle.std.proofs.Common.{◌≡◌, ℕ, true, false, List, [], ◌∷◌, refl, arith, nat_eq}
use Rattle.std.specs.Prelude.{◌&&◌}
use Rattle.std.specs.List.{list_all}
use Rattle.std.specs.Str.{bytes_eq}
use Rattle.std.proofs.lemmas.Bool.{false≢true}
use Rattle.std.proofs.lemmas.Bool.Decides.{nat_tests}
use Rattle.ts_pem.specs.declared.block.Label.{Label}
use Rattle.ts_pem.specs.declared.block.Label.TheVariants.{Certificate, Crl}
use Rattle.ts_pem.specs.Pem.{is_symbol, end_line, is_end, is_begin}

no_hyphen : (c : ℕ) → is_symbol c ≡ true → nat_eq c 45 ≡ false
no_hyphen c is = grind (arith, nat_tests, is)

head_of : (c : ℕ) (cs : List ℕ) → list_all is_symbol (c ∷ cs) ≡ true → nat_eq c 45 ≡ false
head_of c cs all =
    (elim (is_symbol c) as (λ t. is_symbol c ≡ t → t && list_all is_symbol cs ≡ true → nat_eq c 45 ≡ false) [
      | true ↦ λ is h. no_hyphen c is
      | false ↦ λ is h. absurd (false≢true h)
    ]) refl all

turned : (c : ℕ) → nat_eq c 45 ≡ false → nat_eq 45 c ≡ false
turned c is = grind (arith, nat_tests, is)

pub not_own_end : (label : Label) (line : List ℕ) → list_all is_symbol line ≡ true
    → bytes_eq line (end_line label) ≡ false
not_own_end Certificate [] all = refl
not_own_end Certificate (c ∷ cs) all = let h = head_of c cs all in rw h refl
not_own_end Crl [] all = refl
not_own_end Crl (c ∷ cs) all = let h = head_of c cs all in rw h refl

pub not_end : (line : List ℕ) → list_all is_symbol line ≡ true → is_end line ≡ false
not_end [] all = refl
not_end (c ∷ cs) all = let h = turned c (head_of c cs all) in rw h refl

pub not_begin : (line : List ℕ) → list_all is_symbol line ≡ true → is_begin line ≡ false
not_begin [] all = refl
not_begin (c ∷ cs) all = let h = turned c (head_of c cs all) in rw h refl
