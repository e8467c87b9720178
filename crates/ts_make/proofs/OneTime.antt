-- A moment is written in one way.
use Rattle.std.proofs.Common.{◌≡◌, ℕ, ◌+◌, ℤ, ◌⊎◌, inl, inr, List, sym, ap, ◌∙◌}
use Rattle.std.specs.Int.Signed.{clash_ℤ}
use Rattle.std.proofs.lemmas.Int.{by_lt_z}
use Rattle.ts_der.specs.Element.{encode}
use Rattle.ts_time.specs.Civil.{IsInYears, year_start}
use Rattle.ts_time.proofs.TextLemmas.{IsUtc-one_text, IsGeneral-one_text}
use Rattle.ts_make.specs.Times.{IsTimeOf}

-- a moment lies in some years or does not
pub in_years_or_not : (first last : ℕ) (m : ℤ) → IsInYears first last m ⊎ (IsInYears first last m → ⊥)
in_years_or_not first last m =
    by_lt_z m (year_start first)
    (λ before. inr (λ within. clash_ℤ before within.0))
    (λ low. by_lt_z m (year_start (last + 1)) (λ high. inl (low, high)) (λ after. inr (λ within. clash_ℤ within.1 after)))

pub one-time : (octets others : List ℕ) (m : ℤ) → IsTimeOf octets m → IsTimeOf others m → octets ≡ others
one-time octets others m is other =
    elim (in_years_or_not 1950 2049 m) [
      | inl utc ↦
          let a = is.utc utc in
          let b = other.utc utc in
          a.2 ∙ (ap (λ (text : List ℕ). encode 0x17 text) (IsUtc-one_text a.0 b.0 m a.1 b.1) ∙ sym b.2)
      | inr not_utc ↦ elim (in_years_or_not 0 9999 m) [
        | inl general ↦
            let a = is.general not_utc general in
            let b = other.general not_utc general in
            a.2 ∙ (ap (λ (text : List ℕ). encode 0x18 text) (IsGeneral-one_text a.0 b.0 m a.1 b.1) ∙ sym b.2)
        | inr none ↦ is.outside not_utc none ∙ sym (other.outside not_utc none)
      ]
    ]
