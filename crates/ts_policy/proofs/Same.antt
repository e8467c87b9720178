-- Labels are the same exactly where they are equal.
use Rattle.std.proofs.Common.{◌≡◌, ◌≢◌, Bool, true, false, refl, sym, ◌∙◌, true≢false}
use Rattle.std.proofs.lemmas.Slice.Eq.{bytes_eq-Decides}
use Rattle.ts_policy.specs.Labels.{Label, same}

pub same-eq : (p q : Label) → p ≡ q → same p q ≡ true
unfolding same
same-eq p q e = (bytes_eq-Decides p q).1 e

pub eq-from_same : (p q : Label) → same p q ≡ true → p ≡ q
unfolding same
eq-from_same p q h = (bytes_eq-Decides p q).0 h

pub same-ne : (p q : Label) → p ≢ q → same p q ≡ false
same-ne p q ne = by_cases (same p q) refl
  where
    by_cases : (b : Bool) → same p q ≡ b → b ≡ false
    by_cases true e = absurd (ne (eq-from_same p q e))
    by_cases false e = refl

pub ne-from_same : (p q : Label) → same p q ≡ false → p ≢ q
ne-from_same p q f e = true≢false (sym (same-eq p q e) ∙ f)
