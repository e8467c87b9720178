-- An ascending list of labels is no longer than a list that has each of them.
use Rattle.std.proofs.Common.{◌≡◌, ◌≤◌, Bool, true, false, List, [], ◌∷◌, length, refl, sym, ap, ◌∙◌, inl, inr, true≢false, arith}
use Rattle.std.specs.Prelude.{bytes_eq}
use Rattle.std.specs.Cmp.{IsEquivalence}
use Rattle.std.specs.Cmp.Lexicographic.{on_texts_equal}
use Rattle.std.specs.List.{AllByRecursion, IsDistinct}
use Rattle.std.proofs.lemmas.Map.Made.{length-le_from_is_member}
use Rattle.std.proofs.lemmas.Bool.Decides.{nat_tests}
use Rattle.std.proofs.lemmas.Slice.Eq.{bytes_eq-Decides}
use Rattle.ts_policy.specs.Labels.{Label, In}
use Rattle.ts_policy.specs.Accepted.{comes_before, AreAscending}
use Rattle.ts_policy.proofs.Lists.{passes, passer, moved}

equal : IsEquivalence bytes_eq
equal = on_texts_equal (λ (p : Label). p)

not_before_itself : (p : Label) → comes_before p p ≡ false
not_before_itself [] = refl
not_before_itself (x ∷ p) = let h = not_before_itself p in grind (arith, nat_tests, h)

apart : (p q : Label) → comes_before p q ≡ true → bytes_eq p q ≡ false
apart p q before = by (bytes_eq p q) refl
  where
    by : (b : Bool) → bytes_eq p q ≡ b → b ≡ false
    by true e = absurd (true≢false (sym before ∙ (ap (comes_before p) (sym ((bytes_eq-Decides p q).0 e)) ∙ not_before_itself p)))
    by false e = refl

all_apart : (p : Label) (ps : List Label) → ((q : Label) → In q ps → comes_before p q ≡ true) → AllByRecursion (λ q. bytes_eq p q ≡ false) ps
all_apart p [] h = tt
all_apart p (q ∷ ps) h = (apart p q (h q (inl refl)), all_apart p ps (λ r i. h r (inr i)))

distinct : (ps : List Label) → AreAscending ps → IsDistinct bytes_eq ps
unfolding IsDistinct
distinct [] h = tt
distinct (p ∷ ps) h = (all_apart p ps h.0, distinct ps h.1)

-- as many at most
pub no_longer : (ps qs : List Label) → AreAscending ps → ((p : Label) → In p ps → In p qs) → length ps ≤ length qs
no_longer ps qs ascending all = length-le_from_is_member equal ps qs (distinct ps ascending) (λ q is.
    let x = passer (bytes_eq q) ps is in
    let e = (bytes_eq-Decides q x.0).0 x.2 in
    passes (bytes_eq q) q qs (all q (moved x.0 q ps (sym e) x.1)) (equal.refl q))
