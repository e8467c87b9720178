-- The reported vote of the greatest ballot.
use Rattle.std.proofs.Common.{ℕ, zero, suc, Option, Some, None, Bool, true, false, nat_lt, inl, inr, refl, sym, ap, subst, ⊎_elim, arith, ◌≡◌, ◌⊎◌, ◌<◌, ◌≤◌, ◌∙◌}
use Rattle.std.proofs.lemmas.Bool.Decides.{nat_tests, Decides-ltb}
use Rattle.ts_synod.specs.declared.message.Vote.{Vote}
use Rattle.ts_synod.specs.Force.{greater_vote}
use Rattle.ts_synod.specs.Proposer.{greatest_reported, reported_vote}
use Rattle.ts_synod.proofs.Sets.{by_test}

-- a vote, at or above a ballot
abbrev Covers : {C : Type 0} → Option (Vote C) → ℕ → Type 0
Covers {C} t b = (u : Vote C) × (t ≡ Some u) × (b ≤ u.ballot)

greater_left : {C : Type 0} (v : Vote C) (w : Option (Vote C)) → Covers (greater_vote (Some v) w) v.ballot
greater_left v None = (v, refl, omega arith)
greater_left v (Some w) = by_test (λ t. Covers t v.ballot) (nat_lt v.ballot w.ballot) (Some w)
    (Some v) (λ l. let k = (Decides-ltb v.ballot w.ballot).0 l in (w, refl, omega arith))
    (λ _. (v, refl, omega arith))

greater_right : {C : Type 0} (x : Option (Vote C)) (w : Vote C) → Covers (greater_vote x (Some w)) w.ballot
greater_right None w = (w, refl, omega arith)
greater_right (Some v) w = by_test (λ t. Covers t w.ballot) (nat_lt v.ballot w.ballot) (Some w) (Some v) (λ l. (w, refl, omega arith)) (λ l. (v, refl, grind (arith, nat_tests)))

pub greater_is : {C : Type 0} (x y : Option (Vote C)) (u : Vote C) → greater_vote x y ≡ Some u → (x ≡ Some u) ⊎ (y ≡ Some u)
greater_is None y u e = inr e
greater_is (Some v) None u e = inl e
greater_is (Some v) (Some w) u e = by_test (λ t. t ≡ Some u → (Some v ≡ Some u) ⊎ (Some w ≡ Some u)) (nat_lt v.ballot w.ballot) (Some w) (Some v) (λ _ f. inr f) (λ _ f. inl f) e

pub best_above : {C : Type 0} (promises : ℕ → Option (Option (Vote C))) (n k : ℕ) (v : Vote C) → k < n → promises (suc k) ≡ Some (Some v) → Covers (greatest_reported promises n) v.ballot
best_above promises zero k v l e = absurd (omega arith)
best_above {C} promises (suc n) k v l e =
    ⊎_elim
    (λ (same : k ≡ n).
    subst (λ t. Covers (greater_vote (greatest_reported promises n) t) v.ballot) (sym (ap reported_vote (ap (λ j. promises (suc j)) (sym same) ∙ e)))
    (greater_right (greatest_reported promises n) v))
    (λ (less : k < n). let h = best_above promises n k v less e in
    let g = subst (λ t. Covers (greater_vote t (reported_vote (promises (suc n)))) h.0.ballot) (sym h.1) (greater_left h.0 (reported_vote (promises (suc n)))) in
    (g.0, g.1, omega (arith, h.2, g.2)))
    (last (omega arith))
  where
    last : k ≤ n → (k ≡ n) ⊎ (k < n)
    last m = by_test (λ (b : Bool). (k ≡ n) ⊎ (k < n)) (nat_lt k n) true false (λ t. inr ((Decides-ltb k n).0 t)) (λ f. inl (grind (arith, nat_tests)))

pub best_is : {C : Type 0} (promises : ℕ → Option (Option (Vote C))) (n : ℕ) (u : Vote C) → greatest_reported promises n ≡ Some u → (a : ℕ) × (promises a ≡ Some (Some u))
best_is promises zero u e = absurd (cc)
best_is {C} promises (suc n) u e =
    ⊎_elim (λ (h : greatest_reported promises n ≡ Some u). best_is promises n u h)
    (λ (h : reported_vote (promises (suc n)) ≡ Some u). (suc n, out (promises (suc n)) h))
    (greater_is (greatest_reported promises n) (reported_vote (promises (suc n))) u e)
  where
    out : (t : Option (Option (Vote C))) → reported_vote t ≡ Some u → t ≡ Some (Some u)
    out None h = absurd (cc)
    out (Some t) h = ap Some h
