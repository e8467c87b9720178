-- One more fact that says what is learned.
use Rattle.std.proofs.Common.{◌≡◌, ◌==◌, ◌∙◌, ◌∷◌, ◌++◌, ℕ, List, [], Option, Some, None, Bool, true, false, is_some, refl, sym, ap, subst, true≢false}
use Rattle.std.proofs.lemmas.Bool.Decides.{Decides-eqb}
use Rattle.ts_synod.specs.declared.message.Fact.{Fact}
use Rattle.ts_synod.specs.declared.message.Fact.TheVariants.{Chosen}
use Rattle.ts_synod.specs.Lists.{update_at}
use Rattle.ts_synod.specs.Force.{command_at, first_some, learned_command, log_of}
use Rattle.ts_synod.proofs.Same.{learned_push}
use Rattle.ts_synod.proofs.Sets.{by_test}

-- a fact that says nothing of what is learned where nothing was
first_none : {C : Type 0} (t : Option C) → first_some t None ≡ t
first_none None = refl
first_none (Some c) = refl

first_new : {C : Type 0} (t u : Option C) → is_some t ≡ false → first_some t u ≡ u
first_new None u e = refl
first_new (Some c) u e = absurd (cc)

not_true : (b : Bool) → (b ≡ true → ⊥) → b ≡ false
not_true true h = absurd (h refl)
not_true false h = refl

pub log_learns : {C : Type 0} (facts : List (Fact C)) (q : ℕ) (c : C) → is_some (log_of facts q) ≡ false → update_at (log_of facts) q (Some c) ≡ log_of (facts ++ Chosen q c ∷ [])
log_learns {C} facts q c new = λ i p. at p i
  where
    at : (p : ℕ) → update_at (log_of facts) q (Some c) p ≡ log_of (facts ++ Chosen q c ∷ []) p
    at p = go (p == q) refl ∙ sym (learned_push facts p (Chosen q c))
      where
        other : (p == q) ≡ false → (q == p) ≡ false
        other e = not_true (q == p) (λ s. let k = (Decides-eqb p q).1 (sym ((Decides-eqb q p).0 s)) in true≢false (sym k ∙ e))

        go : (b : Bool) → (p == q) ≡ b → update_at (log_of facts) q (Some c) p ≡ first_some (learned_command p facts) (command_at p (Chosen q c))
        go true e =
            let same : p ≡ q = (Decides-eqb p q).0 e in
            let back : (q == p) ≡ true = (Decides-eqb q p).1 (sym same) in
            let none : is_some (learned_command p facts) ≡ false = subst (λ r. is_some (learned_command r facts) ≡ false) (sym same) new in
            rw (e, back) (sym (first_new (learned_command p facts) (Some c) none))
        go false e = let back = other e in rw (e, back) (sym (first_none (learned_command p facts)))

pub log_stays : {C : Type 0} (facts : List (Fact C)) (f : Fact C) → ((p : ℕ) → command_at p f ≡ None) → log_of facts ≡ log_of (facts ++ f ∷ [])
log_stays {C} facts f none = λ i p. at p i
  where
    at : (p : ℕ) → log_of facts p ≡ log_of (facts ++ f ∷ []) p
    at p = sym (first_none (learned_command p facts)) ∙ ap (first_some (learned_command p facts)) (sym (none p)) ∙ sym (learned_push facts p f)

-- the first command learned at a position counts
pub log_known : {C : Type 0} (facts : List (Fact C)) (q : ℕ) (c : C) → is_some (log_of facts q) ≡ true → log_of facts ≡ log_of (facts ++ Chosen q c ∷ [])
log_known {C} facts q c old = λ i p. at p i
  where
    first : (t u : Option C) → is_some t ≡ true → first_some t u ≡ t
    first None u e = absurd (cc)
    first (Some d) u e = refl

    at : (p : ℕ) → log_of facts p ≡ log_of (facts ++ Chosen q c ∷ []) p
    at p =
        by_test (λ (t : Option C). learned_command p facts ≡ first_some (learned_command p facts) t) (q == p) (Some c) None
        (λ e. sym (first (learned_command p facts) (Some c) (subst (λ r. is_some (log_of facts r) ≡ true) ((Decides-eqb q p).0 e) old)))
        (λ _. sym (first_none (learned_command p facts)))
        ∙ sym (learned_push facts p (Chosen q c))
