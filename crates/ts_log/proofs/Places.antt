-- What a value at a place is to the function that a map stands for.
use Rattle.std.proofs.Common.{◌≡◌, ◌==◌, ◌∙◌, if◌then◌else◌, ℕ, Option, Some, true, false, refl, sym, ap, arith}
use Rattle.std.specs.Ordering.{nat_cmp}
use Rattle.std.specs.BTreeMap.{BTreeMap, get, is_at}
use Rattle.std.proofs.lemmas.Bool.Decides.{nat_tests, Decides-eqb}
use Rattle.ts_synod.specs.declared.message.Vote.{Vote}
use Rattle.ts_synod.specs.Lists.{update_at}
use Rattle.ts_synod.specs.Places.{PutsAt, or_none}
use Rattle.ts_synod.proofs.Sets.{by_test}
use Rattle.ts_log.specs.Maps.{learned_in, received_in, vote_in}

pub learned_put : {C : Type 0} (old new : BTreeMap ℕ (Option C)) (q : ℕ) (c : C) → PutsAt nat_cmp old new q (Some c) → learned_in new ≡ update_at (learned_in old) q (Some c)
learned_put {C} old new q c puts = λ i p. at p i
  where
    at : (p : ℕ) → learned_in new p ≡ update_at (learned_in old) q (Some c) p
    at p =
        ap or_none (puts p) ∙ by_test (λ (o : Option C). or_none (if is_at (nat_cmp q) p then Some (Some c) else get nat_cmp old p) ≡ o) (p == q) (Some c) (learned_in old p)
        (λ e. let same : p ≡ q = (Decides-eqb p q).0 e in let t : is_at (nat_cmp q) p ≡ true = grind (arith, nat_tests) in rw t refl)
        (λ e. let t : is_at (nat_cmp q) p ≡ false = grind (arith, nat_tests) in rw t refl)

-- a function with its own value put at a place
pub put_own : {A : Type 0} (f : ℕ → A) (q : ℕ) → update_at f q (f q) ≡ f
put_own f q = λ i p. at p i
  where
    at : (p : ℕ) → update_at f q (f q) p ≡ f p
    at p = by_test (λ x. x ≡ f p) (p == q) (f q) (f p) (λ e. ap f (sym ((Decides-eqb p q).0 e))) (λ _. refl)

-- the votes of a position, taken out, changed and put back
pub replaced : {C : Type 0} (old mid new : BTreeMap ℕ (BTreeMap ℕ (Option (Vote C)))) (q : ℕ)
    (empty before after : BTreeMap ℕ (Option (Vote C))) → PutsAt nat_cmp old mid q empty
    → get nat_cmp old q ≡ Some before → PutsAt nat_cmp mid new q after
    → ((a : ℕ) → vote_in (Some after) a ≡ vote_in (Some before) a)
    → received_in new ≡ update_at (received_in old) q (received_in old q)
replaced {C} old mid new q empty before after out was back same = λ i p a. at p a i
  where
    at : (p a : ℕ) → received_in new p a ≡ update_at (received_in old) q (received_in old q) p a
    at p a =
        ap (λ (o : Option (BTreeMap ℕ (Option (Vote C)))). vote_in o a) (back p)
        ∙ by_test (λ (f : ℕ → Option (Vote C)). vote_in
        (if is_at (nat_cmp q) p then Some after else get nat_cmp mid p) a ≡ f a) (p == q)
        (received_in old q) (received_in old p)
        (λ e. let eq : p ≡ q = (Decides-eqb p q).0 e in let t : is_at (nat_cmp q) p ≡ true =
        grind (arith, nat_tests) in
        rw t (same a ∙ sym (ap (λ (o : Option (BTreeMap ℕ (Option (Vote C)))). vote_in o a)
        was)))
        (λ e. let t : is_at (nat_cmp q) p ≡ false = grind (arith, nat_tests) in rw t (ap (λ (o : Option (BTreeMap ℕ (Option (Vote C)))). vote_in o a) (out p ∙ go p t)))
      where
        go : (p : ℕ) → is_at (nat_cmp q) p ≡ false → (if is_at (nat_cmp q) p then Some empty else get nat_cmp old p) ≡ get nat_cmp old p
        go p t = rw t refl
