-- The count of a log's leading commands, as it is kept beside the map.
use Rattle.std.proofs.Common.{◌≡◌, ◌≢◌, ◌⊎◌, ◌+◌, ◌<◌, ◌≤◌, ◌==◌, ℕ, Bool, Option, Some, None, true, false, nat_lt, is_some, length, inl, inr, refl, sym, subst, ⊎_elim, arith}
use Rattle.std.proofs.lemmas.Bool.Decides.{nat_tests, Decides-eqb, Decides-ltb}
use Rattle.ts_synod.specs.Lists.{update_at}
use Rattle.ts_synod.specs.Log.{last_position, prefix}
use Rattle.ts_synod.proofs.Sets.{by_test}
use Rattle.ts_synod.proofs.PrefixLength.{Leads, length_is, length_leads}

some_put : {C : Type 0} (f : ℕ → Option C) (p : ℕ) (c : C) (q : ℕ) → (q ≢ p → is_some (f q) ≡ true) → is_some (update_at f p (Some c) q) ≡ true
some_put f p c q h = by_test (λ o. is_some o ≡ true) (q == p) (Some c) (f q) (λ _. refl) (λ e. h (λ same. absurd (let t = (Decides-eqb q p).1 same in cc)))

none_put : {C : Type 0} (f : ℕ → Option C) (p : ℕ) (c : C) (q : ℕ) → q ≢ p → f q ≡ None → update_at f p (Some c) q ≡ None
none_put f p c q ne h = by_test (λ o. o ≡ None) (q == p) (Some c) (f q) (λ e. absurd (ne ((Decides-eqb q p).0 e))) (λ _. h)

-- a command that does not join the leading ones
pub count_stays : {C : Type 0} (f : ℕ → Option C) (n p : ℕ) (c : C) → n ≡ length (prefix f) → (last_position ≤ n) ⊎ (p ≢ n + 1) → n ≡ length (prefix (update_at f p (Some c)))
count_stays {C} f n p c e far = length_is (update_at f p (Some c)) n (record {
  below = λ q l. some_put f p c (1 + q) (λ _. old.below q l);
  gap = ⊎_elim (λ (full : n ≡ last_position). inl full)
      (λ (none : f (1 + n) ≡ None). ⊎_elim
      (λ (full : last_position ≤ n). inl (let m = old.most in omega arith))
      (λ (other : p ≢ n + 1). inr (none_put f p c (1 + n) (λ same. other (omega arith)) none)) far)
      old.gap;
  most = old.most;
})
  where
    old : Leads last_position 1 f n
    old = subst (Leads last_position 1 f) (sym e) (length_leads f)

-- a command that joins them, and the run of commands after it
pub count_grows : {C : Type 0} (f : ℕ → Option C) (n p : ℕ) (c : C) (m : ℕ) → n ≡ length (prefix f)
    → p ≡ n + 1 → p ≤ m → m ≤ last_position → ((q : ℕ) → p < q → q ≤ m → is_some (f q) ≡ true)
    → (m ≡ last_position) ⊎ (f (m + 1) ≡ None) → m ≡ length (prefix (update_at f p (Some c)))
count_grows {C} f n p c m e next low high run gap = length_is (update_at f p (Some c)) m (record {
  below = λ q l. some_put f p c (1 + q) (λ ne. by_test (λ (_ : Bool). is_some (f (1 + q)) ≡ true) (nat_lt q n) true false
      (λ t. old.below q ((Decides-ltb q n).0 t))
      (λ t. run (1 + q) (grind (arith, nat_tests)) (omega arith)));
  gap = ⊎_elim (λ (full : m ≡ last_position). inl full)
      (λ (none : f (m + 1) ≡ None). inr
      (none_put f p c (1 + m) (λ same. absurd (omega arith))
      (let z : m + 1 ≡ 1 + m = omega arith in subst (λ r. f r ≡ None) z none))) gap;
  most = high;
})
  where
    old : Leads last_position 1 f n
    old = subst (Leads last_position 1 f) (sym e) (length_leads f)

pub is_none : {C : Type 0} (o : Option C) → is_some o ≡ false → o ≡ None
is_none None e = refl
is_none (Some c) e = absurd (cc)
