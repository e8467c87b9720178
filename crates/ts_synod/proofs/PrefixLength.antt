-- The length of the prefix of a log, as a counter can be kept: how many positions from 1 on are learned without a gap.
use Rattle.std.proofs.Common.{ℕ, zero, suc, [], Option, Some, None, true, is_some, length, inl, inr, refl, ap, subst, ⊎_elim, arith, ◌≡◌, ◌⊎◌, ◌+◌, ◌<◌, ◌≤◌, ◌∷◌}
use Rattle.ts_synod.specs.Log.{last_position, leading, prefix}

-- from p on, n of at most k positions are learned without a gap
pub record Leads {C : Type 0} (k p : ℕ) (learned : ℕ → Option C) (n : ℕ) : Type 0 where
  pub below : (q : ℕ) → q < n → is_some (learned (p + q)) ≡ true
  pub gap : (n ≡ k) ⊎ (learned (p + n) ≡ None)
  pub most : n ≤ k

leads : {C : Type 0} (k p : ℕ) (learned : ℕ → Option C) → Leads k p learned (length (leading k p learned))
leads zero p learned = record { below = λ q l. absurd (omega arith); gap = inl refl; most = omega arith }
leads {C} (suc k) p learned = go (leads k (suc p) learned) (learned p) refl
  where
    go : Leads k (suc p) learned (length (leading k (suc p) learned)) → (o : Option C)
        → learned p ≡ o → Leads (suc k) p learned
        (length {A = C} (elim o [ None ↦ [] | Some c ↦ c ∷ leading k (suc p) learned ]))
    go rest None e = record { below = λ q l. absurd (omega arith); gap = inr (subst (λ q. learned q ≡ None) (let z : p ≡ p + 0 = omega arith in z) e); most = omega arith }
    go rest (Some c) e =
        record {
          below = below;
          gap = ⊎_elim (λ (f : length (leading k (suc p) learned) ≡ k). inl (omega arith))
              (λ (f : learned (suc p + length (leading k (suc p) learned)) ≡ None). inr
              (subst (λ q. learned q ≡ None)
              (let z : suc p + length (leading k (suc p) learned) ≡ p + suc
              (length (leading k (suc p) learned)) = omega arith in z) f)) rest.gap;
          most = let m = rest.most in omega arith;
        }
      where
        below : (q : ℕ) → q < suc (length (leading k (suc p) learned)) → is_some (learned (p + q)) ≡ true
        below zero l = subst (λ r. is_some (learned r) ≡ true) (let z : p ≡ p + 0 = omega arith in z) (ap is_some e)
        below (suc q) l = subst (λ r. is_some (learned r) ≡ true) (let z : suc p + q ≡ p + suc q = omega arith in z) (rest.below q (omega arith))

-- there is one such number
one_length : {C : Type 0} (k p : ℕ) (learned : ℕ → Option C) (m n : ℕ) → Leads k p learned m → Leads k p learned n → m < n → ⊥
one_length k p learned m n a b l =
    ⊎_elim (λ (e : m ≡ k). let h = b.most in absurd (omega arith)) (λ (e : learned (p + m) ≡ None). let h = b.below m l in absurd (cc)) a.gap

pub length_is : {C : Type 0} (learned : ℕ → Option C) (n : ℕ) → Leads last_position 1 learned n → n ≡ length (prefix learned)
unfolding prefix
length_is learned n h =
    let m = length (leading last_position 1 learned) in
    let own : Leads last_position 1 learned m = leads last_position 1 learned in
    let low : n < m → ⊥ = λ l. one_length last_position 1 learned n m h own l in
    let high : m < n → ⊥ = λ l. one_length last_position 1 learned m n own h l in
    omega (arith, low, high)

pub length_leads : {C : Type 0} (learned : ℕ → Option C) → Leads last_position 1 learned (length (prefix learned))
unfolding prefix
length_leads learned = leads last_position 1 learned
