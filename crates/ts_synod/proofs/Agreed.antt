-- The invariant give agreement.
use Rattle.std.proofs.Common.{ℕ, zero, suc, List, Option, Some, None, Bool, true, false, nat_lt, is_some, inl, inr, refl, sym, subst, ⊎_elim, arith, ◌≡◌, ◌⊎◌, ◌<◌, ◌≤◌, ◌∙◌}
use Rattle.std.proofs.lemmas.Bool.Decides.{nat_tests, Decides-ltb}
use Rattle.ts_synod.specs.declared.message.Body.TheVariants.{Accept}
use Rattle.ts_synod.specs.declared.message.Message.{Message}
use Rattle.ts_synod.specs.declared.message.Fact.TheVariants.{Took}
use Rattle.ts_synod.specs.declared.message.Vote.{Vote}
use Rattle.ts_synod.specs.Lists.{Has}
use Rattle.ts_synod.specs.Proposer.{greatest_reported}
use Rattle.ts_synod.specs.Node.{Node}
use Rattle.ts_synod.specs.Laws.{Agrees, IsChosen}
use Rattle.ts_synod.proofs.Sets.{by_test, majorities_meet, member}
use Rattle.ts_synod.proofs.Best.{best_above, best_is}
use Rattle.ts_synod.proofs.Invariant.{Sent, Reports, Justified, Safe}

pub compare : (a b : ℕ) → (a < b) ⊎ (a ≡ b) ⊎ (b < a)
compare a b =
    by_test (λ (_ : Bool). (a < b) ⊎ (a ≡ b) ⊎ (b < a)) (nat_lt a b) true false (λ t. inl ((Decides-ltb a b).0 t))
    (λ f. by_test (λ (_ : Bool). (a < b) ⊎ (a ≡ b) ⊎ (b < a)) (nat_lt b a) true false (λ t. inr (inr ((Decides-ltb b a).0 t))) (λ g. inr (inl (grind (arith, nat_tests)))))

-- a promise that was given
abbrev Given : {C : Type 0} → Option (Option (Vote C)) → Type 0
Given {C} t = (v : Option (Vote C)) × (t ≡ Some v)

given : {C : Type 0} (t : Option (Option (Vote C))) → is_some t ≡ true → Given t
given None e = absurd (cc)
given (Some v) e = (v, refl)

module _ {C : Type 0} (n : ℕ) (P : C → Type 0) (nodes : ℕ → Node C) (sent : List (Message C)) where
  -- what is chosen was asked for
  asked_for : Safe n P nodes sent → (p : ℕ) (c : C) (h : IsChosen n nodes p c) → (a : ℕ) × Sent sent a (Accept p h.ballot c)
  asked_for s p c h = let m = member h.voters n h.majority in s.took (suc m.0) p h.ballot c (h.took (suc m.0) m.2)

  -- the promises for a ballot above that of a chosen command report a vote at or above it
  abbrev Reported : ℕ → ℕ → ℕ → (ℕ → Option (Option (Vote C))) → Type 0
  Reported p b d promises = (u : Vote C) × (greatest_reported promises n ≡ Some u) × (b ≤ u.ballot) × (u.ballot < d) × ((a : ℕ) × Sent sent a (Accept p u.ballot u.command))

  reported_vote : (s : Safe n P nodes sent) (p : ℕ) (c : C) (h : IsChosen n nodes p c) (d : ℕ) (e : C) (j : Justified n sent p d e) → h.ballot < d → Reported p h.ballot d j.promises
  reported_vote s p c h d e j less =
      let m = majorities_meet h.voters (λ a. is_some (j.promises a)) n h.majority j.majority in
      let t = given (j.promises (suc m.0)) m.3 in
      let ok = s.promise (suc m.0) p d t.0 (j.given (suc m.0) t.0 t.1) in
      at t.0 t.1 ok.reports m.1 (h.took (suc m.0) m.2)
    where
      at : {x : ℕ} (t : Option (Vote C)) → j.promises (suc x) ≡ Some t → Reports (nodes (suc x)).facts p d t → x < n → Has (nodes (suc x)).facts (Took p h.ballot c) → Reported p h.ballot d j.promises
      at None is r l took = let k = r h.ballot c took in absurd (omega arith)
      at {x} (Some v) is r l took =
          let up = best_above j.promises n x v l is in
          let low = r.2 h.ballot c took less in
          let by = best_is j.promises n up.0 up.1 in
          let ok = s.promise by.0 p d (Some up.0) (j.given by.0 (Some up.0) by.1) in
          (up.0, up.1, omega (arith, up.2, low), ok.reports.0, s.took by.0 p up.0.ballot up.0.command ok.reports.1)

  -- each Accept above the ballot of a chosen command carries it
  pub carries : (s : Safe n P nodes sent) (p : ℕ) (c : C) (h : IsChosen n nodes p c) (k d a : ℕ) (e : C) → d ≤ k → h.ballot < d → Sent sent a (Accept p d e) → c ≡ e
  carries s p c h zero d a e most less t = absurd (omega arith)
  carries s p c h (suc k) d a e most less t =
      let j = (s.asked a p d e t).justified in
      let r = reported_vote s p c h d e j less in
      let first = asked_for s p c h in
      ⊎_elim
      (λ (above : h.ballot < r.0.ballot). carries s p c h k r.0.ballot r.4.0 r.0.command (omega (arith, r.3)) above r.4.1)
      (elim [
        | inl same ↦ s.one first.0 r.4.0 p r.0.ballot c r.0.command (subst (λ b. Sent sent first.0 (Accept p b c)) same first.1) r.4.1
        | inr below ↦ absurd (omega (arith, r.2))
      ])
      (compare h.ballot r.0.ballot)
      ∙ j.bound r.0 r.1

  pub one_chosen : (s : Safe n P nodes sent) (p : ℕ) (c d : C) → IsChosen n nodes p c → IsChosen n nodes p d → c ≡ d
  one_chosen s p c d h k =
      let x = asked_for s p c h in
      let y = asked_for s p d k in
      ⊎_elim
      (λ (less : h.ballot < k.ballot). carries s p c h k.ballot k.ballot y.0 d (omega arith) less y.1)
      (elim [
        | inl same ↦ s.one x.0 y.0 p k.ballot c d (subst (λ b. Sent sent x.0 (Accept p b c)) same x.1) y.1
        | inr more ↦ sym (carries s p d k h.ballot h.ballot x.0 c (omega arith) more x.1)
      ])
      (compare h.ballot k.ballot)

  pub was_submitted : (s : Safe n P nodes sent) (p : ℕ) (c : C) → IsChosen n nodes p c → P c
  was_submitted s p c h = let x = asked_for s p c h in (s.asked x.0 p h.ballot c x.1).submitted

pub agreed : {C : Type 0} (n : ℕ) (P : C → Type 0) (nodes : ℕ → Node C) (sent : List (Message C)) → Safe n P nodes sent → Agrees n nodes
agreed n P nodes sent s =
    record {
      held = λ i j p c d h k.
          let x = s.chosen i p c h in (one_chosen n P nodes sent s p c d x (s.chosen j p d k), x);
      chosen = λ p c d. one_chosen n P nodes sent s p c d;
    }
