-- What the force of a node's facts send of them.
use Rattle.std.proofs.Common.{ℕ, max, List, [], Option, Some, None, true, nat_lt, inl, inr, refl, sym, ap, subst, arith, true≢false, ◌≡◌, ◌≤◌, ◌∷◌, ◌++◌, ◌==◌, ◌∙◌, if◌then◌else◌}
use Rattle.std.proofs.lemmas.Bool.Decides.{nat_tests, Decides-eqb, Decides-ltb}
use Rattle.ts_synod.specs.declared.message.Fact.TheVariants.{Chosen, Promised, Took, Used}
use Rattle.ts_synod.specs.declared.message.Fact.{Fact}
use Rattle.ts_synod.specs.declared.message.Vote.{Vote}
use Rattle.ts_synod.specs.Lists.{Has}
use Rattle.ts_synod.specs.Force.{ballot_at, first_some, greater_vote, learned_command, promised_ballot, round_used_by, taken_vote, used_round, vote_at}
use Rattle.ts_synod.proofs.Sets.{by_test}

pub used_bound : {C : Type 0} (fs : List (Fact C)) (r : ℕ) → Has fs (Used r) → r ≤ used_round fs
used_bound [] r h = absurd h
used_bound (f ∷ fs) r (inl e) = let k : round_used_by f ≡ r = ap round_used_by e in omega arith
used_bound (f ∷ fs) r (inr h) = let k = used_bound fs r h in omega arith

same_test : (p : ℕ) → (p == p) ≡ true
same_test p = (Decides-eqb p p).1 refl

pub promised_bound : {C : Type 0} (fs : List (Fact C)) (p b : ℕ) → Has fs (Promised p b) → b ≤ promised_ballot p fs
promised_bound [] p b h = absurd h
promised_bound {C} (f ∷ fs) p b (inl e) =
    let k : ballot_at p f ≡ b = ap (ballot_at p) e ∙ ap (λ t. if t then b else 0) (same_test p) in omega arith
promised_bound (f ∷ fs) p b (inr h) = let k = promised_bound fs p b h in omega arith

pub took_bound : {C : Type 0} (fs : List (Fact C)) (p b : ℕ) (c : C) → Has fs (Took p b c) → b ≤ promised_ballot p fs
took_bound [] p b c h = absurd h
took_bound {C} (f ∷ fs) p b c (inl e) =
    let k : ballot_at p f ≡ b = ap (ballot_at p) e ∙ ap (λ t. if t then b else 0) (same_test p) in omega arith
took_bound (f ∷ fs) p b c (inr h) = let k = took_bound fs p b c h in omega arith

-- the vote is a greatest one at p, and none send that there is none
abbrev pub IsGreatest : {C : Type 0} → List (Fact C) → ℕ → Option (Vote C) → Type 0
IsGreatest {C} fs p None = (d : ℕ) (c : C) → Has fs (Took p d c) → ⊥
IsGreatest {C} fs p (Some v) = Has fs (Took p v.ballot v.command) × ((d : ℕ) (c : C) → Has fs (Took p d c) → d ≤ v.ballot)

-- past a fact that is no vote at p
skip : {C : Type 0} (f : Fact C) (fs : List (Fact C)) (p : ℕ) (t : Option (Vote C)) → ((d : ℕ) (c : C) → f ≡ Took p d c → ⊥) → IsGreatest fs p t → IsGreatest (f ∷ fs) p t
skip f fs p None other g = λ d c. elim [ inl e ↦ other d c e | inr h ↦ g d c h ]
skip f fs p (Some v) other g = (inr g.0, λ d c. elim [ inl e ↦ absurd (other d c e) | inr h ↦ g.1 d c h ])

ballot_in : {C : Type 0} → Fact C → ℕ
ballot_in (Used r) = 0
ballot_in (Promised p b) = b
ballot_in (Took p b c) = b
ballot_in (Chosen p c) = 0

place_in : {C : Type 0} → Fact C → ℕ
place_in (Used r) = 0
place_in (Promised p b) = p
place_in (Took p b c) = p
place_in (Chosen p c) = p

found : {C : Type 0} (fs : List (Fact C)) (p b : ℕ) (c : C) (t : Option (Vote C)) → IsGreatest fs p t → IsGreatest (Took p b c ∷ fs) p (greater_vote (Some (record { ballot = b; command = c })) t)
unfolding ballot_in
found {C} fs p b c None g = (inl refl, λ d e. elim [ inl same ↦ le same | inr h ↦ absurd (g d e h) ])
  where
    le : {d : ℕ} {e : C} → Took p b c ≡ Took p d e → d ≤ b
    le s = let k = ap ballot_in s in omega arith
found fs p b c (Some w) g =
    by_test (IsGreatest (Took p b c ∷ fs) p) (nat_lt b w.ballot) (Some w) (Some (record { ballot = b; command = c }))
    (λ l. (inr g.0, λ d e. elim [ inl same ↦ (let k : b ≡ d = ap ballot_in same in let m = (Decides-ltb b w.ballot).0 l in omega arith) | inr h ↦ g.1 d e h ]))
    (λ l. (inl refl, λ d e. elim [ inl same ↦ (let k : b ≡ d = ap ballot_in same in omega arith) | inr h ↦ (let k = g.1 d e h in grind (arith, nat_tests)) ]))

pub taken_is : {C : Type 0} (fs : List (Fact C)) (p : ℕ) → IsGreatest fs p (taken_vote p fs)
unfolding place_in
taken_is [] p = λ d c h. h
taken_is (Used r ∷ fs) p = skip (Used r) fs p (taken_vote p fs) (λ d c e. absurd (cc)) (taken_is fs p)
taken_is (Promised q b ∷ fs) p = skip (Promised q b) fs p (taken_vote p fs) (λ d c e. absurd (cc)) (taken_is fs p)
taken_is (Chosen q c ∷ fs) p = skip (Chosen q c) fs p (taken_vote p fs) (λ d c e. absurd (cc)) (taken_is fs p)
taken_is (Took q b c ∷ fs) p =
    by_test (λ t. IsGreatest (Took q b c ∷ fs) p (greater_vote t (taken_vote p fs))) (q == p) (Some (record { ballot = b; command = c })) None
    (λ e. subst (λ k. IsGreatest (Took k b c ∷ fs) p
    (greater_vote (Some (record { ballot = b; command = c })) (taken_vote p fs)))
    (sym ((Decides-eqb q p).0 e)) (found fs p b c (taken_vote p fs) (taken_is fs p)))
    (λ e. skip (Took q b c) fs p (taken_vote p fs) (λ d x s. true≢false (sym ((Decides-eqb q p).1 (ap place_in s)) ∙ e)) (taken_is fs p))

pub learned_is : {C : Type 0} (fs : List (Fact C)) (p : ℕ) (c : C) → learned_command p fs ≡ Some c → Has fs (Chosen p c)
learned_is [] p c e = absurd (cc)
learned_is (Used r ∷ fs) p c e = inr (learned_is fs p c e)
learned_is (Promised q b ∷ fs) p c e = inr (learned_is fs p c e)
learned_is (Took q b d ∷ fs) p c e = inr (learned_is fs p c e)
learned_is (Chosen q d ∷ fs) p c e =
    by_test (λ t. first_some t (learned_command p fs) ≡ Some c → Has (Chosen q d ∷ fs) (Chosen p c)) (q == p) (Some d) None
    (λ same s. let k : q ≡ p = (Decides-eqb q p).0 same in inl (cc))
    (λ _ s. inr (learned_is fs p c s))
    e

-- One more fact.
pub promised_push : {C : Type 0} (fs : List (Fact C)) (p : ℕ) (f : Fact C) → promised_ballot p (fs ++ f ∷ []) ≡ max (promised_ballot p fs) (ballot_at p f)
promised_push [] p f = omega arith
promised_push (g ∷ fs) p f = let h = promised_push fs p f in omega arith

pub greater_assoc_none : {C : Type 0} (t : Option (Vote C)) → greater_vote t None ≡ t
greater_assoc_none None = refl
greater_assoc_none (Some v) = refl

pub taken_push : {C : Type 0} (fs : List (Fact C)) (p : ℕ) (f : Fact C) → vote_at p f ≡ None → taken_vote p (fs ++ f ∷ []) ≡ taken_vote p fs
taken_push [] p f e = ap (λ t. greater_vote t None) e
taken_push (g ∷ fs) p f e = ap (greater_vote (vote_at p g)) (taken_push fs p f e)
