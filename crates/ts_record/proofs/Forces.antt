-- The facts that a rewrite copies are of the force of all.
use Rattle.std.proofs.Common.{◌≡◌, ◌≢◌, ◌⊎◌, inl, inr, ⊎_elim, ◌≤◌, ◌<◌, ◌+◌, ℕ, zero, suc, max}
use Rattle.std.proofs.Common.{true, false, Bool, List, [], ◌∷◌, ◌++◌, Option, Some, None, ◌==◌}
use Rattle.std.proofs.Common.{nat_lt, if◌then◌else◌, refl, sym, ◌∙◌, ap, subst, arith}
use Rattle.std.proofs.lemmas.Bool.Decides.{Decides-eqb, nat_tests}
use Rattle.ts_synod.specs.Force.{SameForce, used_round, greater_vote, first_some, taken_vote, vote_at, learned_command, command_at, promised_ballot, ballot_at}
use Rattle.ts_synod.proofs.Sets.{by_test}
use Rattle.ts_synod.proofs.Same.{greater_assoc}
use Rattle.ts_synod.specs.declared.message.Fact.{Fact}
use Rattle.ts_synod.specs.declared.message.Fact.TheVariants.{Used, Promised, Took, Chosen}
use Rattle.ts_synod.specs.declared.message.Vote.{Vote}
use Rattle.ts_record.specs.Compacted.{position_of, last_fact_position, promise_at, greatest_promise, used_fact, promise_fact, vote_fact, learned_fact, facts_at, facts_from, compact}
use Rattle.ts_record.proofs.Places.{yes, no, vote_none, first_none}

-- the force of facts at p, and the greatest round
record Sees {C : Type 0} (p : ℕ) (fs : List (Fact C)) (r b : ℕ) (v : Option (Vote C)) (c : Option C) : Type 0 where
  pub used : used_round fs ≡ r
  pub promised : promised_ballot p fs ≡ b
  pub taken : taken_vote p fs ≡ v
  pub learned : learned_command p fs ≡ c

first_assoc : {A : Type 0} (x y z : Option A) → first_some (first_some x y) z ≡ first_some x (first_some y z)
first_assoc None y z = refl
first_assoc (Some x) y z = refl

both : {C : Type 0} (p : ℕ) (fs gs : List (Fact C))
    → Sees p (fs ++ gs) (max (used_round fs) (used_round gs))
    (max (promised_ballot p fs) (promised_ballot p gs))
    (greater_vote (taken_vote p fs) (taken_vote p gs))
    (first_some (learned_command p fs) (learned_command p gs))
both p [] gs = record { used = omega arith; promised = omega arith; taken = refl; learned = refl }
both p (f ∷ fs) gs = let h = both p fs gs in let hu = h.used in let hp = h.promised in record {
  used = omega (arith, hu);
  promised = omega (arith, hp);
  taken = ap (greater_vote (vote_at p f)) h.taken ∙ sym (greater_assoc (vote_at p f) (taken_vote p fs) (taken_vote p gs));
  learned = ap (first_some (command_at p f)) h.learned ∙ sym (first_assoc (command_at p f) (learned_command p fs) (learned_command p gs));
}

join : {C : Type 0} (p : ℕ) (fs gs : List (Fact C)) (r q b d : ℕ) (v w : Option (Vote C))
    (c e : Option C) → Sees p fs r b v c → Sees p gs q d w e
    → Sees p (fs ++ gs) (max r q) (max b d) (greater_vote v w) (first_some c e)
join p fs gs r q b d v w c e x y = let h = both p fs gs in let hu = h.used in let hp = h.promised in record {
  used = omega (arith, hu, x.used, y.used);
  promised = omega (arith, hp, x.promised, y.promised);
  taken = h.taken ∙ (λ i. greater_vote (x.taken i) (y.taken i));
  learned = h.learned ∙ (λ i. first_some (x.learned i) (y.learned i));
}

-- nothing is claimed of p
abbrev Nothing : {C : Type 0} → ℕ → List (Fact C) → Type 0
Nothing p fs = Sees p fs 0 0 None None

abbrev no_facts : {C : Type 0} → List (Fact C)
no_facts = []

none : {C : Type 0} (p : ℕ) → Nothing p (no_facts {C = C})
none p = record { used = refl; promised = refl; taken = refl; learned = refl }

after_nothing : {C : Type 0} (p : ℕ) (fs gs : List (Fact C)) (b : ℕ) (v : Option (Vote C)) (c : Option C) → Nothing p fs → Sees p gs 0 b v c → Sees p (fs ++ gs) 0 b v c
after_nothing p fs gs b v c x y = let j = join p fs gs 0 0 0 b None v None c x y in
    record { used = omega (arith, j.used); promised = omega (arith, j.promised); taken = j.taken; learned = j.learned }

before_nothing : {C : Type 0} (p : ℕ) (fs gs : List (Fact C)) (b : ℕ) (v : Option (Vote C)) (c : Option C) → Sees p fs 0 b v c → Nothing p gs → Sees p (fs ++ gs) 0 b v c
before_nothing p fs gs b v c x y = let j = join p fs gs 0 0 b 0 v None c None x y in
    record { used = omega (arith, j.used); promised = omega (arith, j.promised); taken = j.taken ∙ vote_none v; learned = j.learned ∙ first_none c }

-- the parts of a position, at that position and at others
promise_here : {C : Type 0} (p b : ℕ) → Sees p (promise_fact {C = C} p b) 0 b None None
promise_here {C} p b = by_test (λ (fs : List (Fact C)). Sees p fs 0 b None None) (b == 0) [] (Promised p b ∷ [])
    (λ e. let z : b ≡ 0 = (Decides-eqb b 0).0 e in record { used = refl; promised = sym z; taken = refl; learned = refl })
    (λ e. let y : (if p == p then b else 0) ≡ b = yes p b 0 in record { used = omega arith; promised = omega (arith, y); taken = refl; learned = refl })

promise_there : {C : Type 0} (q p b : ℕ) → p ≢ q → Nothing p (promise_fact {C = C} q b)
promise_there {C} q p b differ = by_test (λ (fs : List (Fact C)). Nothing p fs) (b == 0) [] (Promised q b ∷ [])
    (λ e. none p)
    (λ e. let n : (if q == p then b else 0) ≡ 0 = no q p b 0 differ in record { used = omega arith; promised = omega (arith, n); taken = refl; learned = refl })

abbrev ballot_of : {C : Type 0} → Option (Vote C) → ℕ
ballot_of None = 0
ballot_of (Some v) = v.ballot

vote_here : {C : Type 0} (p : ℕ) (v : Option (Vote C)) → Sees p (vote_fact p v) 0 (ballot_of v) v None
vote_here p None = none p
vote_here p (Some v) = let y : (if p == p then v.ballot else 0) ≡ v.ballot = yes p v.ballot 0 in
    record { used = omega arith; promised = omega (arith, y); taken = vote_none _ ∙ yes p (Some v) None; learned = refl }

vote_there : {C : Type 0} (q p : ℕ) (v : Option (Vote C)) → p ≢ q → Nothing p (vote_fact q v)
vote_there q p None differ = none p
vote_there q p (Some v) differ = let n : (if q == p then v.ballot else 0) ≡ 0 = no q p v.ballot 0 differ in
    record { used = omega arith; promised = omega (arith, n); taken = vote_none _ ∙ no q p (Some v) None differ; learned = refl }

learned_here : {C : Type 0} (p : ℕ) (c : Option C) → Sees p (learned_fact p c) 0 0 None c
learned_here p None = none p
learned_here p (Some c) = record { used = omega arith; promised = omega arith; taken = refl; learned = first_none _ ∙ yes p (Some c) None }

learned_there : {C : Type 0} (q p : ℕ) (c : Option C) → p ≢ q → Nothing p (learned_fact q c)
learned_there q p None differ = none p
learned_there q p (Some c) differ = record { used = omega arith; promised = omega arith; taken = refl; learned = first_none _ ∙ no q p (Some c) None differ }

-- a vote counts as a promise
ballot_greater : {C : Type 0} (v w : Option (Vote C)) → ballot_of (greater_vote v w) ≡ max (ballot_of v) (ballot_of w)
ballot_greater None w = omega arith
ballot_greater (Some v) None = omega arith
ballot_greater (Some v) (Some w) = by_test (λ t. ballot_of t ≡ max v.ballot w.ballot) (nat_lt v.ballot w.ballot) (Some w) (Some v) (λ e. grind (arith, nat_tests)) (λ e. grind (arith, nat_tests))

vote_ballot : {C : Type 0} (q p b : ℕ) (c : C) → ballot_of (if q == p then Some (record { ballot = b; command = c }) else None) ≡ (if q == p then b else 0)
vote_ballot q p b c = go (q == p)
  where
    go : (t : Bool) → ballot_of (if t then Some (record { ballot = b; command = c }) else None) ≡ (if t then b else 0)
    go true = refl
    go false = refl

ballot_split : {C : Type 0} (p : ℕ) (f : Fact C) → ballot_at p f ≡ max (promise_at p f) (ballot_of (vote_at p f))
ballot_split p (Used r) = omega arith
ballot_split p (Promised q b) = omega arith
ballot_split p (Took q b c) = let v = vote_ballot q p b c in omega (arith, v)
ballot_split p (Chosen q c) = omega arith

promised_split : {C : Type 0} (p : ℕ) (fs : List (Fact C)) → max (greatest_promise p fs) (ballot_of (taken_vote p fs)) ≡ promised_ballot p fs
promised_split p [] = refl
promised_split p (f ∷ fs) = let h = promised_split p fs in let b = ballot_split p f in let g = ballot_greater (vote_at p f) (taken_vote p fs) in omega (arith, h, b, g)

at_here : {C : Type 0} (p : ℕ) (fs : List (Fact C)) → Sees p (facts_at p fs) 0 (promised_ballot p fs) (taken_vote p fs) (learned_command p fs)
at_here p fs =
    let v = taken_vote p fs in
    let c = learned_command p fs in
    let b = greatest_promise p fs in
    let tail = join p (vote_fact p v) (learned_fact p c) 0 0 (ballot_of v) 0 v None None c (vote_here p v) (learned_here p c) in
    let all = join p (promise_fact p b) (vote_fact p v ++ learned_fact p c) 0 0 b (max (ballot_of v) 0) None (greater_vote v None) None (first_some None c) (promise_here p b) tail in
    let split = promised_split p fs in
    record { used = omega (arith, all.used); promised = omega (arith, all.promised, split); taken = all.taken ∙ vote_none v; learned = all.learned }

at_there : {C : Type 0} (q p : ℕ) (fs : List (Fact C)) → p ≢ q → Nothing p (facts_at q fs)
at_there q p fs differ =
    let v = vote_fact q (taken_vote q fs) in
    let c = learned_fact q (learned_command q fs) in
    after_nothing p (promise_fact q (greatest_promise q fs)) (v ++ c) 0 None None (promise_there q p (greatest_promise q fs) differ)
    (after_nothing p v c 0 None None (vote_there q p (taken_vote q fs) differ) (learned_there q p (learned_command q fs) differ))

outside : {C : Type 0} (p from n : ℕ) (fs : List (Fact C)) → (p < from) ⊎ (from + n ≤ p) → Nothing p (facts_from from n fs)
outside p from zero fs out = none p
outside p from (suc n) fs out =
    after_nothing p (facts_at from fs) (facts_from (suc from) n fs) 0 None None
    (at_there from p fs (λ e. ⊎_elim (λ l. omega (arith, l, e)) (λ l. omega (arith, l, e)) out))
    (outside p (suc from) n fs (⊎_elim (λ l. inl (omega (arith, l))) (λ l. inr (omega (arith, l))) out))

inside : {C : Type 0} (p from n : ℕ) (fs : List (Fact C)) → from ≤ p → p < from + n → Sees p (facts_from from n fs) 0 (promised_ballot p fs) (taken_vote p fs) (learned_command p fs)
inside p from zero fs low high = absurd (omega (arith, low, high))
inside {C} p from (suc n) fs low high = go (λ l h. inside p (suc from) n fs l h) (from == p) refl
  where
    go : (suc from ≤ p → p < suc from + n
        → Sees p (facts_from (suc from) n fs) 0 (promised_ballot p fs) (taken_vote p fs)
        (learned_command p fs)) → (t : Bool) → (from == p) ≡ t
        → Sees p (facts_from from (suc n) fs) 0 (promised_ballot p fs) (taken_vote p fs)
        (learned_command p fs)
    go more true e = let same : from ≡ p = (Decides-eqb from p).0 e in
        before_nothing p (facts_at from fs) (facts_from (suc from) n fs) (promised_ballot p fs) (taken_vote p fs) (learned_command p fs)
        (subst (λ k. Sees p (facts_at k fs) 0 (promised_ballot p fs) (taken_vote p fs) (learned_command p fs)) (sym same) (at_here p fs))
        (outside p (suc from) n fs (inl (omega (arith, same))))
    go more false e =
        let differ : p ≢ from = λ s. absurd (cc (e, (Decides-eqb from p).1 (sym s))) in
        after_nothing p (facts_at from fs) (facts_from (suc from) n fs) (promised_ballot p fs) (taken_vote p fs) (learned_command p fs)
        (at_there from p fs differ) (more (omega (arith, low, differ)) (omega (arith, high)))

past_one : {C : Type 0} (p : ℕ) (f : Fact C) → position_of f < p → (ballot_at p f ≡ 0) × (vote_at p f ≡ None) × (command_at p f ≡ None)
past_one p (Used r) le = (refl, refl, refl)
past_one p (Promised q b) le = (no q p b 0 (λ e. omega (arith, le, e)), refl, refl)
past_one p (Took q b c) le = (no q p b 0 (λ e. omega (arith, le, e)), no q p _ None (λ e. omega (arith, le, e)), refl)
past_one p (Chosen q c) le = (refl, refl, no q p _ None (λ e. omega (arith, le, e)))

past : {C : Type 0} (p : ℕ) (fs : List (Fact C)) → last_fact_position fs < p → (promised_ballot p fs ≡ 0) × (taken_vote p fs ≡ None) × (learned_command p fs ≡ None)
past p [] le = (refl, refl, refl)
past p (f ∷ fs) le =
    let one = past_one p f (omega (arith, le)) in
    let more = past p fs (omega (arith, le)) in
    (omega (arith, one.0, more.0), (λ i. greater_vote (one.1 i) (more.1 i)), (λ i. first_some (one.2 i) (more.2 i)))

used_here : {C : Type 0} (p r : ℕ) → Sees p (used_fact {C = C} r) r 0 None None
used_here {C} p r = by_test (λ (fs : List (Fact C)). Sees p fs r 0 None None) (r == 0) [] (Used r ∷ [])
    (λ e. let z : r ≡ 0 = (Decides-eqb r 0).0 e in record { used = sym z; promised = refl; taken = refl; learned = refl })
    (λ e. record { used = omega arith; promised = omega arith; taken = refl; learned = refl })

positions : {C : Type 0} (p : ℕ) (fs : List (Fact C)) → Sees p (facts_from 0 (suc (last_fact_position fs)) fs) 0 (promised_ballot p fs) (taken_vote p fs) (learned_command p fs)
positions {C} p fs = go (nat_lt (last_fact_position fs) p) refl
  where
    go : (t : Bool) → nat_lt (last_fact_position fs) p ≡ t → Sees p (facts_from 0 (suc (last_fact_position fs)) fs) 0 (promised_ballot p fs) (taken_vote p fs) (learned_command p fs)
    go true e =
        let le : last_fact_position fs < p = grind (arith, nat_tests) in
        let out = outside p 0 (suc (last_fact_position fs)) fs (inr (omega (arith, le))) in
        let gone = past p fs le in
        record { used = out.used; promised = out.promised ∙ sym gone.0; taken = out.taken ∙ sym gone.1; learned = out.learned ∙ sym gone.2 }
    go false e = let le : p ≤ last_fact_position fs = grind (arith, nat_tests) in inside p 0 (suc (last_fact_position fs)) fs (omega arith) (omega (arith, le))

compacted_sees : {C : Type 0} (p : ℕ) (fs : List (Fact C)) → Sees p (compact fs) (used_round fs) (promised_ballot p fs) (taken_vote p fs) (learned_command p fs)
compacted_sees p fs =
    let j = join p (used_fact (used_round fs)) (facts_from 0 (suc (last_fact_position fs)) fs)
    (used_round fs) 0 0 (promised_ballot p fs) None (taken_vote p fs) None
    (learned_command p fs) (used_here p (used_round fs)) (positions p fs) in
    record { used = omega (arith, j.used); promised = omega (arith, j.promised); taken = j.taken; learned = j.learned }

-- what is copied has the force of all
pub same_force : {C : Type 0} (fs : List (Fact C)) → SameForce (compact fs) fs
same_force fs = record { used = (compacted_sees 0 fs).used; promised = λ p. (compacted_sees p fs).promised; taken = λ p. (compacted_sees p fs).taken; learned = λ p. (compacted_sees p fs).learned }
