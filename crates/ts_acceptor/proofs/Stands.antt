-- An acceptor whose maps were changed stands for one more fact.
use Rattle.std.proofs.Common.{◌≡◌, ℕ, max, ◌<◌, ◌≤◌, List, [], ◌∷◌, ◌++◌, Option, Some, None, Bool, true, false, cond, ◌==◌, nat_lt, if◌then◌else◌, refl, sym, ap, ◌∙◌, subst, arith}
use Rattle.std.specs.Ordering.{nat_cmp}
use Rattle.std.specs.BTreeMap.{BTreeMap, get, is_at}
use Rattle.std.proofs.lemmas.Bool.Decides.{nat_tests, Decides-eqb}
use Rattle.ts_synod.specs.declared.message.Fact.{Fact}
use Rattle.ts_synod.specs.declared.message.Fact.TheVariants.{Promised, Took}
use Rattle.ts_synod.specs.declared.message.Vote.{Vote}
use Rattle.ts_synod.specs.Force.{ballot_at, greater_vote, promised_ballot, taken_vote, vote_at}
use Rattle.ts_synod.specs.Places.{PutsAt, or_none}
use Rattle.ts_synod.proofs.Forces.{promised_push, IsGreatest, taken_is, took_bound}
use Rattle.ts_synod.proofs.Same.{taken_more}
use Rattle.ts_synod.proofs.Sets.{by_test}
use Rattle.ts_acceptor.specs.declared.acceptor.Acceptor.{Acceptor}
use Rattle.ts_acceptor.specs.Acceptor.{HasBallots, HasVotes, or_zero, promised_at, taken_at, StandsFor}
use Rattle.ts_acceptor.specs.Steps.{IsOfOther}

-- the fact is of ballot b at q
abbrev pub IsBallotAt : {C : Type 0} → Fact C → ℕ → ℕ → Type 0
IsBallotAt f q b = (p : ℕ) → ballot_at p f ≡ (if q == p then b else 0)

pub ballots_put : {C : Type 0} (old new : BTreeMap ℕ ℕ) (facts : List (Fact C)) (f : Fact C)
    (q b x : ℕ) → HasBallots old facts → IsBallotAt f q b → x ≡ max (or_zero (get nat_cmp old q)) b
    → PutsAt nat_cmp old new q x → HasBallots new (facts ++ f ∷ [])
ballots_put {C} old new facts f q b x h is e puts p = ap or_zero (puts p) ∙ go ∙ sym (promised_push facts p f)
  where
    go : or_zero (cond (is_at (nat_cmp q) p) (Some x) (get nat_cmp old p)) ≡ max (promised_ballot p facts) (ballot_at p f)
    go =
        by_test (λ (_ : Bool). or_zero (cond (is_at (nat_cmp q) p) (Some x) (get nat_cmp old p)) ≡ max (promised_ballot p facts) (ballot_at p f)) (q == p) true false
        (λ t.
        let same : q ≡ p = (Decides-eqb q p).0 t in
        let at : is_at (nat_cmp q) p ≡ true = grind (arith, nat_tests) in
        let here : or_zero (get nat_cmp old q) ≡ promised_ballot p facts = ap (λ (r : ℕ). or_zero (get nat_cmp old r)) same ∙ h p in
        rw (at, is p, t) (e ∙ ap (λ n. max n b) here))
        (λ t.
        let at : is_at (nat_cmp q) p ≡ false = grind (arith, nat_tests) in
        let here = h p in
        rw (at, is p, t) (omega arith))

pub ballots_same : {C : Type 0} (m : BTreeMap ℕ ℕ) (facts : List (Fact C)) (f : Fact C) → HasBallots m facts → ((p : ℕ) → ballot_at p f ≤ promised_ballot p facts) → HasBallots m (facts ++ f ∷ [])
ballots_same m facts f h low p = let k = promised_push facts p f in let l = low p in let g = h p in omega arith

pub votes_put : {C : Type 0} (old new : BTreeMap ℕ (Option (Vote C))) (facts : List (Fact C))
    (f : Fact C) (q : ℕ) (v : Vote C) → HasVotes old facts
    → ((p : ℕ) → vote_at p f ≡ (if q == p then Some v else None))
    → greater_vote (or_none (get nat_cmp old q)) (Some v) ≡ Some v
    → PutsAt nat_cmp old new q (Some v) → HasVotes new (facts ++ f ∷ [])
votes_put {C} old new facts f q v h is top puts p = ap or_none (puts p) ∙ go ∙ sym (taken_more facts p f)
  where
    none : (t : Option (Vote C)) → t ≡ greater_vote t None
    none None = refl
    none (Some u) = refl

    go : or_none (cond (is_at (nat_cmp q) p) (Some (Some v)) (get nat_cmp old p)) ≡ greater_vote (taken_vote p facts) (vote_at p f)
    go =
        by_test (λ (_ : Bool). or_none (cond (is_at (nat_cmp q) p) (Some (Some v)) (get nat_cmp old p)) ≡ greater_vote (taken_vote p facts) (vote_at p f)) (q == p) true false
        (λ t.
        let same : q ≡ p = (Decides-eqb q p).0 t in
        let at : is_at (nat_cmp q) p ≡ true = grind (arith, nat_tests) in
        let here : or_none (get nat_cmp old q) ≡ taken_vote p facts = ap (λ (r : ℕ). or_none (get nat_cmp old r)) same ∙ h p in
        rw (at, is p, t) (sym (subst (λ u. greater_vote u (Some v) ≡ Some v) here top)))
        (λ t.
        let at : is_at (nat_cmp q) p ≡ false = grind (arith, nat_tests) in
        rw (at, is p, t) (h p ∙ none (taken_vote p facts)))

pub votes_same : {C : Type 0} (m : BTreeMap ℕ (Option (Vote C))) (facts : List (Fact C))
    (f : Fact C) → HasVotes m facts
    → ((p : ℕ) → greater_vote (taken_vote p facts) (vote_at p f) ≡ taken_vote p facts)
    → HasVotes m (facts ++ f ∷ [])
votes_same m facts f h low p = h p ∙ sym (low p) ∙ sym (taken_more facts p f)

pub no_vote : {C : Type 0} (t : Option (Vote C)) → greater_vote t None ≡ t
no_vote None = refl
no_vote (Some v) = refl

-- a vote in a ballot at or above all others, and other than theirs, is the greatest
newest : {C : Type 0} (facts : List (Fact C)) (q b : ℕ) (c : C) (t : Option (Vote C))
    → IsGreatest facts q t → promised_ballot q facts ≤ b → IsOfOther b t
    → greater_vote t (Some (record { ballot = b; command = c })) ≡ Some
    (record { ballot = b; command = c })
newest facts q b c None g le other = refl
newest facts q b c (Some v) g le other =
    let k = took_bound facts q v.ballot v.command g.0 in
    by_test (λ x. x ≡ Some (record { ballot = b; command = c })) (nat_lt v.ballot b) (Some (record { ballot = b; command = c })) (Some v)
    (λ _. refl)
    (λ e. absurd (other (grind (arith, nat_tests))))

pub stands_promise : {C : Type 0} (a : Acceptor C) (facts : List (Fact C)) (q b : ℕ)
    (m : BTreeMap ℕ ℕ) → StandsFor a facts → promised_at a q < b → PutsAt nat_cmp a.promised m q b
    → StandsFor (record a { promised = m }) (facts ++ Promised q b ∷ [])
stands_promise a facts q b m h less puts =
    record {
      promised = ballots_put a.promised m facts (Promised q b) q b b h.promised (λ p. refl) (omega arith) puts;
      taken = votes_same a.taken facts (Promised q b) h.taken (λ p. no_vote (taken_vote p facts));
    }

pub stands_take : {C : Type 0} (a : Acceptor C) (facts : List (Fact C)) (q b : ℕ) (c : C)
    (m : BTreeMap ℕ ℕ) (l : BTreeMap ℕ (Option (Vote C))) → StandsFor a facts → promised_at a q ≤ b
    → IsOfOther b (taken_at a q) → PutsAt nat_cmp a.promised m q b
    → PutsAt nat_cmp a.taken l q (Some (record { ballot = b; command = c }))
    → StandsFor (record a { promised = m; taken = l }) (facts ++ Took q b c ∷ [])
stands_take a facts q b c m l h le other e f =
    let under : promised_ballot q facts ≤ b = subst (λ x. x ≤ b) (h.promised q) le in
    let top = newest facts q b c (taken_vote q facts) (taken_is facts q) under (subst (IsOfOther b) (h.taken q) other) in
    record {
      promised = ballots_put a.promised m facts (Took q b c) q b b h.promised (λ p. refl) (omega arith) e;
      taken = votes_put a.taken l facts (Took q b c) q (record { ballot = b; command = c }) h.taken
          (λ p. refl) (subst (λ t. greater_vote t (Some (record { ballot = b; command = c })) ≡ Some
          (record { ballot = b; command = c })) (sym (h.taken q)) top) f;
    }

-- a vote that is not above the one taken
abbrev pub IsNotAbove : {C : Type 0} → ℕ → Option (Vote C) → Type 0
IsNotAbove b None = ⊥
IsNotAbove b (Some v) = b ≤ v.ballot

-- a vote that is above the one taken, if there is one
abbrev pub IsAbove : {C : Type 0} → ℕ → Option (Vote C) → Type 0
IsAbove b None = Unit {0}
IsAbove b (Some v) = v.ballot < b

above : {C : Type 0} (b : ℕ) (c : C) (t : Option (Vote C)) → IsAbove b t → greater_vote t (Some (record { ballot = b; command = c })) ≡ Some (record { ballot = b; command = c })
above b c None h = refl
above {C} b c (Some v) h =
    let new : Vote C = record { ballot = b; command = c } in
    by_test (λ x. x ≡ Some new) (nat_lt v.ballot b) (Some new) (Some v) (λ _. refl) (λ e. absurd (grind (arith, nat_tests)))

not_above : {C : Type 0} (b : ℕ) (c : C) (t : Option (Vote C)) → IsNotAbove b t → greater_vote t (Some (record { ballot = b; command = c })) ≡ t
not_above b c None h = absurd h
not_above {C} b c (Some v) h =
    let new : Vote C = record { ballot = b; command = c } in
    by_test (λ x. x ≡ Some v) (nat_lt v.ballot b) (Some new) (Some v) (λ e. absurd (grind (arith, nat_tests))) (λ _. refl)

-- a Took fact of a node's record, in any order of ballots
pub votes_recovered : {C : Type 0} (old new : BTreeMap ℕ (Option (Vote C))) (facts : List (Fact C))
    (q b : ℕ) (c : C) → HasVotes old facts → IsAbove b (or_none (get nat_cmp old q))
    → PutsAt nat_cmp old new q (Some (record { ballot = b; command = c }))
    → HasVotes new (facts ++ Took q b c ∷ [])
votes_recovered old new facts q b c h up puts = votes_put old new facts (Took q b c) q (record { ballot = b; command = c }) h (λ p. refl) (above b c (or_none (get nat_cmp old q)) up) puts

pub votes_stay : {C : Type 0} (m : BTreeMap ℕ (Option (Vote C))) (facts : List (Fact C)) (q b : ℕ)
    (c : C) → HasVotes m facts → IsNotAbove b (or_none (get nat_cmp m q))
    → HasVotes m (facts ++ Took q b c ∷ [])
votes_stay {C} m facts q b c h low =
    let new : Vote C = record { ballot = b; command = c } in
    votes_same m facts (Took q b c) h
    (λ p. by_test (λ (t : Option (Vote C)). greater_vote (taken_vote p facts) t ≡ taken_vote p facts) (q == p) (Some new) None
    (λ e. let here : or_none (get nat_cmp m q) ≡ taken_vote p facts =
    ap (λ (r : ℕ). or_none (get nat_cmp m r)) ((Decides-eqb q p).0 e)
    ∙ h p in not_above b c (taken_vote p facts) (subst (IsNotAbove b) here low))
    (λ _. no_vote (taken_vote p facts)))

-- a fact of another role
pub stands_idle : {C : Type 0} (a : Acceptor C) (facts : List (Fact C)) (f : Fact C)
    → StandsFor a facts → ((p : ℕ) → ballot_at p f ≡ 0) → ((p : ℕ) → vote_at p f ≡ None)
    → StandsFor a (facts ++ f ∷ [])
stands_idle {C} a facts f h none empty =
    record {
      promised = ballots_same a.promised facts f h.promised (λ p. let e = none p in omega arith);
      taken = votes_same a.taken facts f h.taken (λ p. subst (λ (t : Option (Vote C)). greater_vote (taken_vote p facts) t ≡ taken_vote p facts) (sym (empty p)) (no_vote (taken_vote p facts)));
    }
