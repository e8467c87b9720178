-- A table of positions grows fact by fact.
use Rattle.std.proofs.Common.{◌≡◌, ◌≢◌, ◌≤◌, ◌<◌, ◌+◌, ℕ, zero, suc, max, List, [], ◌∷◌, ◌++◌}
use Rattle.std.proofs.Common.{length, set, get_or, take, drop, Option, Some, None, ◌==◌}
use Rattle.std.proofs.Common.{if◌then◌else◌, refl, sym, ◌∙◌, ap, arith, append_assoc}
use Rattle.std.proofs.lemmas.Bool.Decides.{Decides-eqb}
use Rattle.std.proofs.lemmas.List.{take_more, drop_more}
use Rattle.ts_synod.specs.Force.{used_round, round_used_by, greater_vote, first_some, taken_vote, vote_at, learned_command, command_at}
use Rattle.ts_synod.proofs.Sets.{by_test}
use Rattle.ts_synod.proofs.Same.{used_push, taken_more, learned_push}
use Rattle.ts_synod.specs.declared.message.Fact.{Fact}
use Rattle.ts_synod.specs.declared.message.Fact.TheVariants.{Used, Promised, Took, Chosen}
use Rattle.ts_synod.specs.declared.message.Vote.{Vote}
use Rattle.ts_record.specs.Compacted.{position_of, last_fact_position, promise_at, greatest_promise, facts_at, facts_from}
use Rattle.ts_record.specs.inside.Places.{place_of, places, with_fact, facts_of, facts_of_all}
use Rattle.ts_record.specs.declared.compacted.Place.{Place}

pub last_push : {C : Type 0} (fs : List (Fact C)) (f : Fact C) → last_fact_position (fs ++ f ∷ []) ≡ max (position_of f) (last_fact_position fs)
last_push [] f = refl
last_push (g ∷ fs) f = let h = last_push fs f in omega arith

pub round_push : {C : Type 0} (fs : List (Fact C)) (f : Fact C) → used_round (fs ++ f ∷ []) ≡ max (used_round fs) (round_used_by f)
round_push = used_push

-- no fact is past the last position
pub within : {C : Type 0} (fs : List (Fact C)) (i : ℕ) (f : Fact C) → i < length fs → f ≡ get_or fs i f → position_of f ≤ last_fact_position fs
within [] i f le is = absurd (omega (arith, le))
within {C} (g ∷ fs) zero f le is = omega (arith, ap (λ (x : Fact C). position_of x) is)
within (g ∷ fs) (suc i) f le is = omega (arith, within fs i f (omega (arith, le)) is)

promise_push : {C : Type 0} (fs : List (Fact C)) (p : ℕ) (f : Fact C) → greatest_promise p (fs ++ f ∷ []) ≡ max (greatest_promise p fs) (promise_at p f)
promise_push [] p f = omega arith
promise_push (g ∷ fs) p f = let h = promise_push fs p f in omega arith

pub vote_none : {C : Type 0} (t : Option (Vote C)) → greater_vote t None ≡ t
vote_none None = refl
vote_none (Some v) = refl

pub first_none : {A : Type 0} (t : Option A) → first_some t None ≡ t
first_none None = refl
first_none (Some v) = refl

max_none : (n m : ℕ) → m ≡ 0 → max n m ≡ n
max_none n m is = omega (arith, is)

pub yes : {A : Type 0} (q : ℕ) (x y : A) → (if q == q then x else y) ≡ x
yes q x y = by_test (λ z. z ≡ x) (q == q) x y (λ e. refl) (λ e. absurd (cc (e, (Decides-eqb q q).1 refl)))

pub no : {A : Type 0} (q p : ℕ) (x y : A) → p ≢ q → (if q == p then x else y) ≡ y
no q p x y differ = by_test (λ z. z ≡ y) (q == p) x y (λ e. absurd (differ (sym ((Decides-eqb q p).0 e)))) (λ e. refl)

-- one fact more, at its position and at others
at_push : {C : Type 0} (fs : List (Fact C)) (p : ℕ) (f : Fact C)
    → place_of p (fs ++ f ∷ []) ≡
    record {
      promised = max (greatest_promise p fs) (promise_at p f);
      taken =
          greater_vote (taken_vote p fs) (vote_at p f);
      learned =
          first_some (learned_command p fs) (command_at p f);
    }
at_push fs p f = λ i. record { promised = promise_push fs p f i; taken = taken_more fs p f i; learned = learned_push fs p f i }

here : {C : Type 0} (fs : List (Fact C)) (f : Fact C) → place_of (position_of f) (fs ++ f ∷ []) ≡ with_fact (place_of (position_of f) fs) f
here fs (Used r) = at_push fs 0 (Used r) ∙ (λ i. record { promised = max_none (greatest_promise 0 fs) 0 refl i; taken = vote_none (taken_vote 0 fs) i; learned = first_none (learned_command 0 fs) i })
here fs (Promised p b) = at_push fs p (Promised p b)
    ∙ (λ i. record {
      promised = max (greatest_promise p fs) (yes p b 0 i);
      taken =
          vote_none (taken_vote p fs) i;
      learned = first_none (learned_command p fs) i;
    })
here fs (Took p b c) = at_push fs p (Took p b c)
    ∙ (λ i. record {
      promised = max_none (greatest_promise p fs) 0 refl i;
      taken =
          greater_vote (taken_vote p fs) (yes p (Some (record { ballot = b; command = c })) None i);
      learned = first_none (learned_command p fs) i;
    })
here fs (Chosen p c) = at_push fs p (Chosen p c)
    ∙ (λ i. record {
      promised = max_none (greatest_promise p fs) 0 refl i;
      taken =
          vote_none (taken_vote p fs) i;
      learned =
          first_some (learned_command p fs) (yes p (Some c) None i);
    })

there_of : {C : Type 0} (fs : List (Fact C)) (f : Fact C) (p : ℕ) → promise_at p f ≡ 0 → vote_at p f ≡ None → command_at p f ≡ None → place_of p (fs ++ f ∷ []) ≡ place_of p fs
there_of fs f p promise vote command = at_push fs p f ∙ (λ i. record {
  promised = max_none (greatest_promise p fs) (promise_at p f) promise i;
  taken = (ap (greater_vote (taken_vote p fs)) vote ∙ vote_none (taken_vote p fs)) i;
  learned = (ap (first_some (learned_command p fs)) command ∙ first_none (learned_command p fs)) i;
})

there : {C : Type 0} (fs : List (Fact C)) (f : Fact C) (p : ℕ) → p ≢ position_of f → place_of p (fs ++ f ∷ []) ≡ place_of p fs
there fs (Used r) p differ = there_of fs (Used r) p refl refl refl
there fs (Promised q b) p differ = there_of fs (Promised q b) p (no q p b 0 differ) refl refl
there fs (Took q b c) p differ = there_of fs (Took q b c) p refl (no q p (Some (record { ballot = b; command = c })) None differ) refl
there fs (Chosen q c) p differ = there_of fs (Chosen q c) p refl refl (no q p (Some c) None differ)

others : {C : Type 0} (fs : List (Fact C)) (f : Fact C) (from n : ℕ) → position_of f < from → places from n (fs ++ f ∷ []) ≡ places from n fs
others fs f from zero before = refl
others fs f from (suc n) before = λ i. there fs f from (λ same. omega (arith, before, same)) i ∷ others fs f (suc from) n (omega (arith, before)) i

-- the table after one fact more
pub noted : {C : Type 0} (fs : List (Fact C)) (f : Fact C) (from n k : ℕ) → position_of f ≡ from + k → k < n → (place : Place C) → place ≡ with_fact (place_of (position_of f) fs) f
    → set (places from n fs) k place ≡ places from n (fs ++ f ∷ [])
noted fs f from zero k is le place same = absurd (omega (arith, le))
noted {C} fs f from (suc n) zero is le place same =
    let at : position_of f ≡ from = omega (arith, is) in
    λ i. (same ∙ sym (here fs f) ∙ ap (λ p. place_of p (fs ++ f ∷ [])) at) i ∷ sym (others fs f (suc from) n (omega (arith, at))) i
noted fs f from (suc n) (suc k) is le place same =
    λ i. sym (there fs f from (λ e. omega (arith, is, e))) i ∷ noted fs f (suc from) n k (omega (arith, is)) (omega (arith, le)) place same i

pub at_place : {C : Type 0} (fs : List (Fact C)) (from n k : ℕ) (d : Place C) → k < n → get_or (places from n fs) k d ≡ place_of (from + k) fs
at_place fs from zero k d le = absurd (omega (arith, le))
at_place {C} fs from (suc n) zero d le = ap (λ p. place_of p fs) (omega arith)
at_place fs from (suc n) (suc k) d le = at_place fs (suc from) n k d (omega (arith, le)) ∙ ap (λ p. place_of p fs) (omega arith)

pub places_length : {C : Type 0} (fs : List (Fact C)) (from n : ℕ) → length (places from n fs) ≡ n
places_length fs from zero = refl
places_length fs from (suc n) = ap suc (places_length fs (suc from) n)

-- an empty place more
pub one_empty : {C : Type 0} (from n at : ℕ) (none : List (Fact C)) → none ≡ [] → places from n none ++ place_of at none ∷ [] ≡ places from (suc n) none
one_empty {C} from zero at none is = ap (λ p. p ∷ []) (ap (place_of at) is ∙ ap (place_of from) (sym is))
one_empty from (suc n) at none is = ap (λ l. place_of from none ∷ l) (one_empty (suc from) n at none is)

-- the facts of a table are those of its positions
pub facts_of_places : {C : Type 0} (fs : List (Fact C)) (from n : ℕ) → facts_of_all from (places from n fs) ≡ facts_from from n fs
facts_of_places fs from zero = refl
facts_of_places fs from (suc n) = ap (λ l. facts_at from fs ++ l) (facts_of_places fs (suc from) n)

-- the facts up to one more
pub taken_next : {C : Type 0} (fs : List (Fact C)) (i : ℕ) (f : Fact C) → i < length fs → f ≡ get_or fs i f → take (i + 1) fs ≡ take i fs ++ f ∷ []
taken_next fs i f le is = take_more fs i f le ∙ ap (λ x. take i fs ++ x ∷ []) (sym is)

-- the facts of one place more
pub next_place : {C : Type 0} (out later : List (Fact C)) (table : List (Place C)) (at : ℕ) (place : Place C) → at < length table → place ≡ get_or table at place → later ≡ out ++ facts_of at place
    → later ++ facts_of_all (at + 1) (drop (at + 1) table) ≡ out ++ facts_of_all at (drop at table)
next_place out later table at place le is grown =
    let rest = drop (at + 1) table in
    let one : suc at ≡ at + 1 = omega arith in
    ap (λ l. l ++ facts_of_all (at + 1) rest) grown ∙ append_assoc out (facts_of at place) (facts_of_all (at + 1) rest)
    ∙ ap (λ k. out ++ (facts_of at place ++ facts_of_all k rest)) (sym one)
    ∙ ap (λ l. out ++ facts_of_all at l) (sym (drop_more table at place le ∙ ap (λ p. p ∷ rest) (sym is)))
