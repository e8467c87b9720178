-- Each fact that is kept can be written as a body of its own, and so can each that a rewrite copies.
use Rattle.std.proofs.Common.{◌≡◌, ◌⊎◌, inl, inr, ⊎_elim, ◌≤◌, ◌<◌, ℕ, zero, suc, max, true, false}
use Rattle.std.proofs.Common.{Bool, List, [], ◌∷◌, ◌++◌, length, map, drop, get_or, Option, Some}
use Rattle.std.proofs.Common.{None, ◌==◌, nat_lt, nat_le, if◌then◌else◌, refl, sym, ◌∙◌, ap, subst}
use Rattle.std.proofs.Common.{arith, length-append}
use Rattle.std.proofs.lemmas.Bool.Decides.{Decides-eqb, nat_tests}
use Rattle.std.specs.List.{flat_map, AllByRecursion}
use Rattle.ts_journal.specs.Images.{Block, IsWholeBlock}
use Rattle.ts_synod.specs.Force.{used_round, round_used_by, greater_vote, first_some, taken_vote, vote_at, learned_command, command_at}
use Rattle.ts_synod.proofs.Sets.{by_test}
use Rattle.ts_synod.specs.declared.message.Fact.{Fact}
use Rattle.ts_synod.specs.declared.message.Fact.TheVariants.{Used, Promised, Took, Chosen}
use Rattle.ts_synod.specs.declared.message.Vote.{Vote}
use Rattle.ts_record.specs.Compacted.{last_fact_position, promise_at, greatest_promise, used_fact, promise_fact, vote_fact, learned_fact, facts_at, facts_from, compact}
use Rattle.ts_record.specs.Facts.{fact_encoding, encodings, AllFit, AreFacts}
use Rattle.ts_record.specs.Rewrite.{IsReady}

pub all_more : {X : Type 0} (P : X → Type 0) (xs ys : List X) → AllByRecursion P xs → AllByRecursion P ys → AllByRecursion P (xs ++ ys)
all_more P [] ys each more = more
all_more P (x ∷ xs) ys each more = (each.0, all_more P xs ys each.1 more)

pub all_at : {X : Type 0} (P : X → Type 0) (xs : List X) (i : ℕ) (d : X) → i < length xs → AllByRecursion P xs → P (get_or xs i d)
all_at P [] i d le each = absurd (omega (arith, le))
all_at P (x ∷ xs) zero d le each = each.0
all_at P (x ∷ xs) (suc i) d le each = all_at P xs i d (omega (arith, le)) each.1

module _ {C : Type 0} (octets : C → List ℕ) where
  -- the facts of one body
  pub ready_more : (more : List (Fact C)) → AllFit octets more → length (encodings octets more) ≤ 4194500 → AllByRecursion (IsReady octets) more
  ready_more [] fit short = tt
  ready_more (f ∷ fs) fit short =
      let all = length-append (fact_encoding octets f) (encodings octets fs) in
      ((fit.0, omega (arith, short, all)), ready_more fs fit.1 (omega (arith, short, all)))

  of_groups : (groups : List (List (Fact C))) (blocks : List Block)
      → AllByRecursion (AllFit octets) groups → AllByRecursion IsWholeBlock blocks
      → map (encodings octets) groups ≡ map (λ (b : Block). b.body) blocks
      → AllByRecursion (IsReady octets) (flat_map (λ group. group) groups)
  of_groups [] blocks fit whole is = tt
  of_groups (g ∷ groups) [] fit whole is = absurd (omega (arith, ap length is))
  of_groups (g ∷ groups) (b ∷ blocks) fit whole is =
      let same : encodings octets g ≡ b.body = ap (λ l. get_or l 0 []) is in
      all_more (IsReady octets) g (flat_map (λ group. group) groups)
      (ready_more g fit.0 (omega (arith, ap length same, whole.0.fits.short)))
      (of_groups groups blocks fit.1 whole.1 (ap (drop 1) is))

  -- the facts of whole blocks
  pub ready_facts : (facts : List (Fact C)) (bodies : List (List ℕ)) (blocks : List Block)
      → AllByRecursion IsWholeBlock blocks → map (λ (b : Block). b.body) blocks ≡ bodies
      → AreFacts octets bodies facts → AllByRecursion (IsReady octets) facts
  ready_facts facts bodies blocks whole is are = subst (AllByRecursion (IsReady octets)) are.joined (of_groups are.groups blocks are.fit whole (are.encoded ∙ sym is))

-- what is copied is among the facts
module _ {C : Type 0} (P : Fact C → Type 0) where
  greater : (m n : ℕ) → (max m n ≡ m) ⊎ (max m n ≡ n)
  greater m n = go (nat_le m n) refl
    where
      go : (t : Bool) → nat_le m n ≡ t → (max m n ≡ m) ⊎ (max m n ≡ n)
      go true e = inr (let le : m ≤ n = grind (arith, nat_tests) in omega (arith, le))
      go false e = inl (let le : n < m = grind (arith, nat_tests) in omega (arith, le))

  used_one : (f : Fact C) → P f → (round_used_by f ≡ 0) ⊎ P (Used (round_used_by f))
  used_one (Used r) is = inr is
  used_one (Promised p b) is = inl refl
  used_one (Took p b c) is = inl refl
  used_one (Chosen p c) is = inl refl

  used_all : (fs : List (Fact C)) → AllByRecursion P fs → (used_round fs ≡ 0) ⊎ P (Used (used_round fs))
  used_all [] each = inl refl
  used_all (f ∷ fs) each = ⊎_elim
      (λ e. subst (λ r. (r ≡ 0) ⊎ P (Used r)) (sym e) (used_one f each.0))
      (λ e. subst (λ r. (r ≡ 0) ⊎ P (Used r)) (sym e) (used_all fs each.1))
      (greater (round_used_by f) (used_round fs))

  promise_one : (p : ℕ) (f : Fact C) → P f → (promise_at p f ≡ 0) ⊎ P (Promised p (promise_at p f))
  promise_one p (Used r) is = inl refl
  promise_one p (Promised q b) is = by_test (λ t. (t ≡ 0) ⊎ P (Promised p t)) (q == p) b 0 (λ e. inr (subst (λ k. P (Promised k b)) ((Decides-eqb q p).0 e) is)) (λ e. inl refl)
  promise_one p (Took q b c) is = inl refl
  promise_one p (Chosen q c) is = inl refl

  promise_all : (p : ℕ) (fs : List (Fact C)) → AllByRecursion P fs → (greatest_promise p fs ≡ 0) ⊎ P (Promised p (greatest_promise p fs))
  promise_all p [] each = inl refl
  promise_all p (f ∷ fs) each = ⊎_elim
      (λ e. subst (λ b. (b ≡ 0) ⊎ P (Promised p b)) (sym e) (promise_one p f each.0))
      (λ e. subst (λ b. (b ≡ 0) ⊎ P (Promised p b)) (sym e) (promise_all p fs each.1))
      (greater (promise_at p f) (greatest_promise p fs))

  vote_one : (p : ℕ) (f : Fact C) → P f → AllByRecursion P (vote_fact p (vote_at p f))
  vote_one p (Used r) is = tt
  vote_one p (Promised q b) is = tt
  vote_one p (Took q b c) is = by_test (λ t. AllByRecursion P (vote_fact p t)) (q == p)
      (Some (record { ballot = b; command = c })) None
      (λ e. (subst (λ k. P (Took k b c)) ((Decides-eqb q p).0 e) is, tt)) (λ e. tt)
  vote_one p (Chosen q c) is = tt

  vote_two : (p : ℕ) (v w : Option (Vote C)) → AllByRecursion P (vote_fact p v) → AllByRecursion P (vote_fact p w) → AllByRecursion P (vote_fact p (greater_vote v w))
  vote_two p None w x y = y
  vote_two p (Some v) None x y = x
  vote_two p (Some v) (Some w) x y = by_test (λ t. AllByRecursion P (vote_fact p t)) (nat_lt v.ballot w.ballot) (Some w) (Some v) (λ e. y) (λ e. x)

  vote_all : (p : ℕ) (fs : List (Fact C)) → AllByRecursion P fs → AllByRecursion P (vote_fact p (taken_vote p fs))
  vote_all p [] each = tt
  vote_all p (f ∷ fs) each = vote_two p (vote_at p f) (taken_vote p fs) (vote_one p f each.0) (vote_all p fs each.1)

  learned_one : (p : ℕ) (f : Fact C) → P f → AllByRecursion P (learned_fact p (command_at p f))
  learned_one p (Used r) is = tt
  learned_one p (Promised q b) is = tt
  learned_one p (Took q b c) is = tt
  learned_one p (Chosen q c) is = by_test (λ t. AllByRecursion P (learned_fact p t)) (q == p) (Some c) None (λ e. (subst (λ k. P (Chosen k c)) ((Decides-eqb q p).0 e) is, tt)) (λ e. tt)

  learned_two : (p : ℕ) (c d : Option C) → AllByRecursion P (learned_fact p c) → AllByRecursion P (learned_fact p d) → AllByRecursion P (learned_fact p (first_some c d))
  learned_two p None d x y = y
  learned_two p (Some c) d x y = x

  learned_all : (p : ℕ) (fs : List (Fact C)) → AllByRecursion P fs → AllByRecursion P (learned_fact p (learned_command p fs))
  learned_all p [] each = tt
  learned_all p (f ∷ fs) each = learned_two p (command_at p f) (learned_command p fs) (learned_one p f each.0) (learned_all p fs each.1)

  unless_none : (n : ℕ) (f : Fact C) → (n ≡ 0) ⊎ P f → AllByRecursion P (if n == 0 then [] else f ∷ [])
  unless_none n f is = by_test (AllByRecursion P) (n == 0) [] (f ∷ []) (λ e. tt) (λ e. ⊎_elim (λ z. absurd (cc (e, (Decides-eqb n 0).1 z))) (λ h. (h, tt)) is)

  at_one : (p : ℕ) (fs : List (Fact C)) → AllByRecursion P fs → AllByRecursion P (facts_at p fs)
  at_one p fs each =
      all_more P (promise_fact p (greatest_promise p fs)) (vote_fact p (taken_vote p fs) ++ learned_fact p (learned_command p fs))
      (unless_none (greatest_promise p fs) (Promised p (greatest_promise p fs)) (promise_all p fs each))
      (all_more P (vote_fact p (taken_vote p fs)) (learned_fact p (learned_command p fs)) (vote_all p fs each) (learned_all p fs each))

  at_all : (from n : ℕ) (fs : List (Fact C)) → AllByRecursion P fs → AllByRecursion P (facts_from from n fs)
  at_all from zero fs each = tt
  at_all from (suc n) fs each = all_more P (facts_at from fs) (facts_from (suc from) n fs) (at_one from fs each) (at_all (suc from) n fs each)

  pub all_compacted : (fs : List (Fact C)) → AllByRecursion P fs → AllByRecursion P (compact fs)
  all_compacted fs each =
      all_more P (used_fact (used_round fs)) (facts_from 0 (suc (last_fact_position fs)) fs)
      (unless_none (used_round fs) (Used (used_round fs)) (used_all fs each))
      (at_all 0 (suc (last_fact_position fs)) fs each)
