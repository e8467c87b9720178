-- The first command of an id: by the store, and by the protocol's walk over the commands.
use Rattle.std.proofs.Common.{◌≡◌, ◌∙◌, ◌++◌, ◌∷◌, ◌==◌, ℕ, suc, List, [], Option, Some, None, Bool}
use Rattle.std.proofs.Common.{true, false, Result, Ok, Err, length, refl, sym, ap, subst, arith}
use Rattle.std.proofs.Common.{append_assoc, length-append, if◌then◌else◌}
use Rattle.std.proofs.lemmas.List.{append-nil}
use Rattle.std.specs.declared.cmp.Ordering.{Ordering}
use Rattle.std.specs.declared.cmp.Ordering.TheVariants.{Less, Equal, Greater}
use Rattle.std.specs.Cmp.Lexicographic.{slice_cmp}
use Rattle.std.specs.Ordering.{nat_cmp, is_eq}
use Rattle.std.proofs.lemmas.Map.Lookups.{exact_bytes}
use Rattle.ts_synod.specs.Store.{Settling, Store, found_command, same_id, settling}
use Rattle.ts_node.specs.Machine.{store_of}
use Rattle.ts_synod.proofs.Sets.{and_true}
use Rattle.std.proofs.lemmas.Bool.Decides.{Decides-eqb}
use Rattle.ts_node.proofs.Settlings.{same_refl}
use Rattle.ts_command.specs.Commands.{id_of}
use Rattle.ts_store.specs.Ids.{first_of}
use Rattle.ts_store.specs.Store.{StoreState, step, step_by, make, after, store_after, empty}
use Rattle.ts_store.specs.Tables.{Tables, change}
use Rattle.ts_command.specs.declared.command.Command.{Command}
use Rattle.ts_store.specs.declared.ids.FirstCommand.{FirstCommand}
use Rattle.ts_command.specs.declared.outcome.Outcome.{Outcome}
use Rattle.ts_command.specs.declared.outcome.Refusal.{Refusal}
use Rattle.ts_store.proofs.Held.{is-kept}
use Rattle.ts_store.proofs.Steps.{held, kept, joined}
use Rattle.ts_store.specs.Outcome.{outcome_after}
use Rattle.ts_store.proofs.Replays.{store_more, taken_all}

-- ---- ids

same_is : (a b : List ℕ) → same_id a b ≡ true → a ≡ b
same_is [] [] h = refl
same_is [] (y ∷ ys) h = absurd (cc)
same_is (x ∷ xs) [] h = absurd (cc)
same_is (x ∷ xs) (y ∷ ys) h = let both = and_true (x == y) (same_id xs ys) h in let e = (Decides-eqb x y).0 both.0 in let f = same_is xs ys both.1 in cc

differs : (a b : List ℕ) → same_id a b ≡ false → b ≡ a → ⊥
differs a b h is = let e : same_id a b ≡ true = ap (same_id a) is ∙ same_refl a in cc

apart : (o : Ordering) → (o ≡ Equal → ⊥) → is_eq o ≡ false
apart Less not = refl
apart Equal not = absurd (not refl)
apart Greater not = refl

module _ (id : List ℕ) where
  made : (p : ℕ) (c : Command) (s : StoreState) (r : Result Tables Refusal) → is_eq (slice_cmp nat_cmp id (id_of c)) ≡ false → first_of id (make p c s r).state.ids ≡ first_of id s.ids
  made p c s (Ok tables) other = is-kept (id_of c) id _ s.ids other
  made p c s (Err refusal) other = is-kept (id_of c) id _ s.ids other

  stepped : (p : ℕ) (c : Command) (s : StoreState) (o : Option FirstCommand) → is_eq (slice_cmp nat_cmp id (id_of c)) ≡ false → first_of id (step_by p c s o).state.ids ≡ first_of id s.ids
  stepped p c s (Some first) other = refl
  stepped p c s None other = made p c s (change c s.tables) other

  -- a command of another id leaves it
  other_id : (p : ℕ) (c : Command) (s : StoreState) → (id ≡ id_of c → ⊥) → first_of id (step p c s).state.ids ≡ first_of id s.ids
  other_id p c s not = stepped p c s (first_of (id_of c) s.ids) (apart (slice_cmp nat_cmp id (id_of c)) (λ e. not (exact_bytes id (id_of c) e)))

  -- what is held stays
  stays : (s : StoreState) (cs : List Command) (first : FirstCommand) → first_of id s.ids ≡ Some first → first_of id (after s cs).ids ≡ Some first
  stays s [] first is = is
  stays s (c ∷ cs) first is = stays (step (suc s.taken) c s).state cs first (kept (suc s.taken) c s id first is)

-- a first command as a position and an outcome
abbrev pub settled_as : Option FirstCommand → Option (Settling Outcome)
settled_as None = None
settled_as (Some first) = Some (record { position = first.position; outcome = first.outcome })

module _ (Q : Type 0) (id : List ℕ) where
  abbrev machine : Store Command Outcome (List Command) Q (List Command)
  machine = store_of Q id_of outcome_after

  outcome_is : (t : List Command) (c : Command) → outcome_after t c ≡ (step (suc (length t)) c (store_after t)).outcome
  unfolding outcome_after
  outcome_is t c = refl

  found_is : (t cs : List Command) → first_of id (store_after t).ids ≡ None → found_command machine id t (suc (length t)) cs ≡ settled_as (first_of id (store_after (t ++ cs)).ids)
  found_is t [] none = ap settled_as (sym none) ∙ ap (λ l. settled_as (first_of id (store_after l).ids)) (sym (append-nil t))
  found_is t (c ∷ cs) none = by (found_is (t ++ c ∷ []) cs) (same_id (id_of c) id) refl
    where
      s : StoreState
      s = store_after t

      next : first_of id s.ids ≡ None → id_of c ≡ id → first_of id (step (suc s.taken) c s).state.ids ≡ Some (record { position = suc s.taken; outcome = (step (suc s.taken) c s).outcome })
      next free is = subst (λ i. first_of i s.ids ≡ None
          → first_of i (step (suc s.taken) c s).state.ids ≡ Some
          (record { position = suc s.taken; outcome = (step (suc s.taken) c s).outcome })) is
          (held (suc s.taken) c s) free

      by : (first_of id (store_after (t ++ c ∷ [])).ids ≡ None
          → found_command machine id (t ++ c ∷ []) (suc (length (t ++ c ∷ []))) cs ≡ settled_as
          (first_of id (store_after ((t ++ c ∷ []) ++ cs)).ids))
          → (b : Bool) → same_id (id_of c) id ≡ b
          → (if b then Some (record
          { position = suc (length t); outcome = outcome_after t c }) else found_command machine
          id (t ++ c ∷ []) (suc (suc (length t))) cs) ≡ settled_as
          (first_of id (store_after (t ++ c ∷ cs)).ids)
      by rest true is =
          let h = next none (same_is (id_of c) id is) in
          let all = stays id (step (suc s.taken) c s).state cs (record { position = suc s.taken; outcome = (step (suc s.taken) c s).outcome }) h in
          ap (λ o. let r : Option (Settling Outcome) = Some (record { position = suc (length t); outcome = o }) in r) (outcome_is t c)
          ∙ ap (λ n. let r : Option (Settling Outcome) = Some (record { position = suc n; outcome = (step (suc n) c s).outcome }) in r) (sym (taken_all t))
          ∙ ap settled_as (sym all)
          ∙ ap (λ (x : StoreState). settled_as (first_of id x.ids)) (sym (joined empty t (c ∷ cs)))
      by rest false is =
          let free : first_of id (store_after (t ++ c ∷ [])).ids ≡ None =
          ap (λ (x : StoreState). first_of id x.ids) (store_more t c)
          ∙ other_id id (suc (length t)) c s (differs (id_of c) id is) ∙ none in
          ap (λ n. found_command machine id (t ++ c ∷ []) (suc n) cs) (let e : suc (length t) ≡ length (t ++ c ∷ []) = omega (arith, length-append t (c ∷ [])) in e)
          ∙ rest free
          ∙ ap (λ l. settled_as (first_of id (store_after l).ids)) (append_assoc t (c ∷ []) cs)

  -- the store's first command of an id is the protocol's
  pub settled_is : (cs : List Command) → settled_as (first_of id (store_after cs).ids) ≡ settling machine cs id
  settled_is cs = sym (found_is [] cs refl)
