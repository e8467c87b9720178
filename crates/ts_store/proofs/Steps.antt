-- Laws of the fold over commands.
use Rattle.std.proofs.Common.{◌≡◌, ◌⊎◌, inl, inr, ℕ, suc, false, List, [], ◌∷◌, ◌++◌, refl, sym, ap, ◌∙◌, Option, Some, None, Result, Ok, Err}
use Rattle.std.specs.declared.cmp.Ordering.{Ordering}
use Rattle.std.specs.declared.cmp.Ordering.TheVariants.{Less, Equal, Greater}
use Rattle.std.specs.Cmp.Lexicographic.{slice_cmp}
use Rattle.std.specs.Ordering.{nat_cmp, is_eq}
use Rattle.std.proofs.lemmas.Map.Lookups.{exact_bytes}
use Rattle.ts_command.specs.Commands.{id_of}
use Rattle.ts_store.specs.Ids.{first_of}
use Rattle.ts_store.specs.Store.{StoreState, make, step_by, step, after}
use Rattle.ts_store.specs.Tables.{Tables, change}
use Rattle.ts_store.specs.declared.ids.FirstCommand.{FirstCommand}
use Rattle.ts_command.specs.declared.command.Command.{Command}
use Rattle.ts_command.specs.declared.outcome.Outcome.TheVariants.{Applied, Refused}
use Rattle.ts_command.specs.declared.outcome.Refusal.{Refusal}
use Rattle.ts_store.proofs.Held.{none-some, is-held, is-kept}

pub unchanged : (position : ℕ) (command : Command) (state : StoreState) → ((step position command state).outcome ≡ Applied) ⊎ ((step position command state).state.tables ≡ state.tables)
unchanged position command state = by (first_of (id_of command) state.ids)
  where
    made : (tables : Result Tables Refusal) → ((make position command state tables).outcome ≡ Applied) ⊎ ((make position command state tables).state.tables ≡ state.tables)
    made (Ok tables) = inl refl
    made (Err refusal) = inr refl

    by : (place : Option FirstCommand) → ((step_by position command state place).outcome ≡ Applied) ⊎ ((step_by position command state place).state.tables ≡ state.tables)
    by (Some first) = inr refl
    by None = made (change command state.tables)

pub taken : (position : ℕ) (command : Command) (state : StoreState) → (step position command state).state.taken ≡ suc state.taken
taken position command state = by (first_of (id_of command) state.ids)
  where
    made : (tables : Result Tables Refusal) → (make position command state tables).state.taken ≡ suc state.taken
    made (Ok tables) = refl
    made (Err refusal) = refl

    by : (place : Option FirstCommand) → (step_by position command state place).state.taken ≡ suc state.taken
    by (Some first) = refl
    by None = made (change command state.tables)

-- a new id is held with the position and the outcome of its command
pub held : (position : ℕ) (command : Command) (state : StoreState)
    → first_of (id_of command) state.ids ≡ None
    → first_of (id_of command) (step position command state).state.ids ≡ Some
    (record { position = position; outcome = (step position command state).outcome })
held position command state none = by (first_of (id_of command) state.ids) none
  where
    made : (tables : Result Tables Refusal)
        → first_of (id_of command) (make position command state tables).state.ids ≡ Some
        (record { position = position; outcome = (make position command state tables).outcome })
    made (Ok tables) = is-held (id_of command) (record { position = position; outcome = Applied }) state.ids
    made (Err refusal) = is-held (id_of command) (record { position = position; outcome = Refused refusal }) state.ids

    by : (place : Option FirstCommand) → place ≡ None
        → first_of (id_of command) (step_by position command state place).state.ids ≡ Some
        (record { position = position; outcome = (step_by position command state place).outcome })
    by (Some first) is = absurd cc
    by None is = made (change command state.tables)

-- and keeps it
pub kept : (position : ℕ) (command : Command) (state : StoreState) (id : List ℕ)
    (first : FirstCommand) → first_of id state.ids ≡ Some first
    → first_of id (step position command state).state.ids ≡ Some first
kept position command state id first some = by (first_of (id_of command) state.ids) refl
  where
    apart : first_of (id_of command) state.ids ≡ None → is_eq (slice_cmp nat_cmp id (id_of command)) ≡ false
    apart none = by_order (slice_cmp nat_cmp id (id_of command)) refl
      where
        by_order : (o : Ordering) → slice_cmp nat_cmp id (id_of command) ≡ o → is_eq o ≡ false
        by_order Less is = refl
        by_order Equal is = absurd (none-some first (sym none ∙ (ap (λ (k : List ℕ). first_of k state.ids) (sym (exact_bytes id (id_of command) is)) ∙ some)))
        by_order Greater is = refl

    made : first_of (id_of command) state.ids ≡ None → (tables : Result Tables Refusal) → first_of id (make position command state tables).state.ids ≡ Some first
    made none (Ok tables) = is-kept (id_of command) id (record { position = position; outcome = Applied }) state.ids (apart none) ∙ some
    made none (Err refusal) = is-kept (id_of command) id (record { position = position; outcome = Refused refusal }) state.ids (apart none) ∙ some

    by : (place : Option FirstCommand) → first_of (id_of command) state.ids ≡ place → first_of id (step_by position command state place).state.ids ≡ Some first
    by (Some other) is = some
    by None is = made is (change command state.tables)

pub joined : (state : StoreState) (commands more : List Command) → after state (commands ++ more) ≡ after (after state commands) more
joined state [] more = refl
joined state (command ∷ commands) more = joined (step (suc state.taken) command state).state commands more
