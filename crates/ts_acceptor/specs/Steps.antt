-- The steps of an acceptor: what a step keeps and sends, and which step can be kept.
use Rattle.std.proofs.Common.{◌≡◌, ◌≢◌, ◌<◌, ◌≤◌, ℕ, List, [], ◌∷◌, Option, Some, None, true}
use Rattle.std.proofs.Common.{is_some}
use Rattle.std.specs.Ordering.{nat_cmp}
use Rattle.std.specs.BTreeMap.{get}
use Rattle.ts_synod.specs.declared.message.Fact.{Fact}
use Rattle.ts_synod.specs.declared.message.Fact.TheVariants.{Promised, Took}
use Rattle.ts_synod.specs.declared.message.Vote.{Vote}
use Rattle.ts_synod.specs.Acceptor.{Output}
use Rattle.ts_acceptor.specs.declared.acceptor.Acceptor.{Acceptor}
use Rattle.ts_acceptor.specs.declared.acceptor.AcceptorEffect.{AcceptorEffect}
use Rattle.ts_acceptor.specs.declared.acceptor.AcceptorChange.{AcceptorChange}
use Rattle.ts_acceptor.specs.declared.acceptor.AcceptorChange.TheVariants.{Nothing, Promise, Take}
use Rattle.ts_acceptor.specs.Acceptor.{promised_at, taken_at}

-- the step keeps and sends what the rule does
pub record Makes {C : Type 0} (step : AcceptorEffect C) (rule : Output C) : Type 0 where
  pub facts : step.facts.items ≡ rule.facts
  pub messages : step.messages.items ≡ rule.messages

-- there are places for a promise and for a vote at p
abbrev pub HasPlaces : {C : Type 0} → Acceptor C → ℕ → Type 0
HasPlaces a p = (is_some (get nat_cmp a.promised p) ≡ true)
    × (is_some (get nat_cmp a.taken p) ≡ true)

-- the vote, if there is one, is of another ballot
abbrev pub IsOfOther : {C : Type 0} → ℕ → Option (Vote C) → Type 0
IsOfOther b None = Unit {0}
IsOfOther b (Some v) = v.ballot ≢ b

-- the change is that of these facts, it is allowed to the acceptor, and there are places for it
abbrev pub IsChangeOf : {C : Type 0} → Acceptor C → AcceptorChange C → List (Fact C) → Type 0
IsChangeOf a Nothing facts = facts ≡ []
IsChangeOf a (Promise p b) facts =
    (facts ≡ Promised p b ∷ []) × (promised_at a p < b) × HasPlaces a p
IsChangeOf a (Take p b c) facts =
    (facts ≡ Took p b c ∷ []) × (promised_at a p ≤ b) × IsOfOther b (taken_at a p) × HasPlaces a p

-- the step was made for this acceptor as it is
abbrev pub IsLatest : {C : Type 0} → Acceptor C → AcceptorEffect C → Type 0
IsLatest a step = IsChangeOf a step.change step.facts.items
