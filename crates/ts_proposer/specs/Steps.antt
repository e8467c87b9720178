-- The steps of a proposer: what a step keeps, sends and changes, and which step can be kept.
use Rattle.std.proofs.Common.{◌≡◌, ℕ, max, Option, Some, None, true, is_some, Result, Ok, Err}
use Rattle.std.specs.Ordering.{nat_cmp}
use Rattle.std.specs.BTreeMap.{get}
use Rattle.ts_synod.specs.Lists.{update_at}
use Rattle.ts_synod.specs.Force.{used_round}
use Rattle.ts_synod.specs.Proposer.{ProposerState, ProposerStep}
use Rattle.ts_proposer.specs.declared.proposer.Proposer.{Proposer}
use Rattle.ts_proposer.specs.declared.proposer.ProposerEffect.{ProposerEffect}
use Rattle.ts_proposer.specs.declared.proposer.ProposeFault.{ProposeFault}
use Rattle.ts_proposer.specs.declared.proposer.ProposeFault.TheVariants.{Memory, RoundsExhausted}
use Rattle.ts_proposer.specs.declared.proposer.ProposerChange.{ProposerChange}
use Rattle.ts_proposer.specs.declared.proposer.ProposerChange.TheVariants.{Become, Nothing, Collect}
use Rattle.ts_proposer.specs.Promises.{promises_in}
use Rattle.ts_proposer.specs.Proposer.{state_of, state_with, used_of}

-- the state once the change is made
abbrev pub state_after : {C : Type 0} → Proposer C → ProposerChange C → ProposerState C
state_after p Nothing = state_of p
state_after p (Collect from taken) =
    state_with (update_at (promises_in p.promises) from (Some taken)) p.state
state_after p (Become next) = state_with (λ a. None) next

-- the greatest round used once the change is made
abbrev pub used_after : {C : Type 0} → Proposer C → ProposerChange C → ℕ
used_after p Nothing = used_of p
used_after p (Collect from taken) = used_of p
used_after p (Become next) = next.used

-- the step keeps, sends and becomes what the rule does
pub record Makes {C : Type 0} (p : Proposer C) (step : ProposerEffect C)
    (rule : ProposerStep C) : Type 0 where
  pub facts : step.facts.items ≡ rule.facts
  pub messages : step.messages.items ≡ rule.messages
  pub state : state_after p step.change ≡ rule.state

-- the step is the rule's, and RoundsExhausted is answered exactly where the rule has none
abbrev pub Proposes : {C : Type 0} → Proposer C → Result (ProposerEffect C) ProposeFault
    → Option (ProposerStep C) → Type 0
Proposes p (Ok step) None = ⊥
Proposes p (Ok step) (Some rule) = Makes p step rule
Proposes p (Err RoundsExhausted) None = Unit {0}
Proposes p (Err RoundsExhausted) (Some rule) = ⊥
Proposes p (Err Memory) None = ⊥
Proposes p (Err Memory) (Some rule) = Unit {0}

-- there is a place for the change
abbrev pub HasPlace : {C : Type 0} → Proposer C → ProposerChange C → Type 0
HasPlace p Nothing = Unit {0}
HasPlace p (Collect from taken) = is_some (get nat_cmp p.promises from) ≡ true
HasPlace p (Become next) = Unit {0}

-- the step was made for this proposer as it is: there is a place for its change, and the rounds
-- that it uses are those of its facts
abbrev pub IsLatest : {C : Type 0} → Proposer C → ProposerEffect C → Type 0
IsLatest p step = HasPlace p step.change
    × (used_after p step.change ≡ max (used_of p) (used_round step.facts.items))
