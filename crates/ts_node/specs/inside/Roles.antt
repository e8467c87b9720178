-- What a step of a role leaves of the three roles.
use Rattle.std.proofs.Common.{◌≡◌, ◌++◌, ◌∷◌, List, []}
use Rattle.ts_synod.specs.declared.message.Fact.{Fact}
use Rattle.ts_synod.specs.declared.message.Fact.TheVariants.{Chosen, Promised, Took, Used}
use Rattle.ts_synod.specs.Node.{Effect, Volatile}
use Rattle.ts_acceptor.specs.Steps as acceptor_steps
use Rattle.ts_proposer.specs.Proposer as proposers
use Rattle.ts_proposer.specs.Steps as proposer_steps
use Rattle.ts_log.specs.Log as logs
use Rattle.ts_log.specs.Steps as log_steps
use Rattle.ts_node.specs.declared.roles.Roles.{Roles}
use Rattle.ts_node.specs.declared.plan.Move.{Move}
use Rattle.ts_node.specs.declared.plan.Move.TheVariants.{Accept, Grow, Learn, Nothing, Propose}
use Rattle.ts_node.specs.declared.plan.Plan.{Plan}
use Rattle.ts_node.specs.Roles.{config_of, volatile_of, StandFor}

-- nothing of the world's node is changed
pub record AreUnchanged {C : Type 0} (old new : Roles C) : Type 0 where
  pub config : config_of new ≡ config_of old
  pub volatile : volatile_of new ≡ volatile_of old
  pub stand : (facts : List (Fact C)) → StandFor old facts → StandFor new facts
  pub learned : logs.learned_of new.log ≡ logs.learned_of old.log

-- each fact says that a round was used
abbrev pub AllUsed : {C : Type 0} → List (Fact C) → Type 0
AllUsed [] = Unit {0}
AllUsed (Used r ∷ fs) = AllUsed fs
AllUsed (Promised p b ∷ fs) = ⊥
AllUsed (Took p b c ∷ fs) = ⊥
AllUsed (Chosen p c ∷ fs) = ⊥

-- the facts that a change keeps
abbrev pub facts_in : {C : Type 0} → Move C → List (Fact C)
facts_in Nothing = []
facts_in (Accept step) = step.facts.items
facts_in (Propose step) = step.facts.items
facts_in (Learn step) = step.facts.items
facts_in (Grow learn propose facts) = facts.items

-- the volatile part once the change is made
abbrev pub volatile_after : {C : Type 0} → Roles C → Move C → Volatile C
volatile_after roles Nothing = volatile_of roles
volatile_after roles (Accept step) = volatile_of roles
volatile_after roles (Propose step) = record {
  proposer = proposer_steps.state_after roles.proposer step.change;
  received = logs.received_of roles.log;
}
volatile_after roles (Learn step) = record {
  proposer = proposers.state_of roles.proposer;
  received = log_steps.received_after roles.log step.change;
}
volatile_after roles (Grow learn propose facts) = record {
  proposer = proposer_steps.state_after roles.proposer propose.change;
  received = log_steps.received_after roles.log learn.change;
}

-- the change was made for these roles as they are
abbrev pub IsLatest : {C : Type 0} → Roles C → Move C → Type 0
IsLatest roles Nothing = Unit {0}
IsLatest roles (Accept step) = acceptor_steps.IsLatest roles.acceptor step
IsLatest roles (Propose step) = proposer_steps.IsLatest roles.proposer step
    × AllUsed step.facts.items
IsLatest roles (Learn step) = log_steps.IsLatest roles.log step
IsLatest roles (Grow learn propose facts) = log_steps.IsLatest roles.log learn
    × proposer_steps.IsLatest roles.proposer propose × AllUsed propose.facts.items
    × (facts.items ≡ learn.facts.items ++ propose.facts.items)

-- the plan keeps, sends and changes what the world's effect does
pub record Makes {C : Type 0} (roles : Roles C) (plan : Plan C) (effect : Effect C) : Type 0 where
  pub facts : facts_in plan.change ≡ effect.facts
  pub messages : plan.messages.items ≡ effect.messages
  pub volatile : volatile_after roles plan.change ≡ effect.volatile
