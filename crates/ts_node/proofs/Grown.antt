-- The log's step and the proposer's after it, where the prefix grows.
use Rattle.std.proofs.Common.{◌≡◌, ◌∙◌, ◌<◌, ◌++◌, ℕ, List, Option, Bool, true, length, ap, sym, subst, arith}
use Rattle.std.proofs.lemmas.Bool.Decides.{nat_tests}
use Rattle.ts_synod.specs.declared.message.Fact.{Fact}
use Rattle.ts_synod.specs.Config.{Config}
use Rattle.ts_synod.specs.Force.{log_of, used_round}
use Rattle.ts_synod.specs.Store.{Store}
use Rattle.ts_node.specs.declared.roles.Roles.{Roles}
use Rattle.ts_node.specs.declared.plan.Plan.{Plan}
use Rattle.ts_node.specs.inside.Roles.{Makes}
use Rattle.ts_synod.specs.Log.{LogStep, has_grown, prefix}
use Rattle.ts_synod.specs.Proposer.{ProposerStep, on_growth}
use Rattle.ts_synod.specs.Node.{Effect, Volatile, log_effect, log_then_proposer, position_for_wanted}

pub has_grown_is : {C : Type 0} (before now : ℕ → Option C) (m n : ℕ) → m ≡ length (prefix before) → n ≡ length (prefix now) → m < n → has_grown before now ≡ true
has_grown_is before now m n a b l = grind (arith, nat_tests)

-- the steps of both
abbrev pub both : {C : Type 0} → LogStep C → ProposerStep C → Effect C
both rule growth = record { facts = rule.facts ++ growth.facts; messages = rule.messages ++ growth.messages; volatile = record { proposer = growth.state; received = rule.received } }

pub effect_grown : {C O T Q V : Type 0} (store : Store C O T Q V) (config : Config)
    (facts : List (Fact C)) (volatile : Volatile C) (rule : LogStep C) (growth : ProposerStep C)
    → has_grown (log_of facts) rule.learned ≡ true
    → growth ≡ on_growth config (used_round facts) volatile.proposer
    (position_for_wanted store config rule.learned volatile.proposer.wanted)
    → both rule growth ≡ log_then_proposer store config facts volatile rule
effect_grown {C} store config facts volatile rule growth grown is =
    let after = on_growth config (used_round facts) volatile.proposer (position_for_wanted store config rule.learned volatile.proposer.wanted) in
    ap (both rule) is ∙ ap (λ (b : Bool). log_effect volatile b rule after) (sym grown)

-- the same plan, told of an equal rule
pub retold : {C O T Q V : Type 0} (roles : Roles C) (plan : Plan C) (store : Store C O T Q V)
    (config : Config) (facts : List (Fact C)) (v w : Volatile C) (rule other : LogStep C) → v ≡ w
    → rule ≡ other → Makes roles plan (log_then_proposer store config facts v rule)
    → Makes roles plan (log_then_proposer store config facts w other)
retold roles plan store config facts v w rule other e f makes =
    subst (λ x. Makes roles plan (log_then_proposer store config facts x other)) e (subst (λ x. Makes roles plan (log_then_proposer store config facts v x)) f makes)
