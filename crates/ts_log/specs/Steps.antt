-- The steps of a log: what a step keeps, sends and changes, and which step can be kept.
use Rattle.std.proofs.Common.{◌≡◌, ℕ, List, [], ◌∷◌, Option, Some, None, true, false, is_some}
use Rattle.std.proofs.Common.{length, suc, nat_le, nat_lt, if◌then◌else◌}
use Rattle.std.specs.Ordering.{nat_cmp}
use Rattle.std.specs.BTreeMap.{get}
use Rattle.ts_synod.specs.declared.message.Fact.{Fact}
use Rattle.ts_synod.specs.declared.message.Fact.TheVariants.{Chosen}
use Rattle.ts_synod.specs.declared.message.Message.{Message}
use Rattle.ts_synod.specs.declared.message.Body.TheVariants.{Ask}
use Rattle.ts_synod.specs.Config.{Config}
use Rattle.ts_synod.specs.Messages.{send}
use Rattle.ts_synod.specs.Lists.{update_at}
use Rattle.ts_synod.specs.Log.{LogStep, ReceivedVotes, last_position, prefix}
use Rattle.ts_log.specs.declared.log.Log.{Log}
use Rattle.ts_log.specs.declared.log.LogEffect.{LogEffect}
use Rattle.ts_log.specs.declared.log.LogChange.{LogChange}
use Rattle.ts_log.specs.declared.log.LogChange.TheVariants.{Learn, Nothing, Receive}
use Rattle.ts_log.specs.Maps.{HasPlaceIn}
use Rattle.ts_log.specs.Log.{learned_of, received_of}

-- what is learned once the change is made
abbrev pub learned_after : {C : Type 0} → Log C → LogChange C → ℕ → Option C
learned_after log Nothing = learned_of log
learned_after log (Receive p a v) = learned_of log
learned_after log (Learn p c n) = update_at (learned_of log) p (Some c)

-- what is received once the change is made
abbrev pub received_after : {C : Type 0} → Log C → LogChange C → ReceivedVotes C
received_after log Nothing = received_of log
received_after log (Receive p a v) = update_at (received_of log) p
    (update_at (received_of log p) a (Some v))
received_after log (Learn p c n) = update_at (received_of log) p (λ a. None)

-- the step keeps, sends and becomes what the rule does
pub record Makes {C : Type 0} (log : Log C) (step : LogEffect C) (rule : LogStep C) : Type 0 where
  pub facts : step.facts.items ≡ rule.facts
  pub messages : step.messages.items ≡ rule.messages
  pub learned : learned_after log step.change ≡ rule.learned
  pub received : received_after log step.change ≡ rule.received

-- nothing is kept or changed, and these messages are sent
abbrev pub only_messages : {C : Type 0} → Log C → List (Message C) → LogStep C
only_messages log messages = record
    { facts = []; messages = messages; learned = learned_of log; received = received_of log }

-- Ask a node for the position after the prefix, where it has grown from one length to another and
-- is not full
abbrev pub asks : {C : Type 0} → Config → ℕ → ℕ → ℕ → List (Message C)
asks config before now node = if nat_lt before now
    then (if nat_le last_position now then [] else send config.me node (Ask (suc now)) ∷ []) else []

-- the change is that of these facts, and there are places for it
abbrev pub IsChangeOf : {C : Type 0} → Log C → LogChange C → List (Fact C) → Type 0
IsChangeOf log Nothing facts = facts ≡ []
IsChangeOf log (Receive p a v) facts =
    (facts ≡ []) × HasPlaceIn (get nat_cmp log.received.votes p) a
IsChangeOf log (Learn p c n) facts = (facts ≡ Chosen p c ∷ [])
    × (is_some (learned_of log p) ≡ false) × (is_some (get nat_cmp log.learned.commands p) ≡ true)
    × (n ≡ length (prefix (update_at (learned_of log) p (Some c))))

-- the step was made for this log as it is
abbrev pub IsLatest : {C : Type 0} → Log C → LogEffect C → Type 0
IsLatest log step = IsChangeOf log step.change step.facts.items
