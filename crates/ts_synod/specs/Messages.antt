-- Sending: a message from a node to one node, to all, or to all others.
use Rattle.std.proofs.Common.{ℕ, zero, suc, List, [], ◌∷◌, ◌++◌, ◌==◌, if◌then◌else◌}
use Rattle.ts_synod.specs.declared.message.Body.{Body}
use Rattle.ts_synod.specs.declared.message.Message.{Message}

-- a message from node `me` to another, or to itself
abbrev pub send : {C : Type 0} → ℕ → ℕ → Body C → Message C
send me node body = record { from = me; to = node; body = body }

-- the same body to nodes 1 to n, in this order
abbrev pub broadcast : {C : Type 0} → ℕ → ℕ → Body C → List (Message C)
broadcast me zero body = []
broadcast me (suc n) body = broadcast me n body ++ send me (suc n) body ∷ []

-- the same body to nodes 1 to n except the sender
abbrev pub broadcast_to_others : {C : Type 0} → ℕ → ℕ → Body C → List (Message C)
broadcast_to_others me zero body = []
broadcast_to_others me (suc n) body = if suc n == me then broadcast_to_others me n body
    else broadcast_to_others me n body ++ send me (suc n) body ∷ []
