-- Messages are carried between servers: what a server answers to Take, and to a message.
use Rattle.std.specs.Prelude.{◌≡◌, ◌≤◌, ◌⊎◌, ◌&&◌, ◌==◌, Bool, true, false, List, [], ◌∷◌, ◌++◌}
use Rattle.std.specs.Prelude.{length, nat_le}
use Rattle.std.specs.List.{list_all}
use Rattle.ts_synod.specs.declared.fault.NodeFault.{NodeFault as Fault}
use Rattle.ts_wire.specs.declared.frame.Frame.{Frame}
use Rattle.ts_wire.specs.declared.frame.Frame.TheVariants.{Done, NodeFault, Peer}

abbrev pub is_message : Frame → Bool
is_message (Peer message) = true
is_message other = false

-- messages, at most as many as an outbox holds, and their count
pub record IsGiven (frames : List Frame) : Type 0 where
  pub messages : List Frame
  pub is : frames ≡ messages ++ Done (length messages) ∷ []
  pub few : length messages ≤ 256
  pub each : list_all is_message messages ≡ true

-- the frame behind messages is their count, and they are at most as many as an outbox holds
abbrev pub are_given : List Frame → Frame → Bool
are_given messages (Done count) =
    nat_le (length messages) 256 && (length messages == count) && list_all is_message messages
are_given messages other = false

-- a message is answered by Done 0, or by a node's fault
abbrev pub IsDelivered : List Frame → Type 0
IsDelivered frames = (frames ≡ Done 0 ∷ []) ⊎ ((fault : Fault) × (frames ≡ NodeFault fault ∷ []))

-- Done 0, or a node's fault
abbrev pub is_reply : Frame → Bool
is_reply (Done count) = count == 0
is_reply (NodeFault fault) = true
is_reply other = false
