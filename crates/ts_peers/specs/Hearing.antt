-- What a peer answers on the line to it.
use Rattle.std.specs.Prelude.{ℕ, Bool, true, false, ◌&&◌, nat_eq, Option, None, Some}
use Rattle.std.specs.Prelude.{if◌then◌else◌}
use Rattle.ts_carrier.specs.Contact.{after_prefix}
use Rattle.ts_carrier.specs.declared.contact.Contact.{Contact}
use Rattle.ts_node.specs.declared.identity.Identity.{Identity as NodeIdentity}
use Rattle.ts_wire.specs.declared.frame.Frame.{Frame}
use Rattle.ts_wire.specs.declared.frame.Frame.TheVariants.{Done, Identity, NodeFault, Prefix}

-- which node of which group an answer says that the peer is
abbrev pub identity_of : Frame → Option NodeIdentity
identity_of (Identity node nodes group) =
    Some (record { node = node; nodes = nodes; group = group })
identity_of other = None

-- the node has this number in a group of so many, of this number
abbrev pub is_identity : NodeIdentity → ℕ → ℕ → ℕ → Bool
is_identity meant node nodes group =
    nat_eq node meant.node && nat_eq nodes meant.nodes && nat_eq group meant.group

-- What the node that is meant answers: which node it is; and, once it has said so, how many
-- commands it knows, how many messages it took, or that it failed.
abbrev pub is_answer : Contact → NodeIdentity → Frame → Bool
is_answer contact meant (Identity node nodes group) = is_identity meant node nodes group
is_answer contact meant (Prefix prefix) = contact.is_met
is_answer contact meant (Done count) = contact.is_met
is_answer contact meant (NodeFault fault) = contact.is_met
is_answer contact meant other = false

-- What is known of the peer then. Who is another node than is meant is never met.
abbrev pub after_answer : Contact → NodeIdentity → Frame → Contact
after_answer contact meant (Identity node nodes group) =
    if is_identity meant node nodes group then record contact { is_met = true } else contact
after_answer contact meant (Prefix prefix) =
    if contact.is_met then after_prefix contact prefix else contact
after_answer contact meant other = contact
