-- What the holder of a key may ask of a node. A frame is u32 length | u8 version | u8 kind |
-- fields, and the fields of a message between nodes begin with u8 from | u8 to.
use Rattle.std.specs.Prelude.{ℕ, Bool, false, ◌||◌, ◌&&◌, nat_eq, nat_le, List, ◌∷◌}
use Rattle.ts_access.specs.declared.key.Role.{Role}
use Rattle.ts_access.specs.declared.key.Role.TheVariants.{Peer, Admin, Reader}

-- the kinds 01 to 07: messages between nodes
abbrev pub is_message : ℕ → Bool
is_message kind = nat_le 1 kind && nat_le kind 7

-- 11 Question, 13 Outcome, 15 Status, 17 Identify, 18 Report
abbrev pub is_question : ℕ → Bool
is_question kind = nat_eq kind 0x11 || (nat_eq kind 0x13 || (nat_eq kind 0x15
    || (nat_eq kind 0x17 || nat_eq kind 0x18)))

-- 10 Submit, 12 Take, 14 CatchUp, 16 Compact
abbrev pub is_change : ℕ → Bool
is_change kind = nat_eq kind 0x10 || (nat_eq kind 0x12 || (nat_eq kind 0x14 || nat_eq kind 0x16))

-- a message's fields name this sender and this receiver
abbrev pub is_turned : ℕ → ℕ → List ℕ → Bool
is_turned from to (sender ∷ receiver ∷ body) = nat_eq sender from && nat_eq receiver to
is_turned from to fields = false

-- everybody may ask questions; a node may send its own messages to the node that is asked; an
-- administrator may ask for changes
abbrev pub may_ask : Role → ℕ → ℕ → List ℕ → Bool
may_ask (Peer peer) node kind fields =
    is_question kind || (is_message kind && is_turned peer node fields)
may_ask Admin node kind fields = is_question kind || is_change kind
may_ask Reader node kind fields = is_question kind

-- what a frame asks
abbrev pub may : Role → ℕ → List ℕ → Bool
may role node (a ∷ b ∷ c ∷ d ∷ version ∷ kind ∷ fields) = may_ask role node kind fields
may role node octets = false
