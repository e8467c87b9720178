-- Frames that wait to be sent to a peer.
use Rattle.std.specs.Prelude.{◌≡◌, ℕ, Bool, List, [], ◌∷◌, ◌++◌, ◌-◌, ◌&&◌, length, nat_le}
use Rattle.std.specs.Prelude.{if◌then◌else◌, nat_lt}
use Rattle.std.specs.List.{flat_map, sum_by}
use Rattle.std.specs.Global.{Vec}
use Rattle.ts_carrier.specs.declared.mailbox.Mailbox.{Mailbox}

-- how many octets frames have
abbrev pub total : List (Vec ℕ) → ℕ
total frames = sum_by (λ frame. length frame.items) frames

-- there is room for one frame more: fewer than 256 wait, and have at most so many octets
abbrev pub has_room : ℕ → List (Vec ℕ) → Bool
has_room budget frames = nat_lt (length frames) 256 && nat_le (total frames) budget

-- the frames that are left when the oldest have gone, one after another, until there is room
abbrev pub with_room : ℕ → List (Vec ℕ) → List (Vec ℕ)
with_room budget [] = []
with_room budget (frame ∷ frames) = if has_room budget (frame ∷ frames) then frame ∷ frames
    else with_room budget frames

-- A frame behind the others, of which so many are left that there is room for it: fewer than 256,
-- and with it they have at most `most` octets. A frame that has more than that by itself is put all
-- the same, once no other that is left has an octet.
abbrev pub with_frame : ℕ → List (Vec ℕ) → Vec ℕ → List (Vec ℕ)
with_frame most frames frame = with_room (most - length frame.items) frames ++ frame ∷ []

-- frames are made ready, one after another, behind the octets that are ready, until 16,384 octets
-- are; the frames that wait then
abbrev pub fill : List ℕ → List (Vec ℕ) → List ℕ × List (Vec ℕ)
fill ready [] = (ready, [])
fill ready (frame ∷ frames) = if nat_le 16384 (length ready) then (ready, frame ∷ frames)
    else fill (ready ++ frame.items) frames

-- all octets that wait: those that are being sent, and those of whole frames
abbrev pub octets_in : Mailbox → List ℕ
octets_in mailbox = mailbox.ready ++ flat_map (λ frame. frame.items) mailbox.frames.items

-- the octets and the frames are as they were
pub record Same (old new : Mailbox) : Type 0 where
  pub ready : new.ready ≡ old.ready
  pub frames : new.frames.items ≡ old.frames.items

-- the first of these frames is made ready
abbrev pub IsOneReady : List ℕ → List (Vec ℕ) → List ℕ → List (Vec ℕ) → Type 0
IsOneReady ready [] after others = (after ≡ ready) × (others ≡ [])
IsOneReady ready (frame ∷ frames) after others =
    (after ≡ ready ++ frame.items) × (others ≡ frames)

abbrev pub OneReady : Mailbox → Mailbox → Type 0
OneReady old new = IsOneReady old.ready old.frames.items new.ready new.frames.items
