-- What happens at an opener, in any order.
use Rattle.std.specs.Prelude.{◌≡◌, ◌<◌, ◌^◌, ℕ, List, [], ◌∷◌, ◌++◌, Some, slice_get}
use Rattle.ts_guard.specs.Reading.{IsPartial}
use Rattle.ts_guard.specs.Opening.{HasCome, HasOpened, IsFault}
use Rattle.ts_guard.specs.declared.fault.GuardFault.{GuardFault}
use Rattle.ts_guard.specs.declared.opener.Opener.{Opener}
use Rattle.ts_guard.specs.declared.session.Direction.{Direction}
use Rattle.ts_guard.specs.declared.session.Session.{Session}
use Rattle.ts_guard.specs.Session.{Fits, context}
use Rattle.ts_guard.specs.Sealed.{vouched_text}

pub data Event : Type 0 where
  Came : (piece : List ℕ) → Event  -- these octets came
  Opened : (content : List ℕ) → Event  -- this content was let through
  Waited : Event  -- less than a record was there
  Refused : (fault : GuardFault) → Event  -- nothing was let through, for this reason

abbrev pub Makes : List ℕ → List ℕ → Opener → Event → Opener → Type 0
Makes key context a (Came piece) b = HasCome a piece b
Makes key context a (Opened content) b = HasOpened key context a content b
Makes key context a Waited b = (b ≡ a) × IsPartial a.held
Makes key context a (Refused fault) b = (b ≡ a) × IsFault key context a fault

-- events, one after another
abbrev pub Steps : List ℕ → List ℕ → Opener → List Event → Opener → Type 0
Steps key context a [] b = b ≡ a
Steps key context a (event ∷ events) b = (mid : Opener) × Makes key context a event mid
    × Steps key context mid events b

-- all that came, and the contents that were let through
abbrev pub came_in : List Event → List ℕ
came_in [] = []
came_in (Came piece ∷ events) = piece ++ came_in events
came_in (other ∷ events) = came_in events

abbrev pub contents_in : List Event → List (List ℕ)
contents_in [] = []
contents_in (Opened content ∷ events) = content ∷ contents_in events
contents_in (other ∷ events) = contents_in events

-- something that was sealed: on which connection, in which direction, as which number
pub record Seal : Type 0 where
  pub session : Session
  pub direction : Direction
  pub number : ℕ
  pub content : List ℕ

-- what the tag of a seal vouches for
abbrev pub text_of : Seal → List ℕ
text_of seal = vouched_text (context seal.session seal.direction) seal.number seal.content

-- of everything that was sealed with a key, by anybody, on any connection
abbrev pub AreSeals : List Seal → Type 0
AreSeals seals = (i : ℕ) (seal : Seal) → slice_get seals i ≡ Some seal → Fits seal.session
    × (seal.number < 2 ^ 64)

-- each record that was let through bears the tag of something that was sealed: nobody else makes
-- tags
abbrev pub NoneForged : List Seal → Session → Direction → List (List ℕ) → Type 0
NoneForged seals session direction contents = (n : ℕ) (content : List ℕ)
    → slice_get contents n ≡ Some content
    → (i : ℕ) × (seal : Seal) × (slice_get seals i ≡ Some seal)
    × (text_of seal ≡ vouched_text (context session direction) n content)

-- on this connection in this direction these contents were sealed, each with its number, and
-- nothing else
abbrev pub SealedAs : List Seal → Session → Direction → List (List ℕ) → Type 0
SealedAs seals session direction sent = (i : ℕ) (seal : Seal) → slice_get seals i ≡ Some seal
    → seal.session ≡ session → seal.direction ≡ direction
    → slice_get sent seal.number ≡ Some seal.content
