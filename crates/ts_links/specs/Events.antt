-- Moves on all connections, one after another.
use Rattle.std.specs.Prelude.{◌≡◌, ℕ, List, [], ◌∷◌, Some}
use Rattle.std.specs.Prelude.{slice_get, slice_set}
use Rattle.std.specs.List.{flat_map}
use Rattle.ts_wire.specs.declared.frame.Frame.{Frame}
use Rattle.ts_links.specs.declared.link.Link.{Link}
use Rattle.ts_links.specs.Moves.{Move, Opened, Came, Took, Refused, Left, Closed, Makes}

-- a move on the connection of a slot, at a moment
pub record Event : Type 0 where
  pub slot : ℕ
  pub at : ℕ
  pub move : Move

abbrev pub event : ℕ → ℕ → Move → Event
event slot now move = record { slot = slot; at = now; move = move }

-- the connection of the event's slot makes the move, and the others are as they were
pub record Change (links : List Link) (event : Event) (others : List Link) : Type 0 where
  pub before : Link
  pub after : Link
  pub was : slice_get links event.slot ≡ Some before
  pub is : others ≡ slice_set links event.slot after
  pub makes : Makes before event.move event.at after

abbrev pub Changes : List Link → List Event → List Link → Type 0
Changes links [] others = others ≡ links
Changes links (event ∷ events) others =
    (between : List Link) × Change links event between × Changes between events others

-- a request that was taken, and its answers
abbrev pub AnsweredRequest : Type 0
AnsweredRequest = Frame × List Frame

abbrev pub taken_in : Move → List AnsweredRequest
taken_in Opened = []
taken_in (Came piece) = []
taken_in (Took request answers) = (request, answers) ∷ []
taken_in (Refused fault) = []
taken_in (Left octets) = []
taken_in Closed = []

-- the requests that were taken on all connections, in the order in which they were taken
abbrev pub requests_taken : List Event → List AnsweredRequest
requests_taken events = flat_map (λ event. taken_in event.move) events

-- some moves, none of which takes a request, lead from these connections to those
pub record Quiet (links others : List Link) : Type 0 where
  pub events : List Event
  pub none : requests_taken events ≡ []
  pub changes : Changes links events others
