-- What the calls of a connection of HTTP before a node do.
use Rattle.std.specs.Prelude.{◌≡◌, ◌==◌, ◌⊎◌, ◌≤◌, ◌+◌, ℕ, Bool, true, List, [], ◌∷◌}
use Rattle.std.specs.Prelude.{Option, Some, None, codes, if◌then◌else◌, length, nat_lt}
use Rattle.ts_http.specs.Moves.{HasAnswered, HasRead, is_ended, request_in, wrong_in}
use Rattle.ts_http.specs.Reading.{Tells, is_due}
use Rattle.ts_http.specs.Times.{enter_phase, phase_in}
use Rattle.ts_http.specs.declared.connection.Connection.{Connection}
use Rattle.ts_http.specs.declared.reading.Progress.TheVariants.{Waits}
use Rattle.ts_http.specs.declared.request.Request.{Request}
use Rattle.ts_wire.specs.declared.frame.Frame.{Frame}
use Rattle.ts_api.specs.Heading.{headers_of, phrase_of}
use Rattle.ts_api.specs.Response.{IsLine}
use Rattle.ts_api.specs.declared.response.Response.{Response}
use Rattle.ts_api.specs.declared.scene.Scene.{Scene}
use Rattle.ts_site.specs.Requests.{Begins, GoesOn}
use Rattle.ts_site.specs.declared.face.Asking.{Asking}
use Rattle.ts_site.specs.declared.face.Face.{Face}
use Rattle.ts_site.specs.declared.next.Next.{Next}
use Rattle.ts_site.specs.declared.next.Next.TheVariants.{Tell, Ask}

-- what waits to leave is less than 65,536 octets
abbrev pub has_room : Connection → Bool
has_room c = nat_lt (length c.out) 65536

-- a connection, and what the node is asked for the request that waits on it
abbrev pub State : Type 0
State = Connection × Option Asking

abbrev pub state_of : Face → State
state_of face = (face.connection, face.asking)

-- since when a connection does what it does: from now on, where that is another thing than before
abbrev pub IsTimed : ℕ → Connection → Connection → Type 0
IsTimed now a b = b.times ≡ enter_phase (phase_in b) now a.times

-- a response is written behind the others, to what waits for one
abbrev pub Responds : Connection → Connection → Response → Type 0
Responds a b r = HasAnswered a b r.status (phrase_of r.status) (headers_of r) r.body.items

-- what comes next: a response is written; or the node is to be asked, and nothing is written
abbrev pub Follows : ℕ → Next → State → State → Type 0
Follows now (Tell response) s t =
    Responds s.0 t.0 response × (t.1 ≡ s.1) × IsTimed now s.0 t.0
Follows now (Ask pending octets) s t =
    (t.0 ≡ s.0) × (t.1 ≡ Some (record { pending = pending; frame = octets }))

-- the node has answered by this frame what it was asked
abbrev pub IsGiven : ℕ → State → Frame → State → Type 0
IsGiven now s frame t = (asking : Asking) × (s.1 ≡ Some asking)
    × (next : Next) × GoesOn asking.pending.waits frame next × Follows now next (s.0, None) t

-- ---- what a connection takes before the node is asked

-- why a request is not taken
abbrev pub wrong_words : ℕ → List ℕ
wrong_words status =
    if status == 413 then codes "a body has at most 8388608 octets"
    else (if status == 414 then codes "the path is too long"
    else (if status == 431 then codes "the header fields are too long"
    else (if status == 501 then codes "a transfer coding that isn't taken here"
    else codes "this is no request of HTTP/1.1")))

-- what came is no request that is taken, and is told so
abbrev pub IsWrong : ℕ → State → State → Type 0
IsWrong now s t = (status : ℕ) × (wrong_in s.0 ≡ Some status)
    × (response : Response) × IsLine status (wrong_words status) response
    × Follows now (Tell response) s t

-- the request that waits comes to something
abbrev pub HasBegun : Scene → ℕ → State → State → Type 0
HasBegun scene now s t = (request : Request) × (request_in s.0 ≡ Some request)
    × (next : Next) × Begins scene request next × Follows now next s t

-- one step, while the node is not asked: octets that came are read, or what they are is answered
abbrev pub TakesOne : Scene → ℕ → State → State → Type 0
TakesOne scene now s t = (s.1 ≡ None)
    × ((HasRead s.0 t.0 × (t.1 ≡ None) × IsTimed now s.0 t.0) ⊎ IsWrong now s t
    ⊎ HasBegun scene now s t)

-- one step after another; the last one stands first
abbrev pub Takes : Scene → ℕ → State → List State → State → Type 0
Takes scene now s [] t = s ≡ t
Takes scene now s (mid ∷ mids) t = Takes scene now s mids mid × TakesOne scene now mid t

-- the last step read, and less had come than was due
abbrev pub IsStarved : List State → State → Type 0
IsStarved [] t = ⊥
IsStarved (mid ∷ mids) t = Tells mid.0.stage mid.0 t.0 Waits

-- nothing can be done before more comes, or nothing more is answered
abbrev pub IsAtRest : List State → State → Type 0
IsAtRest mids t = IsStarved mids t ⊎ (is_ended t.0 ≡ true)

-- in how many of these states a head, or more of a body, was due
abbrev pub count_due : List State → ℕ
count_due [] = 0
count_due (mid ∷ mids) = (if is_due mid.0.stage then 1 else 0) + count_due mids

-- why no more is taken now: the node is to be asked; or 65,536 octets wait to leave, and this is
-- known; or nothing can be done; or what was due was read 2^32 - 2 times, and no request waits
abbrev pub IsDone : List State → State → Bool → Type 0
IsDone mids t paused = ((asking : Asking) × (t.1 ≡ Some asking))
    ⊎ ((paused ≡ true) × (65536 ≤ length t.0.out))
    ⊎ IsAtRest mids t
    ⊎ ((4294967294 ≤ count_due mids) × (is_due t.0.stage ≡ true))
