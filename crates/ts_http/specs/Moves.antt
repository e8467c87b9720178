-- What the calls of a connection do: each is one of these moves.
use Rattle.std.specs.Prelude.{◌≡◌, ◌⊎◌, ◌<◌, ◌≤◌, ◌+◌, ◌++◌, ℕ, Bool, true, false, List, []}
use Rattle.std.specs.Prelude.{drop, length, nat_lt, ◌||◌}
use Rattle.std.specs.Prelude.{Option, Some, None, codes}
use Rattle.httparse.specs.declared.spans.RequestSpans.{RequestSpans}
use Rattle.http1.specs.declared.conn.Event.{Event}
use Rattle.http1.specs.declared.conn.Limits.{Limits}
use Rattle.http1.specs.declared.server.Server.{Server}
use Rattle.http1.specs.Fields.{Header}
use Rattle.http1.specs.Framing.{method_kind}
use Rattle.http1.specs.Head.{response_text}
use Rattle.http1.specs.Server.{after_informational, expects_continue, has_codings, is_head}
use Rattle.http1.specs.Server.{IsClosed, new_server, reading}
use Rattle.http1.specs.Conn.{unread_size}
use Rattle.http1.specs.declared.conn.BodySize.TheVariants.{Known}
use Rattle.ts_http.specs.Looking.{IsNone, ReadsEnd, ReadsHead, ReadsPiece, Starves, is_of_body}
use Rattle.ts_http.specs.Looking.{is_of_head}
use Rattle.ts_http.specs.Writing.{IsWritten, closing}
use Rattle.ts_http.specs.declared.connection.Connection.{Connection}
use Rattle.ts_http.specs.declared.connection.Stage.{Stage}
use Rattle.ts_http.specs.declared.connection.Stage.TheVariants as stages
use Rattle.ts_http.specs.declared.request.Request.{Request}

-- ---- what a connection shows

abbrev pub ended_at : Stage → Bool
ended_at stages.Ended = true
ended_at other = false

abbrev pub is_ended : Connection → Bool
is_ended c = ended_at c.stage

abbrev pub request_at : Stage → Option Request
request_at (stages.Whole r) = Some r
request_at other = None

-- the request that waits for its response
abbrev pub request_in : Connection → Option Request
request_in c = request_at c.stage

abbrev pub wrong_at : Stage → Option ℕ
wrong_at (stages.Wrong status is_head) = Some status
wrong_at other = None

-- the status of the response that waits for what is wrong
abbrev pub wrong_in : Connection → Option ℕ
wrong_in c = wrong_at c.stage

-- more is to be read of the client while less than 65,536 octets wait to be looked at; of a
-- connection that has ended all is, and dropped
abbrev pub is_read : Connection → Bool
is_read c = is_ended c || nat_lt (length c.input) 65536

-- ---- moves

-- the connection has these parts
pub record Has (c : Connection) (server : Server) (stage : Stage) (input out : List ℕ)
    : Type 0 where
  pub server_is : c.server ≡ server
  pub stage_is : c.stage ≡ stage
  pub input_is : c.input ≡ input
  pub out_is : c.out ≡ out

-- a head has at most 16 KiB, and so have a body's extensions and trailers
abbrev pub limits : Limits
limits = record { max_head_len = 16384; max_extensions_len = 16384; max_trailers_len = 16384 }

-- nothing has come, and nothing was written
abbrev pub IsNew : Connection → Type 0
IsNew c = Has c (new_server limits) stages.Head [] []

abbrev pub came_to : Bool → List ℕ → List ℕ → List ℕ
came_to true input piece = input
came_to false input piece = input ++ piece

-- octets came; a connection that has ended drops them
abbrev pub HasCome : Connection → Connection → List ℕ → Type 0
HasCome a b piece = Has b a.server a.stage (came_to (is_ended a) a.input piece) a.out

-- octets at the front of those that waited have left
pub record HasLeft (a b : Connection) (octets : List ℕ) : Type 0 where
  pub out_is : a.out ≡ octets ++ b.out
  pub server_is : b.server ≡ a.server
  pub stage_is : b.stage ≡ a.stage
  pub input_is : b.input ≡ a.input

-- ---- reading

-- what says that a body may come (RFC 9110 15.2.1)
abbrev pub invitation : List ℕ
invitation = response_text 1 100 (codes "Continue") []

-- a body may come: the client is told, where it waits for that
abbrev pub Invites : Connection → Server → List ℕ → Type 0
Invites a server out =
    ((expects_continue a.server ≡ false) × (server ≡ a.server) × (out ≡ a.out))
    ⊎ ((expects_continue a.server ≡ true) × (server ≡ after_informational a.server 100)
    × (out ≡ a.out ++ invitation))

-- why the request of a head is not taken: a coding, or a length of more than 8 MiB
abbrev pub IsUnwanted : Server → ℕ → Type 0
IsUnwanted server status = ((status ≡ 501) × (has_codings server ≡ true))
    ⊎ ((status ≡ 413) × (size : ℕ) × (unread_size (reading server) ≡ Known size)
    × (8388608 < size))

-- the head of a request was read: its body comes, or it is not taken
abbrev pub BeginsBody : Connection → Request → Connection → Type 0
BeginsBody a r b =
    ((server : Server) × (out : List ℕ) × Invites a server out
    × Has b server (stages.Body r) a.input out
    × ((status : ℕ) → ¬ (IsUnwanted a.server status)))
    ⊎ ((status : ℕ) × IsUnwanted a.server status
    × Has b a.server (stages.Wrong status (is_head (method_kind r.method.items))) a.input a.out)

-- what came is no message that is taken
abbrev pub IsRefused : (Event RequestSpans → Bool) → Connection → Bool → Connection → Type 0
IsRefused may a head b = (server : Server) × (status : ℕ)
    × IsNone may a.server a.input server status
    × Has b server (stages.Wrong status head) a.input a.out

-- more came of what is read, and is not whole
abbrev pub HasStarved : Connection → Stage → Connection → Type 0
HasStarved a stage b = (server : Server) × (count : ℕ) × Starves a.server a.input server count
    × Has b server stage (drop count a.input) a.out

-- a connection after a read of so many octets
pub record IsPast (input out : List ℕ) (server : Server) (count : ℕ) (mid : Connection)
    : Type 0 where
  pub server_is : mid.server ≡ server
  pub input_is : mid.input ≡ drop count input
  pub out_is : mid.out ≡ out

-- a head was read
abbrev pub HasBegun : Connection → Connection → Type 0
HasBegun a b = (r : Request) × (server : Server) × (count : ℕ)
    × ReadsHead a.server a.input server r count
    × (mid : Connection) × IsPast a.input a.out server count mid × BeginsBody mid r b

abbrev pub FromHead : Connection → Connection → Type 0
FromHead a b = HasBegun a b ⊎ HasStarved a stages.Head b ⊎ IsRefused is_of_head a false b

-- a request with a longer body
pub record IsLonger (r : Request) (piece : List ℕ) (s : Request) : Type 0 where
  pub method_is : s.method ≡ r.method
  pub target_is : s.target ≡ r.target
  pub fields_are : s.fields ≡ r.fields
  pub body_is : s.body.items ≡ r.body.items ++ piece

-- a piece of a body is behind it, unless that is too long then
abbrev pub TakesPiece : Connection → Request → List ℕ → Connection → Type 0
TakesPiece a r piece b =
    ((s : Request) × IsLonger r piece s × Has b a.server (stages.Body s) a.input a.out
    × (length r.body.items + length piece ≤ 8388608))
    ⊎ ((8388608 < length r.body.items + length piece)
    × Has b a.server (stages.Wrong 413 (is_head (method_kind r.method.items))) a.input a.out)

-- a piece of a body was read
abbrev pub HasAdded : Request → Connection → Connection → Type 0
HasAdded r a b = (piece : List ℕ) × (server : Server) × (count : ℕ)
    × ReadsPiece a.server a.input server piece count
    × (mid : Connection) × IsPast a.input a.out server count mid × TakesPiece mid r piece b

-- the end of a body was read
abbrev pub HasEnded : Request → Connection → Connection → Type 0
HasEnded r a b = (server : Server) × (count : ℕ) × ReadsEnd a.server a.input server count
    × Has b server (stages.Whole r) (drop count a.input) a.out

abbrev pub FromBody : Request → Connection → Connection → Type 0
FromBody r a b = HasAdded r a b ⊎ HasEnded r a b ⊎ HasStarved a (stages.Body r) b
    ⊎ IsRefused is_of_body a (is_head (method_kind r.method.items)) b

-- nothing but times has changed
abbrev pub IsSame : Connection → Connection → Type 0
IsSame a b = Has b a.server a.stage a.input a.out

abbrev pub ReadFrom : Stage → Connection → Connection → Type 0
ReadFrom stages.Head a b = FromHead a b
ReadFrom (stages.Body r) a b = FromBody r a b
ReadFrom other a b = IsSame a b

-- a read: a head where one is due, or a piece of a body, or nothing
abbrev pub HasRead : Connection → Connection → Type 0
HasRead a b = ReadFrom a.stage a b

-- ---- writing

-- what waits for a response: whether it is HEAD, and whether the connection ends behind it
abbrev pub manner_at : Stage → Option (Bool × Bool)
manner_at (stages.Whole r) = Some (is_head (method_kind r.method.items), false)
manner_at (stages.Wrong status head) = Some (head, true)
manner_at other = None

-- the octets of a response wait behind the others
pub record Writes (a b : Connection) (status : ℕ) (phrase : List ℕ) (headers : List Header)
    (body : List ℕ) (head : Bool) : Type 0 where
  pub octets : List ℕ
  pub written : IsWritten a.server status phrase headers body head octets b.server
  pub out_is : b.out ≡ a.out ++ octets
  pub input_is : b.input ≡ a.input

-- behind the response to a request the next one is read, unless the connection ends
pub record Answers (a b : Connection) (status : ℕ) (phrase : List ℕ) (headers : List Header)
    (body : List ℕ) (head : Bool) : Type 0 where
  pub writes : Writes a b status phrase headers body head
  pub then : ((b.stage ≡ stages.Ended) × IsClosed b.server)
      ⊎ ((b.stage ≡ stages.Head) × ¬ (IsClosed b.server))

-- behind the response to what is wrong the connection ends, and the response says so
pub record EndsWith (a b : Connection) (status : ℕ) (phrase : List ℕ) (headers : List Header)
    (body : List ℕ) (head : Bool) : Type 0 where
  pub writes : Writes a b status phrase (closing true headers) body head
  pub ended : b.stage ≡ stages.Ended

abbrev pub AnswersAt : Option (Bool × Bool) → Connection → Connection → ℕ → List ℕ → List Header
    → List ℕ → Type 0
AnswersAt (Some (head, false)) a b status phrase headers body =
    Answers a b status phrase headers body head
AnswersAt (Some (head, true)) a b status phrase headers body =
    EndsWith a b status phrase headers body head
AnswersAt None a b status phrase headers body = ⊥

-- a response was written to what waits for one
abbrev pub HasAnswered : Connection → Connection → ℕ → List ℕ → List Header → List ℕ → Type 0
HasAnswered a b status phrase headers body =
    AnswersAt (manner_at a.stage) a b status phrase headers body
