-- What came on a connection and what left it, over every list of moves.
use Rattle.std.specs.Prelude.{◌≡◌, ◌++◌, ℕ, Bool, true, List, [], ◌∷◌, map, Option, Some}
use Rattle.std.specs.Prelude.{None}
use Rattle.std.specs.List.{flat_map, AllByRecursion}
use Rattle.http1.specs.declared.server.Server.{Server}
use Rattle.http1.specs.Fields.{Header}
use Rattle.http1.specs.Framing.{method_kind}
use Rattle.http1.specs.Message.{ReadsRequests, Request as Message}
use Rattle.http1.specs.Server.{is_head}
use Rattle.http1.specs.ServerTrace.{request_view}
use Rattle.ts_http.specs.Moves.{HasAnswered, HasCome, HasLeft, HasRead, IsNew, invitation, limits}
use Rattle.ts_http.specs.Moves.{request_in}
use Rattle.ts_http.specs.Request.{field_in}
use Rattle.ts_http.specs.Writing.{IsWritten, closing}
use Rattle.ts_http.specs.declared.connection.Connection.{Connection}
use Rattle.ts_http.specs.declared.request.Request.{Request}

-- ---- moves

-- a response
pub record SentResponse : Type 0 where
  pub status : ℕ
  pub phrase : List ℕ
  pub headers : List Header
  pub body : List ℕ

pub data Move : Type 0 where
  Came : List ℕ → Move
  Read : Move
  Answered : SentResponse → Move
  Left : List ℕ → Move

abbrev pub Makes : Connection → Move → Connection → Type 0
Makes a (Came piece) b = HasCome a b piece
Makes a Read b = HasRead a b
Makes a (Answered sent) b = HasAnswered a b sent.status sent.phrase sent.headers sent.body
Makes a (Left octets) b = HasLeft a b octets

-- one after another
abbrev pub Moves : Connection → List Move → Connection → Type 0
Moves a [] b = a ≡ b
Moves a (move ∷ moves) b = (mid : Connection) × Makes a move mid × Moves mid moves b

-- ---- what moves bring

abbrev pub came_in : List Move → List ℕ
came_in [] = []
came_in (Came piece ∷ moves) = piece ++ came_in moves
came_in (move ∷ moves) = came_in moves

abbrev pub left_in : List Move → List ℕ
left_in [] = []
left_in (Left octets ∷ moves) = octets ++ left_in moves
left_in (move ∷ moves) = left_in moves

abbrev pub answers_in : List Move → List SentResponse
answers_in [] = []
answers_in (Answered sent ∷ moves) = sent ∷ answers_in moves
answers_in (move ∷ moves) = answers_in moves

-- ---- what is told

-- what a request asks
pub record RequestContent : Type 0 where
  pub method : List ℕ
  pub target : List ℕ
  pub fields : List Header
  pub body : List ℕ

abbrev pub asked_of : Request → RequestContent
asked_of r = record {
  method = r.method.items;
  target = r.target.items;
  fields = map field_in r.fields.items;
  body = r.body.items;
}

-- what is written: that a body may come; a response to a request; one to what is no request that is
-- taken, behind which the connection ends
pub data Item : Type 0 where
  Invited : Item
  To : RequestContent → SentResponse → List ℕ → Item
  Wrong : SentResponse → List ℕ → Item

abbrev pub octets_in : Item → List ℕ
octets_in Invited = invitation
octets_in (To asked sent octets) = octets
octets_in (Wrong sent octets) = octets

-- the octets are the response's, as `http1` plans it; of a HEAD without its body
abbrev pub IsItem : Item → Type 0
IsItem Invited = Unit {0}
IsItem (To asked sent octets) = (old new : Server)
    × IsWritten old sent.status sent.phrase sent.headers sent.body
    (is_head (method_kind asked.method)) octets new
IsItem (Wrong sent octets) = (head : Bool) × (old new : Server)
    × IsWritten old sent.status sent.phrase (closing true sent.headers) sent.body head octets new

abbrev pub asked_in : List Item → List RequestContent
asked_in [] = []
asked_in (To asked sent octets ∷ items) = asked ∷ asked_in items
asked_in (item ∷ items) = asked_in items

abbrev pub sent_in : List Item → List SentResponse
sent_in [] = []
sent_in (Invited ∷ items) = sent_in items
sent_in (To asked sent octets ∷ items) = sent ∷ sent_in items
sent_in (Wrong sent octets ∷ items) = sent ∷ sent_in items

-- nothing follows the response to what is wrong
abbrev pub IsInOrder : List Item → Type 0
IsInOrder [] = Unit {0}
IsInOrder (Wrong sent octets ∷ items) = items ≡ []
IsInOrder (item ∷ items) = IsInOrder items

-- ---- requests of the grammar of HTTP/1.1 (RFC 9112)

pub record IsRequest (asked : RequestContent) (m : Message) : Type 0 where
  pub method_is : (request_view m).method ≡ asked.method
  pub target_is : (request_view m).target ≡ asked.target
  pub fields_are : (request_view m).headers ≡ asked.fields
  pub body_is : (request_view m).body.bytes ≡ asked.body

abbrev pub AreRequests : List RequestContent → List Message → Type 0
AreRequests [] [] = Unit {0}
AreRequests (asked ∷ others) (m ∷ ms) = IsRequest asked m × AreRequests others ms
AreRequests asked ms = ⊥

-- these are the first requests of a stream
abbrev pub AreFirst : List RequestContent → List ℕ → Type 0
AreFirst asked stream = (ms : List Message) × (rest : List ℕ)
    × ReadsRequests limits stream ms rest × AreRequests asked ms

-- ---- the law

abbrev pub waiting : Option Request → List RequestContent
waiting (Some r) = asked_of r ∷ []
waiting None = []

-- the requests that were answered, and the one that waits for its response
abbrev pub with_waiting : List RequestContent → Connection → List RequestContent
with_waiting asked c = asked ++ waiting (request_in c)

-- What left and what waits is the text of the responses, in order, each but the last, which ends
-- the connection, to a request; those are the first requests of what came.
pub record IsFair (moves : List Move) (c : Connection) : Type 0 where
  pub items : List Item
  pub text : left_in moves ++ c.out ≡ flat_map octets_in items
  pub each : AllByRecursion IsItem items
  pub in_order : IsInOrder items
  pub sent : sent_in items ≡ answers_in moves
  pub first : AreFirst (with_waiting (asked_in items) c) (came_in moves)
