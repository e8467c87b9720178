-- What octets begin with, by the calls of `http1` that read them.
use Rattle.std.specs.Prelude.{◌≡◌, ◌⊎◌, ◌≤◌, ℕ, Bool, true, false, List, length}
use Rattle.httparse.specs.Spans.{span_bytes}
use Rattle.httparse.specs.declared.spans.HeaderSpan.{HeaderSpan}
use Rattle.httparse.specs.declared.spans.RequestSpans.{RequestSpans}
use Rattle.httparse.specs.declared.spans.Span.{Span}
use Rattle.http1.specs.declared.conn.Event.{Event}
use Rattle.http1.specs.declared.conn.Event.TheVariants as events
use Rattle.http1.specs.declared.conn.Progress.{Progress}
use Rattle.http1.specs.declared.error.ReadError.{ReadError}
use Rattle.http1.specs.declared.server.Server.{Server}
use Rattle.http1.specs.ReadError.{status_of}
use Rattle.http1.specs.Server.{ServerReads, ServerRefuses, failed_server}
use Rattle.ts_http.specs.Request.{IsAt}
use Rattle.ts_http.specs.declared.looking.Head.{Head}
use Rattle.ts_http.specs.declared.looking.Head.TheVariants as heads
use Rattle.ts_http.specs.declared.looking.Piece.{Piece}
use Rattle.ts_http.specs.declared.looking.Piece.TheVariants as pieces
use Rattle.ts_http.specs.declared.request.Request.{Request}

-- a read of so many octets gave this
abbrev pub Reads : Server → List ℕ → List HeaderSpan → Server → ℕ → Event RequestSpans → Type 0
Reads old octets spans new count event =
    ServerReads old octets spans new (record { consumed = count; event = event })

-- the read failed: no more octets make a message of these within the limits, and 64 fields
pub record Refuses (old : Server) (octets : List ℕ) (new : Server) (status : ℕ) : Type 0 where
  pub error : ReadError
  pub refused : ServerRefuses old octets 64 error
  pub status_is : status ≡ status_of error
  pub after : new ≡ failed_server old error

-- the head of a request was read
pub record ReadsHead (old : Server) (octets : List ℕ) (new : Server) (r : Request) (count : ℕ)
    : Type 0 where
  pub spans : List HeaderSpan
  pub head : RequestSpans
  pub read : Reads old octets spans new count (events.Head head)
  pub is_at : IsAt octets spans head r
  pub within : count ≤ length octets

-- nothing was read where a head is due
pub record Starves (old : Server) (octets : List ℕ) (new : Server) (count : ℕ) : Type 0 where
  pub spans : List HeaderSpan
  pub read : Reads old octets spans new count events.NeedMore
  pub within : count ≤ length octets

-- octets of a body were read
pub record ReadsPiece (old : Server) (octets : List ℕ) (new : Server) (piece : List ℕ) (count : ℕ)
    : Type 0 where
  pub spans : List HeaderSpan
  pub span : Span
  pub read : Reads old octets spans new count (events.Data span)
  pub piece_is : piece ≡ span_bytes octets span
  pub within : count ≤ length octets

-- the end of a body was read
pub record ReadsEnd (old : Server) (octets : List ℕ) (new : Server) (count : ℕ) : Type 0 where
  pub spans : List HeaderSpan
  pub trailers : ℕ
  pub read : Reads old octets spans new count (events.End trailers)
  pub within : count ≤ length octets

-- what a read may give where a head is due, and within a body
abbrev pub is_of_head : Event RequestSpans → Bool
is_of_head (events.Head head) = true
is_of_head events.NeedMore = true
is_of_head other = false

abbrev pub is_of_body : Event RequestSpans → Bool
is_of_body (events.Data span) = true
is_of_body (events.End trailers) = true
is_of_body events.NeedMore = true
is_of_body other = false

-- the read gave something else, which is answered by 400
pub record IsElse (may : Event RequestSpans → Bool) (old : Server) (octets : List ℕ) (new : Server)
    (status : ℕ) : Type 0 where
  pub spans : List HeaderSpan
  pub count : ℕ
  pub event : Event RequestSpans
  pub read : Reads old octets spans new count event
  pub other : may event ≡ false
  pub status_is : status ≡ 400

-- what came is no message that is taken
abbrev pub IsNone : (Event RequestSpans → Bool) → Server → List ℕ → Server → ℕ → Type 0
IsNone may old octets new status =
    Refuses old octets new status ⊎ IsElse may old octets new status

abbrev pub FindsHead : Server → List ℕ → Server → Head → Type 0
FindsHead old octets new (heads.Came r count) = ReadsHead old octets new r count
FindsHead old octets new (heads.Nothing count) = Starves old octets new count
FindsHead old octets new (heads.Wrong status) = IsNone is_of_head old octets new status

abbrev pub FindsBody : Server → List ℕ → Server → Piece → Type 0
FindsBody old octets new (pieces.Came piece count) =
    ReadsPiece old octets new piece.items count
FindsBody old octets new (pieces.Nothing count) = Starves old octets new count
FindsBody old octets new (pieces.End count) = ReadsEnd old octets new count
FindsBody old octets new (pieces.Wrong status) = IsNone is_of_body old octets new status
