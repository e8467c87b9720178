-- What is written for a response.
use Rattle.std.specs.Prelude.{◌≡◌, ◌++◌, ℕ, Bool, true, false, List, [], ◌∷◌, length, Ok, None}
use Rattle.std.specs.Prelude.{codes}
use Rattle.http1.specs.declared.conn.BodySize.TheVariants.{Known}
use Rattle.http1.specs.declared.server.Server.{Server}
use Rattle.http1.specs.declared.conn.Writing.TheVariants.{Done}
use Rattle.http1.specs.Conn.{Plan}
use Rattle.http1.specs.Encoder.{AreAccepted, body_text, encoder_for}
use Rattle.http1.specs.Fields.{Header}
use Rattle.http1.specs.Head.{head_refusal, is_status_line, response_text}
use Rattle.http1.specs.Server.{cycle, response_plan}

-- the body, which is not written where the request was HEAD (RFC 9110 9.3.2)
abbrev pub pieces_of : Bool → List ℕ → List (List ℕ)
pieces_of true body = []
pieces_of false body = body ∷ []

-- the fields, with the one that says that the connection ends
abbrev pub closing : Bool → List Header → List Header
closing true headers = headers ++ (codes "connection", codes "close") ∷ []
closing false headers = headers

-- the server's side once a response was written by a plan
abbrev pub after_writing : Server → Plan → Server
after_writing s plan = cycle (record s {
  writing = Done;
  request = record (s.request) { keep_alive = plan.keep_alive; expects_continue = false };
})

-- the octets of a response: its head, by the plan of `http1`, and its body
pub record IsWritten (old : Server) (status : ℕ) (phrase : List ℕ) (headers : List Header)
    (body : List ℕ) (is_head : Bool) (octets : List ℕ) (new : Server) : Type 0 where
  pub plan : Plan
  pub planned : response_plan old status (Known (length body)) headers ≡ Ok plan
  pub line : head_refusal (is_status_line old.request.minor status phrase)
      (headers ++ plan.extra) ≡ None
  pub fit : AreAccepted (pieces_of is_head body) (encoder_for plan.framing) []
  pub octets_are : octets ≡ response_text old.request.minor status phrase
      (headers ++ plan.extra) ++ body_text (pieces_of is_head body) (encoder_for plan.framing) []
  pub after : new ≡ after_writing old plan
