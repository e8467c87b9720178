-- What is known of a connection: which requests came before what it holds.
use Rattle.std.proofs.Common.{◌≡◌, ◌∙◌, refl, sym, ap, subst, ℕ, List, [], ◌∷◌, ◌++◌, map}
use Rattle.http1.specs.declared.conn.Reading.TheVariants as Reads
use Rattle.http1.specs.declared.conn.Writing.TheVariants as Phase
use Rattle.http1.specs.declared.decode.Decoder.{Decoder}
use Rattle.http1.specs.declared.server.Server.{Server}
use Rattle.http1.specs.Fields.{Header}
use Rattle.http1.specs.Server.{new_server}
use Rattle.http1.specs.ServerTrace.{Seen, SeenRequest, Trace, no_body}
use Rattle.ts_http.specs.Account.{RequestContent, asked_of}
use Rattle.ts_http.specs.Moves.{limits}
use Rattle.ts_http.specs.Request.{field_in}
use Rattle.ts_http.specs.declared.connection.Connection.{Connection}
use Rattle.ts_http.specs.declared.connection.Stage.{Stage}
use Rattle.ts_http.specs.declared.connection.Stage.TheVariants as stages
use Rattle.ts_http.specs.declared.request.Request.{Request}
use Rattle.ts_http.proofs.Streams.{Firsts}

-- a request as it is seen, whose body began with these octets and goes on as is seen later
abbrev pub seen_with : ℕ → List ℕ → List ℕ → List Header → List ℕ → Seen → SeenRequest
seen_with minor method target fields bytes later = record {
  method = method;
  target = target;
  minor = minor;
  headers = fields;
  body = record { bytes = bytes ++ later.body.bytes; trailers = later.body.trailers };
}

abbrev pub seen_in : ℕ → List ℕ → List ℕ → List Header → List ℕ → Seen → Seen
seen_in minor method target fields bytes later = record {
  body = no_body;
  requests = seen_with minor method target fields bytes later ∷ later.requests;
}

abbrev pub seen_of : ℕ → Request → Seen → SeenRequest
seen_of minor r later = seen_with minor r.method.items r.target.items (map field_in r.fields.items) r.body.items later

abbrev pub with_request : ℕ → Request → Seen → Seen
with_request minor r later = seen_in minor r.method.items r.target.items (map field_in r.fields.items) r.body.items later

-- no head has come
pub record IsBetween (came : List ℕ) (done : List RequestContent) (server : Server) (input : List ℕ) : Type 0 where
  pub server_is : server ≡ new_server limits
  pub firsts : Firsts done came input

-- the body of a request comes
pub record IsWithin (came : List ℕ) (done : List RequestContent) (r : Request) (server : Server) (input : List ℕ) : Type 0 where
  pub decoder : Decoder
  pub reading_is : server.reading ≡ Reads.Body decoder
  pub writing_is : server.writing ≡ Phase.Head
  pub limits_are : server.limits ≡ limits
  pub from : List ℕ
  pub before : Firsts done came from
  pub minor : ℕ
  pub goes : (more : List ℕ) (later : Seen) (rest : List ℕ) → Trace server (input ++ more) later rest → Trace (new_server limits) (from ++ more) (with_request minor r later) rest

-- a request has come whole
pub record IsHeld (came : List ℕ) (done : List RequestContent) (r : Request) (server : Server) (input : List ℕ) : Type 0 where
  pub reading_is : server.reading ≡ Reads.Done
  pub writing_is : server.writing ≡ Phase.Head
  pub limits_are : server.limits ≡ limits
  pub firsts : Firsts (done ++ asked_of r ∷ []) came input

-- nothing more is read
abbrev pub IsOver : List ℕ → List RequestContent → Type 0
IsOver came done = (rest : List ℕ) × Firsts done came rest

abbrev pub StandsAt : Stage → List ℕ → List RequestContent → Server → List ℕ → Type 0
StandsAt stages.Head came done server input = IsBetween came done server input
StandsAt (stages.Body r) came done server input = IsWithin came done r server input
StandsAt (stages.Whole r) came done server input = IsHeld came done r server input
StandsAt (stages.Wrong status head) came done server input = IsOver came done
StandsAt stages.Ended came done server input = IsOver came done

abbrev pub Stands : List ℕ → List RequestContent → Connection → Type 0
Stands came done c = StandsAt c.stage came done c.server c.input
