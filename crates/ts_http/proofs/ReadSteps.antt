-- A read leads from what is known of a connection to what is known then.
use Rattle.std.proofs.Common.{◌≡◌, ◌∙◌, refl, sym, ap, subst, subst₂, ℕ, List, [], ◌∷◌, ◌++◌, drop, map, true, false, cond, append_assoc, inl, inr}
use Rattle.std.proofs.lemmas.List.{append-nil}
use Rattle.httparse.specs.Spans.{span_bytes}
use Rattle.httparse.specs.declared.spans.HeaderSpan.{HeaderSpan}
use Rattle.httparse.specs.declared.spans.RequestSpans.{RequestSpans}
use Rattle.http1.specs.declared.conn.Event.{Event}
use Rattle.http1.specs.declared.conn.Event.TheVariants as events
use Rattle.http1.specs.declared.conn.Progress.{Progress}
use Rattle.http1.specs.declared.conn.Reading.{Reading}
use Rattle.http1.specs.declared.conn.Reading.TheVariants as Reads
use Rattle.http1.specs.declared.conn.Writing.{Writing}
use Rattle.http1.specs.declared.conn.Writing.TheVariants as Phase
use Rattle.http1.specs.declared.decode.Decoder.{Decoder}
use Rattle.http1.specs.declared.server.Server.{Server}
use Rattle.http1.specs.Conn.{ReadsPiece as PieceRead}
use Rattle.http1.specs.Decoder.{decoder_for}
use Rattle.http1.specs.Fields.{Header}
use Rattle.http1.specs.Message.{ReadsRequests, Request as Message}
use Rattle.http1.specs.Server.{ReadsAt, ReadsHead as HeadRead, ReadsInBody, ServerReads, TakesHead, after_informational, after_piece, cycle, cycle_at, new_server}
use Rattle.http1.specs.ServerTrace.{IsBetween as MayStop, Seen, SeenRequest, Trace, Writes, headers_at, informs, no_body, observe, reads, request_view, stops, writes}
use Rattle.http1.proofs.ServerTraceLemmas.{HasRequests, trace_reads_requests}
use Rattle.ts_http.specs.Account.{RequestContent, asked_of}
use Rattle.ts_http.specs.Looking.{ReadsEnd, ReadsHead, ReadsPiece, Starves}
use Rattle.ts_http.specs.Moves.{BeginsBody, FromBody, FromHead, Has, HasStarved, Invites, IsLonger, IsPast, IsRefused, TakesPiece, limits}
use Rattle.ts_http.specs.Request.{field_in}
use Rattle.ts_http.specs.declared.connection.Connection.{Connection}
use Rattle.ts_http.specs.declared.connection.Stage.{Stage}
use Rattle.ts_http.specs.declared.connection.Stage.TheVariants as stages
use Rattle.ts_http.specs.declared.request.Request.{Request}
use Rattle.ts_http.proofs.Standing.{IsBetween, IsHeld, IsOver, IsWithin, Stands, StandsAt, seen_in, seen_of, with_request}
use Rattle.ts_http.proofs.Streams.{First, Firsts, Sees, one_more}

abbrev Found : ℕ → Event RequestSpans → Progress RequestSpans
Found count event = record { consumed = count; event = event }

-- ---- by what the server was reading

at_head : (s t : Server) (octets : List ℕ) (spans : List HeaderSpan) (read : Progress RequestSpans)
    → s.reading ≡ Reads.Head → ServerReads s octets spans t read
    → HeadRead s octets spans t read.consumed read.event
at_head s t octets spans read is found = subst (λ (r : Reading). ReadsAt r s octets spans t read) is found

at_body : (s t : Server) (octets : List ℕ) (spans : List HeaderSpan) (read : Progress RequestSpans)
    (d : Decoder) → s.reading ≡ Reads.Body d → ServerReads s octets spans t read
    → ReadsInBody d s octets spans t read
at_body s t octets spans read d is found = subst (λ (r : Reading). ReadsAt r s octets spans t read) is found

cycle_idle : (s : Server) → s.writing ≡ Phase.Head → cycle s ≡ s
cycle_idle s is = subst (λ (w : Writing). cycle_at w s ≡ s) (sym is) refl

-- the server after a piece, while nothing is written
piece_after : (s t : Server) (octets : List ℕ) (next : Reading) → s.writing ≡ Phase.Head → t ≡ after_piece s octets next → (t.reading ≡ next) × (t.writing ≡ Phase.Head) × (t.limits ≡ s.limits)
piece_after s t octets next idle is =
    let same = is ∙ cycle_idle _ idle in
    (ap (λ (u : Server). u.reading) same, ap (λ (u : Server). u.writing) same ∙ idle, ap (λ (u : Server). u.limits) same)

-- a trace from what a read left, from before it
before_read : (s t : Server) (octets more : List ℕ) (spans : List HeaderSpan) (count : ℕ) (event : Event RequestSpans) (server : Server) (input : List ℕ) (later : Seen) (rest : List ℕ)
    → ServerReads s octets spans t (Found count event) → server ≡ t → input ≡ drop count octets
    → Trace server (input ++ more) later rest
    → Trace s (octets ++ more) (observe octets spans event later) rest
before_read s t octets more spans count event server input later rest found is_t is_input trace =
    reads s t octets more spans (Found count event) later rest found
    (subst₂ (λ (u : Server) (o : List ℕ). Trace u (o ++ more) later rest) is_t is_input trace)

-- ---- a head

-- what is known once a head was read, before the client is told that the body may come
record Begun (came : List ℕ) (done : List RequestContent) (r : Request) (s t : Server) (octets : List ℕ) (count : ℕ) : Type 0 where
  decoder : Decoder
  reading_is : t.reading ≡ Reads.Body decoder
  writing_is : t.writing ≡ Phase.Head
  limits_are : t.limits ≡ limits
  minor : ℕ
  goes : (more : List ℕ) (later : Seen) (rest : List ℕ) → Trace t (drop count octets ++ more) later rest → Trace s (octets ++ more) (with_request minor r later) rest

-- the parts of a head are those of the request
told_head : (octets : List ℕ) (spans : List HeaderSpan) (head : RequestSpans) (r : Request)
    (later : Seen) → r.method.items ≡ span_bytes octets head.method
    → r.target.items ≡ span_bytes octets head.path
    → map field_in r.fields.items ≡ headers_at octets spans head.headers → r.body.items ≡ [] → observe octets spans (events.Head head) later ≡ with_request head.version r later
told_head octets spans head r later method target fields body =
    λ i. seen_in head.version (sym method i) (sym target i) (sym fields i) (sym body i) later

begun : (came : List ℕ) (done : List RequestContent) (r : Request) (s t : Server) (octets : List ℕ)
    (count : ℕ) → s ≡ new_server limits → ReadsHead s octets t r count
    → Begun came done r s t octets count
begun came done r s t octets count fresh x =
    let takes : TakesHead s octets x.spans t count x.head = at_head s t octets x.spans (Found count (events.Head x.head)) (ap (λ (u : Server). u.reading) fresh) x.read in
    record {
      decoder = decoder_for s.limits takes.framing;
      reading_is = ap (λ (u : Server). u.reading) takes.next;
      writing_is = ap (λ (u : Server). u.writing) takes.next ∙ ap (λ (u : Server). u.writing) fresh;
      limits_are = ap (λ (u : Server). u.limits) takes.next ∙ ap (λ (u : Server). u.limits) fresh;
      minor = x.head.version;
      goes = λ more later rest trace.
          subst (λ (seen : Seen). Trace s (octets ++ more) seen rest) (told_head octets x.spans x.head r later x.is_at.method_is x.is_at.target_is x.is_at.fields_are x.is_at.body_is)
          (before_read s t octets more x.spans count (events.Head x.head) t (drop count octets) later rest x.read refl refl trace);
    }

-- the client was told, or not
invited : (a : Connection) (server : Server) (out : List ℕ) (stream : List ℕ) (later : Seen) (rest : List ℕ) → Invites a server out → Trace server stream later rest → Trace a.server stream later rest
invited a server out stream later rest (inl x) trace = subst (λ (u : Server). Trace u stream later rest) x.1 trace
invited a server out stream later rest (inr x) trace =
    writes a.server (after_informational a.server 100) stream later rest (informs 100) (subst (λ (u : Server). Trace u stream later rest) x.1 trace)

invited_reading : (a : Connection) (server : Server) (out : List ℕ) → Invites a server out → server.reading ≡ a.server.reading
invited_reading a server out (inl x) = ap (λ (u : Server). u.reading) x.1
invited_reading a server out (inr x) = ap (λ (u : Server). u.reading) x.1

invited_writing : (a : Connection) (server : Server) (out : List ℕ) → Invites a server out → server.writing ≡ a.server.writing
invited_writing a server out (inl x) = ap (λ (u : Server). u.writing) x.1
invited_writing a server out (inr x) = ap (λ (u : Server). u.writing) x.1

invited_limits : (a : Connection) (server : Server) (out : List ℕ) → Invites a server out → server.limits ≡ a.server.limits
invited_limits a server out (inl x) = ap (λ (u : Server). u.limits) x.1
invited_limits a server out (inr x) = ap (λ (u : Server). u.limits) x.1

-- the same, of a connection by its parts
stands_by : (came : List ℕ) (done : List RequestContent) (b : Connection) (server : Server)
    (stage : Stage) (input out : List ℕ) → Has b server stage input out
    → StandsAt stage came done server input → Stands came done b
stands_by came done b server stage input out has x =
    subst₂ (λ (u : Server) (o : List ℕ). StandsAt b.stage came done u o) (sym has.server_is) (sym has.input_is) (subst (λ (g : Stage). StandsAt g came done server input) (sym has.stage_is) x)

begins : (came : List ℕ) (done : List RequestContent) (a mid b : Connection) (r : Request) (t : Server) (count : ℕ) → IsBetween came done a.server a.input → Begun came done r a.server t a.input count
    → IsPast a.input a.out t count mid → BeginsBody mid r b → Stands came done b
begins came done a mid b r t count x y past (inl z) =
    let server = z.0 in
    let within : IsWithin came done r server mid.input = record {
      decoder = y.decoder;
      reading_is = invited_reading mid server z.1 z.2 ∙ (ap (λ (u : Server). u.reading) past.server_is ∙ y.reading_is);
      writing_is = invited_writing mid server z.1 z.2 ∙ (ap (λ (u : Server). u.writing) past.server_is ∙ y.writing_is);
      limits_are = invited_limits mid server z.1 z.2 ∙ (ap (λ (u : Server). u.limits) past.server_is ∙ y.limits_are);
      from = a.input;
      before = x.firsts;
      minor = y.minor;
      goes = λ more later rest trace.
          subst (λ (u : Server). Trace u (a.input ++ more) (with_request y.minor r later) rest) x.server_is
          (y.goes more later rest
          (subst₂ (λ (u : Server) (o : List ℕ). Trace u (o ++ more) later rest) past.server_is past.input_is (invited mid server z.1 (mid.input ++ more) later rest z.2 trace)));
    } in
    stands_by came done b server (stages.Body r) mid.input z.1 z.3 within
begins came done a mid b r t count x y past (inr z) = stands_by came done b mid.server (stages.Wrong z.0 _) mid.input mid.out z.2 (a.input, x.firsts)

-- nothing whole has come
starves_head : (s t : Server) (octets : List ℕ) (count : ℕ) → s.reading ≡ Reads.Head → Starves s octets t count → (t ≡ s) × (drop count octets ≡ octets)
starves_head s t octets count is x =
    let found = at_head s t octets x.spans (Found count events.NeedMore) is x.read in
    (found.1, ap (λ (n : ℕ). drop n octets) found.0)

pub read_head : (came : List ℕ) (done : List RequestContent) (a b : Connection) → IsBetween came done a.server a.input → FromHead a b → Stands came done b
read_head came done a b x (inl y) = begins came done a y.4 b y.0 y.1 y.2 x (begun came done y.0 a.server y.1 a.input y.2 x.server_is y.3) y.5 y.6
read_head came done a b x (inr (inl y)) =
    let starved = starves_head a.server y.0 a.input y.1 (ap (λ (u : Server). u.reading) x.server_is) y.2 in
    stands_by came done b y.0 stages.Head (drop y.1 a.input) a.out y.3
    (record { server_is = starved.0 ∙ x.server_is; firsts = subst (λ (o : List ℕ). Firsts done came o) (sym starved.1) x.firsts })
read_head came done a b x (inr (inr y)) = stands_by came done b y.0 (stages.Wrong y.1 false) a.input a.out y.3 (a.input, x.firsts)

-- ---- a body

-- a longer body
told_piece : (minor : ℕ) (r s : Request) (piece : List ℕ) (later : Seen) → IsLonger r piece s
    → with_request minor r (record later { body = record (later.body) { bytes = piece ++ later.body.bytes } }) ≡ with_request minor s later
told_piece minor r s piece later longer =
    let bytes : r.body.items ++ (piece ++ later.body.bytes) ≡ s.body.items ++ later.body.bytes =
    sym (append_assoc r.body.items piece later.body.bytes) ∙ ap (λ (o : List ℕ). o ++ later.body.bytes) (sym longer.body_is) in
    λ i. record {
      body = no_body;
      requests = record {
        method = (sym longer.method_is i).items;
        target = (sym longer.target_is i).items;
        minor = minor;
        headers = map field_in (sym longer.fields_are i).items;
        body = record { bytes = bytes i; trailers = later.body.trailers };
      } ∷ later.requests;
    }

takes : (came : List ℕ) (done : List RequestContent) (a mid b : Connection) (r : Request)
    (piece : List ℕ) (t : Server) (count : ℕ) → IsWithin came done r a.server a.input
    → ReadsPiece a.server a.input t piece count
    → IsPast a.input a.out t count mid → TakesPiece mid r piece b → Stands came done b
takes came done a mid b r piece t count x y past (inl z) =
    let body = at_body a.server t a.input y.spans (Found count (events.Data y.span)) x.decoder x.reading_is y.read in
    let found : PieceRead {H = RequestSpans} x.decoder a.input y.spans body.0 count (events.Data y.span) = body.1 in
    let after = piece_after a.server t a.input body.0 x.writing_is body.2 in
    let within : IsWithin came done z.0 mid.server mid.input = record {
      decoder = found.0;
      reading_is = ap (λ (u : Server). u.reading) past.server_is ∙ (after.0 ∙ found.1);
      writing_is = ap (λ (u : Server). u.writing) past.server_is ∙ after.1;
      limits_are = ap (λ (u : Server). u.limits) past.server_is ∙ (after.2 ∙ x.limits_are);
      from = x.from;
      before = x.before;
      minor = x.minor;
      goes = λ more later rest trace.
          let seen = observe a.input y.spans (events.Data y.span) later in
          let traced = before_read a.server t a.input more y.spans count (events.Data y.span) mid.server mid.input later rest y.read past.server_is past.input_is trace in
          let same : with_request x.minor r seen ≡ with_request x.minor z.0 later =
          ap (λ (o : List ℕ). with_request x.minor r (record later { body = record (later.body) { bytes = o ++ later.body.bytes } })) (sym y.piece_is) ∙ told_piece x.minor r z.0 piece later z.1 in
          subst (λ (v : Seen). Trace (new_server limits) (x.from ++ more) v rest) same (x.goes more seen rest traced);
    } in
    stands_by came done b mid.server (stages.Body z.0) mid.input mid.out z.2 within
takes came done a mid b r piece t count x y past (inr z) = stands_by came done b mid.server (stages.Wrong 413 _) mid.input mid.out z.1 (x.from, x.before)

starves : (came : List ℕ) (done : List RequestContent) (r : Request) (a b : Connection) → IsWithin came done r a.server a.input → HasStarved a (stages.Body r) b → Stands came done b
starves came done r a b x y =
    let t = y.0 in
    let count = y.1 in
    let body = at_body a.server t a.input y.2.spans (Found count events.NeedMore) x.decoder x.reading_is y.2.read in
    let found : PieceRead {H = RequestSpans} x.decoder a.input y.2.spans body.0 count events.NeedMore = body.1 in
    let after = piece_after a.server t a.input body.0 x.writing_is body.2 in
    let within : IsWithin came done r t (drop count a.input) = record {
      decoder = found.0;
      reading_is = after.0 ∙ found.1;
      writing_is = after.1;
      limits_are = after.2 ∙ x.limits_are;
      from = x.from;
      before = x.before;
      minor = x.minor;
      goes = λ more later rest trace. x.goes more later rest (before_read a.server t a.input more y.2.spans count events.NeedMore t (drop count a.input) later rest y.2.read refl refl trace);
    } in
    stands_by came done b t (stages.Body r) (drop count a.input) a.out y.3 within

-- the end of the body: the request was read whole
ends : (came : List ℕ) (done : List RequestContent) (r : Request) (a b : Connection) (t : Server) (count : ℕ) → IsWithin came done r a.server a.input → ReadsEnd a.server a.input t count
    → Has b t (stages.Whole r) (drop count a.input) a.out → Stands came done b
ends came done r a b t count x y has =
    let event = events.End y.trailers in
    let body = at_body a.server t a.input y.spans (Found count event) x.decoder x.reading_is y.read in
    let found : PieceRead {H = RequestSpans} x.decoder a.input y.spans body.0 count event = body.1 in
    let after = piece_after a.server t a.input body.0 x.writing_is body.2 in
    let done_reading : t.reading ≡ Reads.Done = after.0 ∙ found.0 in
    let last : Seen = record { body = no_body; requests = [] } in
    let seen = observe a.input y.spans event last in
    let held : IsHeld came done r t (drop count a.input) = record {
      reading_is = done_reading;
      writing_is = after.1;
      limits_are = after.2 ∙ x.limits_are;
      firsts = λ more.
          let stream = drop count a.input ++ more in
          let stopped : Trace t stream last stream = stops t stream (subst MayStop (sym done_reading) tt) in
          let traced = before_read a.server t a.input more y.spans count event t (drop count a.input) last stream y.read refl refl stopped in
          let whole : HasRequests limits (x.from ++ more) (with_request x.minor r seen).requests
          stream = trace_reads_requests limits (x.from ++ more) (with_request x.minor r seen)
          stream (x.goes more seen stream traced) in
          let sees : Sees (seen_of x.minor r seen) (asked_of r) = record { method_is = refl; target_is = refl; fields_are = refl; body_is = append-nil r.body.items } in
          one_more done (asked_of r) came x.from (drop count a.input) more (seen_of x.minor r seen) whole.0 (x.before more) whole.1 whole.2 sees;
    } in
    stands_by came done b t (stages.Whole r) (drop count a.input) a.out has held

pub read_body : (came : List ℕ) (done : List RequestContent) (r : Request) (a b : Connection) → IsWithin came done r a.server a.input → FromBody r a b → Stands came done b
read_body came done r a b x (inl y) = takes came done a y.4 b r y.0 y.1 y.2 x y.3 y.5 y.6
read_body came done r a b x (inr (inl y)) = ends came done r a b y.0 y.1 x y.2 y.3
read_body came done r a b x (inr (inr (inl y))) = starves came done r a b x y
read_body came done r a b x (inr (inr (inr y))) = stands_by came done b y.0 (stages.Wrong y.1 _) a.input a.out y.3 (x.from, x.before)
