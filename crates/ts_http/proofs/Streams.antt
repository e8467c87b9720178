-- Requests at the front of a stream.
use Rattle.std.proofs.Common.{◌≡◌, ◌∙◌, refl, sym, ap, subst, subst₂, ℕ, List, [], ◌∷◌, ◌++◌, map, append_assoc}
use Rattle.std.proofs.lemmas.List.{append-nil}
use Rattle.http1.specs.Message.{ReadsRequests, Request as Message}
use Rattle.http1.specs.ServerTrace.{SeenRequest, request_view}
use Rattle.ts_http.specs.Account.{AreFirst, AreRequests, RequestContent, IsRequest}
use Rattle.ts_http.specs.Moves.{limits}

-- whatever comes yet, the stream begins with these requests, and the rest follows
pub record First (asked : List RequestContent) (stream rest more : List ℕ) : Type 0 where
  pub ms : List Message
  pub reads : ReadsRequests limits (stream ++ more) ms (rest ++ more)
  pub are : AreRequests asked ms

abbrev pub Firsts : List RequestContent → List ℕ → List ℕ → Type 0
Firsts asked stream rest = (more : List ℕ) → First asked stream rest more

pub firsts_none : Firsts [] [] []
firsts_none more = record { ms = []; reads = refl; are = tt }

-- more has come
pub firsts_came : (asked : List RequestContent) (stream rest piece : List ℕ) → Firsts asked stream rest → Firsts asked (stream ++ piece) (rest ++ piece)
firsts_came asked stream rest piece firsts more =
    let f = firsts (piece ++ more) in
    record {
      ms = f.ms;
      reads = subst₂ (λ (s r : List ℕ). ReadsRequests limits s f.ms r) (sym (append_assoc stream piece more)) (sym (append_assoc rest piece more)) f.reads;
      are = f.are;
    }

-- what came so far begins with these
pub are_first : (asked : List RequestContent) (stream rest : List ℕ) → Firsts asked stream rest → AreFirst asked stream
are_first asked stream rest firsts =
    let f = firsts [] in (f.ms, rest, subst₂ (λ (s r : List ℕ). ReadsRequests limits s f.ms r) (append-nil stream) (append-nil rest) f.reads, f.are)

joined : (stream mid rest : List ℕ) (ms ns : List Message) → ReadsRequests limits stream ms mid → ReadsRequests limits mid ns rest → ReadsRequests limits stream (ms ++ ns) rest
joined stream mid rest [] ns x y = subst (λ (s : List ℕ). ReadsRequests limits s ns rest) (sym x) y
joined stream mid rest (m ∷ ms) ns x y = (x.0, x.1, joined x.0 mid rest ms ns x.2 y)

are_joined : (asked others : List RequestContent) (ms ns : List Message) → AreRequests asked ms → AreRequests others ns → AreRequests (asked ++ others) (ms ++ ns)
are_joined [] others [] ns x y = y
are_joined [] others (m ∷ ms) ns x y = absurd x
are_joined (a ∷ asked) others [] ns x y = absurd x
are_joined (a ∷ asked) others (m ∷ ms) ns x y = (x.0, are_joined asked others ms ns x.1 y)

-- a request that was seen asks this
pub record Sees (seen : SeenRequest) (asked : RequestContent) : Type 0 where
  pub method_is : seen.method ≡ asked.method
  pub target_is : seen.target ≡ asked.target
  pub fields_are : seen.headers ≡ asked.fields
  pub body_is : seen.body.bytes ≡ asked.body

head_of : SeenRequest → List SeenRequest → SeenRequest
head_of other [] = other
head_of other (x ∷ xs) = x

one_message : (ms : List Message) (seen : SeenRequest) (asked : RequestContent) → map request_view ms ≡ seen ∷ [] → Sees seen asked → AreRequests (asked ∷ []) ms
one_message [] seen asked is sees = cc
one_message (m ∷ []) seen asked is sees =
    let same : request_view m ≡ seen = cc in (
      record {
        method_is = ap (λ (s : SeenRequest). s.method) same ∙ sees.method_is;
        target_is = ap (λ (s : SeenRequest). s.target) same ∙ sees.target_is;
        fields_are = ap (λ (s : SeenRequest). s.headers) same ∙ sees.fields_are;
        body_is = ap (λ (s : SeenRequest). s.body.bytes) same ∙ sees.body_is;
      },
      tt,
    )
one_message (m ∷ n ∷ ms) seen asked is sees = cc

-- one request more was seen
pub one_more : (asked : List RequestContent) (one : RequestContent) (stream from rest more : List ℕ) (seen : SeenRequest) (ms : List Message) → First asked stream from more
    → ReadsRequests limits (from ++ more) ms (rest ++ more) → map request_view ms ≡ seen ∷ [] → Sees seen one → First (asked ++ one ∷ []) stream rest more
one_more asked one stream from rest more seen ms before reads views sees = record {
  ms = before.ms ++ ms;
  reads = joined (stream ++ more) (from ++ more) (rest ++ more) before.ms ms before.reads reads;
  are = are_joined asked (one ∷ []) before.ms ms before.are (one_message ms seen one views sees);
}
