-- What a read gave, by its event.
use Rattle.std.proofs.Common.{◌≡◌, ℕ, List, false, refl, subst}
use Rattle.httparse.specs.declared.spans.HeaderSpan.{HeaderSpan}
use Rattle.httparse.specs.declared.spans.RequestSpans.{RequestSpans}
use Rattle.httparse.specs.declared.spans.Span.{Span}
use Rattle.http1.specs.declared.conn.Event.{Event}
use Rattle.http1.specs.declared.conn.Event.TheVariants as events
use Rattle.http1.specs.declared.conn.Progress.{Progress}
use Rattle.http1.specs.declared.server.Server.{Server}
use Rattle.http1.specs.Server.{ServerReads}
use Rattle.ts_http.specs.Looking.{Reads, is_of_body, is_of_head}

pub as_read : (old new : Server) (octets : List ℕ) (spans : List HeaderSpan)
    (read : Progress RequestSpans) (event : Event RequestSpans)
    → ServerReads old octets spans new read → read.event ≡ event
    → Reads old octets spans new read.consumed event
as_read old new octets spans read event reads is = subst (λ (e : Event RequestSpans). Reads old octets spans new read.consumed e) is reads

-- an event that is none of those
pub not_of_head : (event : Event RequestSpans) → (event ≡ events.NeedMore → ⊥)
    → ((head : RequestSpans) → event ≡ events.Head head → ⊥) → is_of_head event ≡ false
not_of_head (events.Head head) no_need no_head = absurd (no_head head refl)
not_of_head events.NeedMore no_need no_head = absurd (no_need refl)
not_of_head other no_need no_head = refl

pub not_of_body : (event : Event RequestSpans) → (event ≡ events.NeedMore → ⊥)
    → ((span : Span) → event ≡ events.Data span → ⊥)
    → ((trailers : ℕ) → event ≡ events.End trailers → ⊥) → is_of_body event ≡ false
not_of_body (events.Data span) no_need no_data no_end = absurd (no_data span refl)
not_of_body (events.End trailers) no_need no_data no_end = absurd (no_end trailers refl)
not_of_body events.NeedMore no_need no_data no_end = absurd (no_need refl)
not_of_body other no_need no_data no_end = refl
