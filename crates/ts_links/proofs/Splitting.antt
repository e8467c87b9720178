-- The requests that were taken are those among the frames that the octets split into.
use Rattle.std.proofs.Common.{◌≡◌, ◌∙◌, refl, ap, ℕ, true, List, [], ◌∷◌, ◌++◌, length, take, Option, Some, None, IfSome}
use Rattle.std.specs.List.{AllByRecursion}
use Rattle.std.proofs.lemmas.List.{append-nil}
use Rattle.ts_wire.specs.Stream.{Splits}
use Rattle.ts_wire.specs.declared.fault.FrameFault.{FrameFault}
use Rattle.ts_wire.specs.declared.frame.Frame.{Frame}
use Rattle.ts_serve.specs.Requests.{is_request}
use Rattle.ts_serve.specs.Stream.{StopsIf, fault_of, requests_of}
use Rattle.ts_serve.proofs.Exact.{all_front, fault-append, requests-append, stopped}
use Rattle.ts_links.specs.Account.{Account, IsFair, IsFront}
use Rattle.ts_links.specs.declared.link.Link.{Link}

front_of : (taken more : List Frame) → take (length taken) (taken ++ more) ≡ taken
front_of [] more = refl
front_of (f ∷ fs) more = ap (λ l. f ∷ l) (front_of fs more)

if_stopped : (requests frames more : List Frame) (rest : List ℕ) (fault x : Option FrameFault)
    → frames ≡ requests ++ more → AllByRecursion (λ f. is_request f ≡ true) requests
    → Splits rest more fault → StopsIf x rest
    → IfSome x (λ stop. (requests_of frames ≡ requests) × (fault_of frames fault ≡ Some stop))
if_stopped requests frames more rest fault None is asks splits s = tt
if_stopped requests frames more rest fault (Some stop) is asks splits s =
    let e = stopped more rest fault stop s splits in (
      ap requests_of is ∙ requests-append requests more asks ∙ ap (λ l. requests ++ l) e.none ∙ append-nil requests,
      ap (λ l. fault_of l fault) is ∙ fault-append requests more fault asks ∙ e.stops,
    )

pub split_front : (A : Account) (link : Link) (frames : List Frame) (fault : Option FrameFault) → IsFair A link → Splits A.came frames fault → IsFront A frames fault
split_front A link frames fault f splits =
    let b = all_front A.requests frames (link.held ++ f.cut) A.came fault f.each f.asked splits in
    record {
      front = ap (λ l. take (length A.requests) (requests_of l)) b.is ∙ ap (take (length A.requests)) (requests-append A.requests b.more f.asks) ∙ front_of A.requests (requests_of b.more);
      all = if_stopped A.requests frames b.more (link.held ++ f.cut) fault A.fault b.is f.asks b.splits f.stops;
    }
