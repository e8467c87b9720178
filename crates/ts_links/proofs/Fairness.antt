-- What holds of all connections after each move.
use Rattle.std.proofs.Common.{◌≡◌, ◌∙◌, ℕ, Bool, true, false, List, [], ◌∷◌, ◌++◌, get_or, Option}
use Rattle.std.proofs.Common.{Some, None, slice_get, slice_set, nat_eq, if◌then◌else◌, refl, sym}
use Rattle.std.proofs.Common.{ap, subst, inl, inr, append_assoc}
use Rattle.std.specs.List.{flat_map, All, AllByRecursion}
use Rattle.std.proofs.lemmas.Bool.{eqb-true}
use Rattle.std.proofs.lemmas.Grind.{flat_map-append}
use Rattle.std.proofs.lemmas.List.{append-nil}
use Rattle.std.proofs.lemmas.Option.{slice_get_within, get_or_from_slice_get}
use Rattle.ts_wire.specs.Frames.{frame_encoding, FrameFits}
use Rattle.ts_wire.specs.declared.fault.FrameFault.{FrameFault}
use Rattle.ts_wire.specs.declared.frame.Frame.{Frame}
use Rattle.ts_serve.specs.Requests.{is_request}
use Rattle.ts_serve.specs.Stream.{Stops, StopsIf}
use Rattle.ts_serve.specs.Text.{fault_frames, text}
use Rattle.ts_serve.proofs.Writing.{text-append, text-nil}
use Rattle.ts_links.specs.Account.{Account, IsFair, account_after, note_move, nothing}
use Rattle.ts_links.specs.Events.{Change, Changes, Event}
use Rattle.ts_links.specs.Moves.{Came, Closed, HasRefused, HasTaken, IsUnused, Left, Makes, Move, Opened, Puts, Refused, Took, is_open}
use Rattle.ts_links.specs.declared.link.Link.{Link}
use Rattle.ts_links.specs.declared.link.Stage.{Stage}
use Rattle.ts_links.specs.declared.link.Stage.TheVariants as stages
use Rattle.ts_links.proofs.Slots.{apart_of, get_other, get_set}

came_more : (came flat held cut piece next : List ℕ) → came ≡ flat ++ (held ++ cut) → cut ≡ [] → next ≡ held ++ piece → came ++ piece ≡ flat ++ (next ++ [])
came_more came flat held cut piece next is none more = simp (is, none, more, append_assoc, append-nil)

took_one : (came : List ℕ) (requests : List Frame) (request : Frame) (held cut next : List ℕ)
    → came ≡ flat_map frame_encoding requests ++ (held ++ cut) → cut ≡ []
    → held ≡ frame_encoding request ++ next
    → came ≡ flat_map frame_encoding (requests ++ request ∷ []) ++ (next ++ [])
took_one came requests request held cut next is none first =
    let e : flat_map frame_encoding (requests ++ request ∷ []) ≡ flat_map frame_encoding requests
    ++ frame_encoding request = flat_map-append frame_encoding requests (request ∷ [])
    ∙ ap (λ l. flat_map frame_encoding requests ++ l) (append-nil (frame_encoding request)) in
    is ∙ ap (λ l. flat_map frame_encoding requests ++ (held ++ l)) none ∙ ap (λ l. flat_map frame_encoding requests ++ l) (append-nil held ∙ first)
    ∙ sym (append_assoc (flat_map frame_encoding requests) (frame_encoding request) next)
    ∙ ap (λ l. l ++ next) (sym e)
    ∙ ap (λ l. flat_map frame_encoding (requests ++ request ∷ []) ++ l) (sym (append-nil next))

more_waits : (said left waits lost octets next : List ℕ) → said ≡ left ++ (waits ++ lost) → lost ≡ [] → next ≡ waits ++ octets → said ++ octets ≡ left ++ (next ++ [])
more_waits said left waits lost octets next is none more = simp (is, none, more, append_assoc, append-nil)

more_lost : (said left waits lost octets next : List ℕ) → said ≡ left ++ (waits ++ lost) → lost ≡ [] → next ≡ waits → said ++ octets ≡ left ++ (next ++ octets)
more_lost said left waits lost octets next is none same = simp (is, none, same, append_assoc, append-nil)

left_some : (said left waits lost octets next : List ℕ) → said ≡ left ++ (waits ++ lost) → waits ≡ octets ++ next → said ≡ (left ++ octets) ++ (next ++ lost)
left_some said left waits lost octets next is front = simp (is, front, append_assoc)

all_one : (P : Frame → Type 0) (requests : List Frame) (request : Frame) → AllByRecursion P requests → P request → AllByRecursion P (requests ++ request ∷ [])
all_one P [] request all one = (one, tt)
all_one P (r ∷ rs) request all one = (all.0, all_one P rs request all.1 one)

-- the text that an account has answered so far
abbrev said : Account → List ℕ
said A = text (A.answers ++ fault_frames A.fault)

-- with no fault, more answers are more text
said_more : (answers more : List Frame) (fault : Option FrameFault) → fault ≡ None → text ((answers ++ more) ++ fault_frames fault) ≡ text (answers ++ fault_frames fault) ++ text more
said_more answers more fault none =
    ap (λ (f : Option FrameFault). text ((answers ++ more) ++ fault_frames f)) none ∙ text-nil (answers ++ more) ∙ text-append answers more
    ∙ ap (λ l. l ++ text more) (sym (ap (λ (f : Option FrameFault). text (answers ++ fault_frames f)) none ∙ text-nil answers))

said_fault : (answers : List Frame) (fault : Option FrameFault) (stop : FrameFault) → fault ≡ None
    → text (answers ++ fault_frames (Some stop)) ≡ text (answers ++ fault_frames fault)
    ++ text (fault_frames (Some stop))
said_fault answers fault stop none =
    text-append answers (fault_frames (Some stop)) ∙ ap (λ l. l ++ text (fault_frames (Some stop))) (sym (ap (λ (f : Option FrameFault). text (answers ++ fault_frames f)) none ∙ text-nil answers))

is_open_open : (s : Stage) → s ≡ stages.Open → is_open s ≡ true
is_open_open s is = ap is_open is

closed_open : {P : Type 0} (s : Stage) → s ≡ stages.Closed → is_open s ≡ true → P
closed_open s closed still = let e : false ≡ true = sym (ap is_open closed) ∙ still in absurd (cc e)

closed_goes : {P : Type 0} (s : Stage) → s ≡ stages.Closed → s ≡ stages.Open → P
closed_goes s closed still = closed_open s closed (is_open_open s still)

refused_goes : {P : Type 0} (s : Stage) → s ≡ stages.Refused → s ≡ stages.Open → P
refused_goes s a b = let e : stages.Refused ≡ stages.Open = sym a ∙ b in absurd (cc e)

-- what is lost of an answer, and what waits
abbrev lost_of : (a b : Link) (stage : Stage) (octets : List ℕ) → Puts a b stage octets → List ℕ
lost_of a b stage octets (inl put) = []
lost_of a b stage octets (inr lost) = octets

put_text : (a b : Link) (stage : Stage) (octets before left lost : List ℕ)
    (p : Puts a b stage octets) → before ≡ left ++ (a.waits ++ lost) → lost ≡ [] → before
    ++ octets ≡ left ++ (b.waits ++ lost_of a b stage octets p)
put_text a b stage octets before left lost (inl put) is none = more_waits before left a.waits lost octets b.waits is none put.1
put_text a b stage octets before left lost (inr gone) is none = more_lost before left a.waits lost octets b.waits is none gone.1

put_whole : (a b : Link) (stage : Stage) (octets : List ℕ) (p : Puts a b stage octets) → is_open b.stage ≡ true → lost_of a b stage octets p ≡ []
put_whole a b stage octets (inl put) still = refl
put_whole a b stage octets (inr gone) still = closed_open b.stage gone.0 still

put_open : {P : Type 0} (a b : Link) (octets : List ℕ) → Puts a b stages.Refused octets → b.stage ≡ stages.Open → P
put_open a b octets (inl put) still = refused_goes b.stage put.0 still
put_open a b octets (inr gone) still = closed_goes b.stage gone.0 still

fair_took : (A : Account) (a b : Link) (request : Frame) (answers : List Frame) (now : ℕ) → HasTaken a b request answers now → IsFair A a → IsFair (note_move A (Took request answers)) b
fair_took A a b request answers now h f =
    let none = f.whole (is_open_open a.stage h.was) in
    let no_fault = f.goes_on h.was in
    record {
      cut = [];
      lost = lost_of a b stages.Open (text answers) h.puts;
      asked = took_one A.came A.requests request a.held f.cut b.held f.asked none.0 h.held;
      each = all_one FrameFits A.requests request f.each h.fits;
      asks = all_one (λ f. is_request f ≡ true) A.requests request f.asks h.asks;
      stops = subst (λ (x : Option FrameFault). StopsIf x (b.held ++ [])) (sym no_fault) tt;
      answered = said_more A.answers answers A.fault no_fault ∙ put_text a b stages.Open (text answers) (said A) A.left f.lost h.puts f.answered none.1;
      goes_on = λ still. no_fault;
      whole = λ still. (refl, put_whole a b stages.Open (text answers) h.puts still);
    }

fair_refused : (A : Account) (a b : Link) (fault : FrameFault) (now : ℕ) → HasRefused a b fault now → IsFair A a → IsFair (note_move A (Refused fault)) b
fair_refused A a b fault now h f =
    let none = f.whole (is_open_open a.stage h.was) in
    let no_fault = f.goes_on h.was in
    let octets = text (fault_frames (Some fault)) in
    record {
      cut = [];
      lost = lost_of a b stages.Refused octets h.puts;
      asked = f.asked ∙ ap (λ l. flat_map frame_encoding A.requests ++ (a.held ++ l)) none.0 ∙ ap (λ l. flat_map frame_encoding A.requests ++ (l ++ [])) (sym h.held);
      each = f.each;
      asks = f.asks;
      stops = subst (Stops fault) (sym (append-nil b.held ∙ h.held)) h.stops;
      answered = said_fault A.answers A.fault fault no_fault ∙ put_text a b stages.Refused octets (said A) A.left f.lost h.puts f.answered none.1;
      goes_on = λ still. put_open a b octets h.puts still;
      whole = λ still. (refl, put_whole a b stages.Refused octets h.puts still);
    }

pub fair_move : (A : Account) (a b : Link) (move : Move) (now : ℕ) → Makes a move now b → IsFair A a → IsFair (note_move A move) b
fair_move A a b Opened now m f = record {
  cut = [];
  lost = [];
  asked = rw m.held refl;
  each = tt;
  asks = tt;
  stops = tt;
  answered = rw m.waits refl;
  goes_on = λ still. refl;
  whole = λ still. (refl, refl);
}
fair_move A a b (Came piece) now m f =
    let none = f.whole (is_open_open a.stage m.was) in
    let no_fault = f.goes_on m.was in
    record {
      cut = [];
      lost = [];
      asked = came_more A.came (flat_map frame_encoding A.requests) a.held f.cut piece b.held f.asked none.0 m.held;
      each = f.each;
      asks = f.asks;
      stops = subst (λ (x : Option FrameFault). StopsIf x (b.held ++ [])) (sym no_fault) tt;
      answered = rw m.waits (subst (λ l. said A ≡ A.left ++ (a.waits ++ l)) none.1 f.answered);
      goes_on = λ still. no_fault;
      whole = λ still. (refl, refl);
    }
fair_move A a b (Took request answers) now m f = fair_took A a b request answers now m f
fair_move A a b (Refused fault) now m f = fair_refused A a b fault now m f
fair_move A a b (Left octets) now m f = record {
  cut = f.cut;
  lost = f.lost;
  asked = rw m.held f.asked;
  each = f.each;
  asks = f.asks;
  stops = rw m.held f.stops;
  answered = left_some (said A) A.left a.waits f.lost octets b.waits f.answered m.waits;
  goes_on = λ still. f.goes_on (sym m.still ∙ still);
  whole = λ still. f.whole (ap is_open (sym m.still) ∙ still);
}
fair_move A a b Closed now m f = record {
  cut = a.held ++ f.cut;
  lost = a.waits ++ f.lost;
  asked = rw m.held f.asked;
  each = f.each;
  asks = f.asks;
  stops = rw m.held f.stops;
  answered = rw m.waits f.answered;
  goes_on = λ still. closed_goes b.stage m.closed still;
  whole = λ still. closed_open b.stage m.closed still;
}

-- a connection at this slot has a fair account
abbrev pub IsFairAt : ℕ → Account → List Link → Type 0
IsFairAt slot A links = (link : Link) → slice_get links slot ≡ Some link → IsFair A link

fair_one : (slot : ℕ) (A : Account) (links others : List Link) (event : Event) → Change links event others → IsFairAt slot A links
    → (same : Bool) → nat_eq event.slot slot ≡ same → IsFairAt slot (if same then note_move A event.move else A) others
fair_one slot A links others event step fair true same link is =
    let e : event.slot ≡ slot = eqb-true event.slot slot same in
    let here : slice_get (slice_set links event.slot step.after) event.slot ≡ Some link =
    subst (λ (k : ℕ). slice_get (slice_set links event.slot step.after) k ≡ Some link) (sym e)
    (rw (sym step.is) is) in
    let l : link ≡ step.after = get_set links event.slot step.before step.after link step.was here in
    let old : IsFair A step.before = fair step.before (subst (λ (k : ℕ). slice_get links k ≡ Some step.before) e step.was) in
    subst (λ (k : Link). IsFair (note_move A event.move) k) (sym l) (fair_move A step.before step.after event.move event.at step.makes old)
fair_one slot A links others event step fair false other link is =
    fair link (get_other links event.slot slot step.after link (apart_of event.slot slot other) (rw (sym step.is) is))

pub fair_changes : (slot : ℕ) (events : List Event) (A : Account) (links others : List Link) → IsFairAt slot A links → Changes links events others → IsFairAt slot (account_after slot A events) others
fair_changes slot [] A links others fair changes link is = fair link (rw (sym changes) is)
fair_changes slot (event ∷ events) A links others fair changes link is =
    fair_changes slot events (if nat_eq event.slot slot then note_move A event.move else A) changes.0 others
    (fair_one slot A links changes.0 event changes.1 fair (nat_eq event.slot slot) refl) changes.2 link is

-- nothing has happened on a table of unused connections
pub fair_start : (links : List Link) → All IsUnused links → (slot : ℕ) → IsFairAt slot nothing links
fair_start links unused slot link is =
    let u : IsUnused (get_or links slot link) = unused slot link (slice_get_within links slot link is) in
    let v : IsUnused link = subst (λ (l : Link). IsUnused l) (get_or_from_slice_get links slot link link is) u in
    record {
      cut = [];
      lost = [];
      asked = rw v.held refl;
      each = tt;
      asks = tt;
      stops = tt;
      answered = rw v.waits refl;
      goes_on = λ still. refl;
      whole = λ still. (refl, refl);
    }
