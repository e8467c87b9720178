-- What a sieve has handed on after one more call.
use Rattle.std.proofs.Common.{◌≡◌, ◌≢◌, ◌⊎◌, ◌≤◌, ◌<◌, ◌+◌, ◌-◌, ◌∙◌, ℕ, List, [], ◌∷◌, ◌++◌}
use Rattle.std.proofs.Common.{length, take, true, refl, sym, ap, subst, arith, inl, inr}
use Rattle.std.proofs.Common.{append_assoc, length-append, Result, Ok, Err, Option, Some, None, OnOk}
use Rattle.std.specs.declared.vec.Vec.{Vec}
use Rattle.std.specs.declared.alloc.AllocError.{AllocError}
use Rattle.std.specs.declared.alloc.Global.{Global}
use Rattle.std.specs.List.{AllByRecursion, concat}
use Rattle.std.proofs.lemmas.List.{append-nil, take_all, take-append-le}
use Rattle.std.proofs.lemmas.List.Folds.{concat-append}
use Rattle.std.proofs.Math.Seq.{take-append_seam}
use Rattle.ts_access.specs.Roles.{may, may_ask}
use Rattle.ts_access.specs.Frames.{Heads, IsAllowed, IsFaulty, IsForbidden, IsPart}
use Rattle.ts_access.specs.Frames.{Says}
use Rattle.ts_access.specs.Sifting.{Came, Goes, Hands, Passes, Sifts, Starts}
use Rattle.ts_access.specs.Sifting.{handed_by, held_after, refusal}
use Rattle.ts_access.specs.Sifted.{Admits, IsSieve, output_in}
use Rattle.ts_access.specs.declared.key.Role.{Role}
use Rattle.ts_access.specs.declared.key.Role.TheVariants.{Peer, Admin, Reader}
use Rattle.ts_access.specs.declared.sieve.Phase.{Phase}
use Rattle.ts_access.specs.declared.sieve.Phase.TheVariants as phases
use Rattle.ts_access.specs.declared.sieve.Sieve.{Sieve}

-- ---- eight octets say whether a frame may be asked

ask_front : (role : Role) (node kind from to : ℕ) (fields more : List ℕ)
    → may_ask role node kind (from ∷ to ∷ (fields ++ more))
    ≡ may_ask role node kind (from ∷ to ∷ fields)
ask_front (Peer peer) node kind from to fields more = refl
ask_front Admin node kind from to fields more = refl
ask_front Reader node kind from to fields more = refl

may_front : (role : Role) (node : ℕ) (front more : List ℕ) → 8 ≤ length front
    → may role node (front ++ more) ≡ may role node front
may_front role node (a ∷ b ∷ c ∷ d ∷ e ∷ kind ∷ from ∷ to ∷ fields) more long =
    ask_front role node kind from to fields more
may_front role node (a ∷ b ∷ c ∷ d ∷ e ∷ f ∷ g ∷ []) more long = absurd (omega (arith, long))
may_front role node (a ∷ b ∷ c ∷ d ∷ e ∷ f ∷ []) more long = absurd (omega (arith, long))
may_front role node (a ∷ b ∷ c ∷ d ∷ e ∷ []) more long = absurd (omega (arith, long))
may_front role node (a ∷ b ∷ c ∷ d ∷ []) more long = absurd (omega (arith, long))
may_front role node (a ∷ b ∷ c ∷ []) more long = absurd (omega (arith, long))
may_front role node (a ∷ b ∷ []) more long = absurd (omega (arith, long))
may_front role node (a ∷ []) more long = absurd (omega (arith, long))
may_front role node [] more long = absurd (omega (arith, long))

-- ---- a length stays

pub says_more : (octets more : List ℕ) (n : ℕ) → Says octets n → Says (octets ++ more) n
says_more octets more n s = (
  s.0,
  omega (arith, s.1, length-append octets more),
  take-append-le 4 octets more s.1 ∙ s.2,
)

says_front : (octets more whole : List ℕ) (n : ℕ) → whole ≡ octets ++ more → 4 ≤ length octets
    → Says whole n → Says octets n
says_front octets more whole n is enough s = (
  s.0,
  enough,
  sym (take-append-le 4 octets more enough) ∙ sym (ap (λ (l : List ℕ). take 4 l) is) ∙ s.2,
)

faulty_more : (octets more : List ℕ) → IsFaulty octets → IsFaulty (octets ++ more)
faulty_more octets more f = (f.0, says_more octets more f.0 f.1, f.2)

-- ---- lists of frames

pub each_one_more : (P : List ℕ → Type 0) (frames : List (List ℕ)) (frame : List ℕ)
    → AllByRecursion P frames → P frame → AllByRecursion P (frames ++ frame ∷ [])
each_one_more P [] frame each one = (one, tt)
each_one_more P (f ∷ frames) frame each one = (each.0, each_one_more P frames frame each.1 one)

pub concat_one_more : (frames : List (List ℕ)) (frame : List ℕ)
    → concat (frames ++ frame ∷ []) ≡ concat frames ++ frame
concat_one_more frames frame = concat-append frames (frame ∷ [])
    ∙ ap (λ (l : List ℕ). concat frames ++ l) (append-nil frame)

-- ---- one more call

-- so much more was looked at, and these octets were handed on
pub record Moved (role : Role) (node : ℕ) (now : Phase) (seen held octets after handed : List ℕ)
    : Type 0 where
  pub more : List ℕ
  pub split : held ≡ more ++ after
  pub admits_now : Admits role node now (seen ++ more) (handed ++ octets)
  pub dropped_now : now ≡ phases.Refused → after ≡ []

-- behind whole frames and a rest that was handed on
record IsShown (role : Role) (node : ℕ) (rest seen handed : List ℕ) : Type 0 where
  frames : List (List ℕ)
  each_is : AllByRecursion (IsAllowed role node) frames
  seen_is : seen ≡ concat frames ++ rest
  handed_same : handed ≡ concat frames ++ rest

grown : (front rest more whole : List ℕ) → whole ≡ front ++ rest
    → whole ++ more ≡ front ++ (rest ++ more)
grown front rest more whole is = ap (λ (l : List ℕ). l ++ more) is ∙ append_assoc front rest more

-- the frame is whole
whole_frame : (role : Role) (node : ℕ) (rest seen handed held octets after : List ℕ)
    → IsShown role node rest seen handed → held ≡ octets ++ after
    → IsAllowed role node (rest ++ octets)
    → Moved role node phases.Head seen held octets after handed
whole_frame role node rest seen handed held octets after s split frame =
    let frames = s.frames ++ (rest ++ octets) ∷ [] in
    let all : concat s.frames ++ (rest ++ octets) ≡ concat frames ++ [] =
    sym (concat_one_more s.frames (rest ++ octets)) ∙ sym (append-nil (concat frames)) in
    record {
      more = octets;
      split = split;
      admits_now = record {
        frames = frames;
        rest = [];
        each = each_one_more (IsAllowed role node) s.frames (rest ++ octets) s.each_is frame;
        ends = refl;
        stream_is = grown (concat s.frames) rest octets seen s.seen_is ∙ all;
        handed_is = grown (concat s.frames) rest octets handed s.handed_same ∙ all;
      };
      dropped_now = λ e. cc;
    }

-- the frame is not whole yet
part_frame : (role : Role) (node left : ℕ) (rest seen handed held octets after : List ℕ)
    → IsShown role node rest seen handed → held ≡ octets ++ after
    → IsPart role node (rest ++ octets) left
    → Moved role node (phases.Frame left) seen held octets after handed
part_frame role node left rest seen handed held octets after s split part =
    record {
      more = octets;
      split = split;
      admits_now = record {
        frames = s.frames;
        rest = rest ++ octets;
        each = s.each_is;
        ends = part;
        stream_is = grown (concat s.frames) rest octets seen s.seen_is;
        handed_is = grown (concat s.frames) rest octets handed s.handed_same;
      };
      dropped_now = λ e. cc;
    }

-- behind a faulty length
faulty_rest : (role : Role) (node : ℕ) (rest seen handed held octets after : List ℕ)
    → IsShown role node rest seen handed → octets ≡ held → after ≡ []
    → IsFaulty (rest ++ octets)
    → Moved role node phases.Faulty seen held octets after handed
faulty_rest role node rest seen handed held octets after s same none faulty =
    record {
      more = octets;
      split = sym same ∙ sym (append-nil octets) ∙ ap (λ (l : List ℕ). octets ++ l) (sym none);
      admits_now = record {
        frames = s.frames;
        rest = rest ++ octets;
        each = s.each_is;
        ends = faulty;
        stream_is = grown (concat s.frames) rest octets seen s.seen_is;
        handed_is = grown (concat s.frames) rest octets handed s.handed_same;
      };
      dropped_now = λ e. cc;
    }

-- at a forbidden frame
refused_rest : (role : Role) (node : ℕ) (seen handed held octets after : List ℕ)
    → IsShown role node [] seen handed → octets ≡ refusal → after ≡ []
    → IsForbidden role node held
    → Moved role node phases.Refused seen held octets after handed
refused_rest role node seen handed held octets after s same none forbidden =
    record {
      more = held;
      split = sym (append-nil held) ∙ ap (λ (l : List ℕ). held ++ l) (sym none);
      admits_now = record {
        frames = s.frames;
        rest = held;
        each = s.each_is;
        ends = (held, [], sym (append-nil held), forbidden);
        stream_is = grown (concat s.frames) [] held seen s.seen_is;
        handed_is = grown (concat s.frames) [] octets handed s.handed_same
            ∙ ap (λ (l : List ℕ). concat s.frames ++ l) same;
      };
      dropped_now = λ e. none;
    }

-- ---- where a frame begins

-- the octets of a frame that is whole
begun_whole : (role : Role) (node n : ℕ) (held octets after : List ℕ) → Heads held n
    → may role node (take (4 + n) held) ≡ true → held ≡ octets ++ after → length octets ≡ 4 + n
    → IsAllowed role node octets
begun_whole role node n held octets after h allowed split long =
    let cut : take (4 + n) held ≡ octets = ap (λ (l : List ℕ). take (4 + n) l) split
    ∙ ap (λ k. take k (octets ++ after)) (sym long) ∙ take-append_seam octets after in
    record {
      n = n;
      fits = h.fits;
      says = says_front octets after held n split (omega (arith, long)) h.says;
      whole = long;
      allowed = sym (ap (may role node) cut) ∙ allowed;
    }

long_part : (n m : ℕ) → m < 4 + n → (4 + n ≤ m) ⊎ (8 ≤ m) → 8 ≤ m
long_part n m less (inl enough) = omega (arith, less, enough)
long_part n m less (inr enough) = enough

-- the octets of a frame that is not whole yet
begun_part : (role : Role) (node n left : ℕ) (held octets after : List ℕ) → Heads held n
    → may role node (take (4 + n) held) ≡ true → held ≡ octets ++ after → after ≡ []
    → left ≡ 4 + n → length octets < left
    → IsPart role node octets (left - length octets)
begun_part role node n left held octets after h allowed split none all less =
    let same : held ≡ octets = split ∙ ap (λ (l : List ℕ). octets ++ l) none ∙ append-nil octets in
    let long : 8 ≤ length octets =
    long_part n (length octets) (omega (arith, less, all)) (subst
    (λ (l : List ℕ). (4 + n ≤ length l) ⊎ (8 ≤ length l)) same h.enough) in
    record {
      n = n;
      fits = h.fits;
      says = subst (λ (l : List ℕ). Says l n) same h.says;
      head = long;
      more = omega (arith, less);
      whole = omega (arith, less, all);
      allowed = sym (ap (may role node) (ap (λ (l : List ℕ). take (4 + n) l) same
          ∙ take_all (4 + n) octets (omega (arith, less, all)))) ∙ allowed;
    }

-- ---- within a frame

within_whole : (role : Role) (node left : ℕ) (part octets : List ℕ) → IsPart role node part left
    → length octets ≡ left → IsAllowed role node (part ++ octets)
within_whole role node left part octets p long =
    record {
      n = p.n;
      fits = p.fits;
      says = says_more part octets p.n p.says;
      whole = length-append part octets ∙ ap (λ k. length part + k) long ∙ p.whole;
      allowed = may_front role node part octets p.head ∙ p.allowed;
    }

within_part : (role : Role) (node left : ℕ) (part octets : List ℕ) → IsPart role node part left
    → length octets < left → IsPart role node (part ++ octets) (left - length octets)
within_part role node left part octets p less =
    let all = length-append part octets in
    record {
      n = p.n;
      fits = p.fits;
      says = says_more part octets p.n p.says;
      head = omega (arith, all, p.head);
      more = omega (arith, less);
      whole = omega (arith, all, p.whole, less);
      allowed = may_front role node part octets p.head ∙ p.allowed;
    }

-- ---- by cases

-- a frame's octets, whole or not
framed : (role : Role) (node left : ℕ) (now : Phase) (rest seen handed held octets after : List ℕ)
    → IsShown role node rest seen handed → held ≡ octets ++ after
    → (length octets ≡ left → IsAllowed role node (rest ++ octets))
    → (length octets < left → after ≡ [] → IsPart role node (rest ++ octets) (left - length octets))
    → ((length octets ≡ left) × (now ≡ phases.Head))
    ⊎ ((length octets < left) × (after ≡ []) × (now ≡ phases.Frame (left - length octets)))
    → Moved role node now seen held octets after handed
framed role node left now rest seen handed held octets after s split whole part (inl h) =
    subst (λ (p : Phase). Moved role node p seen held octets after handed) (sym h.1)
    (whole_frame role node rest seen handed held octets after s split (whole h.0))
framed role node left now rest seen handed held octets after s split whole part (inr h) =
    subst (λ (p : Phase). Moved role node p seen held octets after handed) (sym h.2)
    (part_frame role node (left - length octets) rest seen handed held octets after s split
    (part h.0 h.1))

from_head : (role : Role) (node : ℕ) (at now : Phase) (held octets after seen handed : List ℕ)
    → Starts role node held at → Passes at held octets after now → IsShown role node [] seen handed
    → Moved role node now seen held octets after handed
from_head role node phases.Head now held octets after seen handed starts passes s = absurd passes
from_head role node (phases.Frame left) now held octets after seen handed starts passes s =
    framed role node left now [] seen handed held octets after s passes.0
    (λ long. begun_whole role node starts.0 held octets after starts.1 starts.3 passes.0
    (long ∙ starts.2))
    (λ less none. begun_part role node starts.0 left held octets after starts.1 starts.3 passes.0
    none starts.2 less) passes.1
from_head role node phases.Faulty now held octets after seen handed starts passes s =
    subst (λ (p : Phase). Moved role node p seen held octets after handed) (sym passes.2)
    (faulty_rest role node [] seen handed held octets after s passes.0 passes.1
    (subst (λ (l : List ℕ). IsFaulty l) (sym passes.0) starts))
from_head role node phases.Refused now held octets after seen handed starts passes s =
    subst (λ (p : Phase). Moved role node p seen held octets after handed) (sym passes.2)
    (refused_rest role node seen handed held octets after s passes.0 passes.1 starts)

shown_before : (role : Role) (node : ℕ) (phase : Phase) (seen handed : List ℕ)
    (a : Admits role node phase seen handed) → output_in phase a.rest ≡ a.rest
    → IsShown role node a.rest seen handed
shown_before role node phase seen handed a same =
    record {
      frames = a.frames;
      each_is = a.each;
      seen_is = a.stream_is;
      handed_same = a.handed_is ∙ ap (λ (l : List ℕ). concat a.frames ++ l) same;
    }

one_call : (role : Role) (node : ℕ) (was at now : Phase)
    (held octets after seen handed : List ℕ) → held ≢ [] → Goes was role node held at
    → Passes at held octets after now → (was ≡ phases.Refused → held ≡ [])
    → Admits role node was seen handed → Moved role node now seen held octets after handed
one_call role node phases.Head at now held octets after seen handed some goes passes dropped a =
    from_head role node at now held octets after seen handed goes passes
    (subst (λ (l : List ℕ). IsShown role node l seen handed) a.ends
    (shown_before role node phases.Head seen handed a refl))
one_call role node (phases.Frame left) at now held octets after seen handed some goes passes
    dropped a =
    let p : Passes (phases.Frame left) held octets after now =
    subst (λ (q : Phase). Passes q held octets after now) goes passes in
    framed role node left now a.rest seen handed held octets after
    (shown_before role node (phases.Frame left) seen handed a refl) p.0
    (λ long. within_whole role node left a.rest octets a.ends long)
    (λ less none. within_part role node left a.rest octets a.ends less) p.1
one_call role node phases.Faulty at now held octets after seen handed some goes passes dropped a =
    let p : Passes phases.Faulty held octets after now =
    subst (λ (q : Phase). Passes q held octets after now) goes passes in
    subst (λ (q : Phase). Moved role node q seen held octets after handed) (sym p.2)
    (faulty_rest role node a.rest seen handed held octets after
    (shown_before role node phases.Faulty seen handed a refl) p.0 p.1
    (faulty_more a.rest octets a.ends))
one_call role node phases.Refused at now held octets after seen handed some goes passes dropped a =
    absurd (some (dropped refl))

-- a sieve that has handed on octets
pub sieve_after : (old new : Sieve) (octets stream handed : List ℕ) → Hands old octets new
    → IsSieve old stream handed → IsSieve new stream (handed ++ octets)
sieve_after old new octets stream handed h s =
    let m = one_call old.role old.node old.phase h.at new.phase old.held octets new.held s.seen
    handed h.some h.goes h.passes s.dropped s.admits in
    record {
      seen = s.seen ++ m.more;
      stream_is = s.stream_is ∙ ap (λ (l : List ℕ). s.seen ++ l) m.split
          ∙ sym (append_assoc s.seen m.more new.held);
      admits = subst (λ (r : Role). Admits r new.node new.phase (s.seen ++ m.more)
          (handed ++ octets)) (sym h.role)
          (subst (λ k. Admits old.role k new.phase (s.seen ++ m.more) (handed ++ octets))
          (sym h.node) m.admits_now);
      dropped = m.dropped_now;
    }

-- ---- a piece came

-- behind a forbidden frame
more_refused : (role : Role) (node : ℕ) (seen handed piece : List ℕ)
    → Admits role node phases.Refused seen handed
    → Admits role node phases.Refused (seen ++ piece) handed
more_refused role node seen handed piece a =
    let e = a.ends in
    record {
      frames = a.frames;
      rest = a.rest ++ piece;
      each = a.each;
      ends = (e.0, e.1 ++ piece, grown e.0 e.1 piece a.rest e.2, e.3);
      stream_is = grown (concat a.frames) a.rest piece seen a.stream_is;
      handed_is = a.handed_is;
    }

-- what was looked at, and what is held, with a piece behind
record Grown (role : Role) (node : ℕ) (phase : Phase) (stream piece after handed : List ℕ)
    : Type 0 where
  looked : List ℕ
  all_is : stream ++ piece ≡ looked ++ after
  admits_it : Admits role node phase looked handed
  none_held : phase ≡ phases.Refused → after ≡ []

kept_piece : (role : Role) (node : ℕ) (phase : Phase)
    (stream seen held piece after handed : List ℕ) → phase ≢ phases.Refused
    → after ≡ held ++ piece → stream ≡ seen ++ held → Admits role node phase seen handed
    → Grown role node phase stream piece after handed
kept_piece role node phase stream seen held piece after handed other is all a =
    record {
      looked = seen;
      all_is = grown seen held piece stream all ∙ ap (λ (l : List ℕ). seen ++ l) (sym is);
      admits_it = a;
      none_held = λ e. absurd (other e);
    }

one_piece : (role : Role) (node : ℕ) (phase : Phase)
    (stream seen held piece after handed : List ℕ) → after ≡ held_after phase held piece
    → stream ≡ seen ++ held → (phase ≡ phases.Refused → held ≡ [])
    → Admits role node phase seen handed → Grown role node phase stream piece after handed
one_piece role node phases.Head stream seen held piece after handed is all dropped a =
    kept_piece role node phases.Head stream seen held piece after handed (λ e. cc) is all a
one_piece role node (phases.Frame left) stream seen held piece after handed is all dropped a =
    kept_piece role node (phases.Frame left) stream seen held piece after handed (λ e. cc) is all a
one_piece role node phases.Faulty stream seen held piece after handed is all dropped a =
    kept_piece role node phases.Faulty stream seen held piece after handed (λ e. cc) is all a
one_piece role node phases.Refused stream seen held piece after handed is all dropped a =
    let none : held ≡ [] = dropped refl in
    let same : stream ≡ seen = all ∙ ap (λ (l : List ℕ). seen ++ l) none ∙ append-nil seen in
    record {
      looked = seen ++ piece;
      all_is = ap (λ (l : List ℕ). l ++ piece) same ∙ sym (append-nil (seen ++ piece))
          ∙ ap (λ (l : List ℕ). (seen ++ piece) ++ l) (sym (is ∙ none));
      admits_it = more_refused role node seen handed piece a;
      none_held = λ e. is ∙ none;
    }

-- a sieve to which a piece came
pub sieve_with : (old new : Sieve) (piece stream handed : List ℕ) → Came old piece new
    → IsSieve old stream handed → IsSieve new (stream ++ piece) handed
sieve_with old new piece stream handed c s =
    let g = one_piece old.role old.node old.phase stream s.seen old.held piece new.held handed c.held
    s.stream_is s.dropped s.admits in
    record {
      seen = g.looked;
      stream_is = g.all_is;
      admits = subst (λ (r : Role). Admits r new.node new.phase g.looked handed) (sym c.role)
          (subst (λ k. Admits old.role k new.phase g.looked handed) (sym c.node)
          (subst (λ (p : Phase). Admits old.role old.node p g.looked handed) (sym c.phase)
          g.admits_it));
      dropped = λ e. g.none_held (sym c.phase ∙ e);
    }

-- ---- by what a call answers

pub sifted : (old new : Sieve) (stream handed : List ℕ)
    (result : Result (Option (Vec ℕ Global)) AllocError) → Sifts old result new
    → IsSieve old stream handed → IsSieve new stream (handed ++ handed_by result)
sifted old new stream handed (Ok (Some octets)) sifts s =
    sieve_after old new octets.items stream handed sifts s
sifted old new stream handed (Ok None) sifts s =
    subst (λ (h : List ℕ). IsSieve new stream h) (sym (append-nil handed))
    (subst (λ (o : Sieve). IsSieve o stream handed) (sym sifts.0) s)
sifted old new stream handed (Err fault) sifts s =
    subst (λ (h : List ℕ). IsSieve new stream h) (sym (append-nil handed))
    (subst (λ (o : Sieve). IsSieve o stream handed) (sym sifts) s)

pub received : (old new : Sieve) (piece stream handed : List ℕ)
    (result : Result (Unit {0}) AllocError) → OnOk result (Came old piece new)
    → IsSieve old stream handed → OnOk result (IsSieve new (stream ++ piece) handed)
received old new piece stream handed (Ok done) came s = sieve_with old new piece stream handed came s
received old new piece stream handed (Err fault) came s = tt
