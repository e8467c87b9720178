-- Frames are taken from the front of a stream, piece after piece.
use Rattle.std.proofs.Common.{◌≡◌, ℕ, ◌+◌, ◌<◌, ◌≤◌, true, false, List, [], ◌∷◌, ◌++◌, length}
use Rattle.std.proofs.Common.{get_or, take, drop, Option, Some, None, refl, sym, ap, subst, ◌∙◌}
use Rattle.std.proofs.Common.{append_assoc, arith, length-append, take-append-drop}
use Rattle.std.specs.Prelude.{is_some}
use Rattle.std.specs.List.{flat_map, AllByRecursion}
use Rattle.std.specs.Global.{Vec}
use Rattle.std.proofs.lemmas.List.{append-nil, drop_more, take_all}
use Rattle.std.proofs.lemmas.List.Concat.{flat_map-cons}
use Rattle.std.proofs.lemmas.Grind.{flat_map-append}
use Rattle.ts_wire.specs.Frames.{frame_encoding, FrameFits}
use Rattle.ts_wire.specs.Stream.{IsPartial, Ends, Splits}
use Rattle.ts_wire.specs.inside.Taking.{Drains}
use Rattle.ts_wire.specs.declared.fault.FrameFault.{FrameFault}
use Rattle.ts_wire.specs.declared.frame.Frame.{Frame}
use Rattle.ts_wire.proofs.Streams.{stays}

-- what was taken so far
pub record Taken (old : List ℕ) (before : List Frame) (new : List ℕ) (after : List Frame) : Type 0 where
  pub taken : List Frame
  pub each : AllByRecursion FrameFits taken
  pub more : after ≡ before ++ taken
  pub is : old ≡ flat_map frame_encoding taken ++ new

pub starts : (octets : List ℕ) (frames : List Frame) → Taken octets frames octets frames
starts octets frames = record { taken = []; each = tt; more = sym (append-nil frames); is = refl }

all_push : (frames : List Frame) (frame : Frame) → AllByRecursion FrameFits frames → FrameFits frame → AllByRecursion FrameFits (frames ++ frame ∷ [])
all_push [] frame all fit = (fit, tt)
all_push (f ∷ fs) frame all fit = (all.0, all_push fs frame all.1 fit)

all_both : (frames more : List Frame) → AllByRecursion FrameFits frames → AllByRecursion FrameFits more → AllByRecursion FrameFits (frames ++ more)
all_both [] more all both = both
all_both (f ∷ fs) more all both = (all.0, all_both fs more all.1 both)

pub one_more : (old mid new : List ℕ) (before frames after : List Frame) (frame : Frame)
    → Taken old before mid frames → FrameFits frame → mid ≡ frame_encoding frame ++ new
    → after ≡ frames ++ frame ∷ [] → Taken old before new after
one_more old mid new before frames after frame t fit is later = record {
  taken = t.taken ++ frame ∷ [];
  each = all_push t.taken frame t.each fit;
  more = later ∙ ap (λ l. l ++ frame ∷ []) t.more ∙ append_assoc before t.taken (frame ∷ []);
  is = t.is ∙ ap (λ l. flat_map frame_encoding t.taken ++ l) is ∙ sym (append_assoc (flat_map frame_encoding t.taken) (frame_encoding frame) new)
      ∙ ap (λ l. (flat_map frame_encoding t.taken ++ l) ++ new) (sym (append-nil (frame_encoding frame))) ∙ ap (λ l. l ++ new) (sym (flat_map-append frame_encoding t.taken (frame ∷ [])));
}

pub smaller : (mid new : List ℕ) (frame : Frame) → mid ≡ frame_encoding frame ++ new → length new < length mid
smaller mid new frame is = omega (arith, ap length is, length-append (frame_encoding frame) new)

pub ended : (old new : List ℕ) (before after : List Frame) (fault : Option FrameFault) → Taken old before new after → Ends fault new → Drains old before new after fault
ended old new before after fault t e = record { taken = t.taken; each = t.each; more = t.more; is = t.is; ends = e }

-- ---- over the pieces

-- the pieces so far are these frames, and less than a whole one
pub record SoFar (stream : List ℕ) (frames : List Frame) (rest : List ℕ) : Type 0 where
  pub is : stream ≡ flat_map frame_encoding frames ++ rest
  pub each : AllByRecursion FrameFits frames
  pub partial : IsPartial rest

-- and with one piece more, up to a fault
pub record AtEnd (stream : List ℕ) (frames : List Frame) (rest : List ℕ) (fault : Option FrameFault) : Type 0 where
  pub is : stream ≡ flat_map frame_encoding frames ++ rest
  pub each : AllByRecursion FrameFits frames
  pub ends : Ends fault rest

pub one_piece : (stream piece feed rest : List ℕ) (frames after : List Frame)
    (fault : Option FrameFault) (held : List ℕ) → SoFar stream frames held → feed ≡ held ++ piece
    → Drains feed frames rest after fault → AtEnd (stream ++ piece) after rest fault
one_piece stream piece feed rest frames after fault held s fed d = record {
  is = ap (λ l. l ++ piece) s.is ∙ append_assoc (flat_map frame_encoding frames) held piece ∙ ap (λ l. flat_map frame_encoding frames ++ l) (sym fed ∙ d.is)
      ∙ sym (append_assoc (flat_map frame_encoding frames) (flat_map frame_encoding d.taken) rest)
      ∙ ap (λ l. l ++ rest) (sym (flat_map-append frame_encoding frames d.taken))
      ∙ ap (λ l. flat_map frame_encoding l ++ rest) (sym d.more);
  each = subst (AllByRecursion FrameFits) (sym d.more) (all_both frames d.taken s.each d.each);
  ends = d.ends;
}

pub goes_on : (stream : List ℕ) (frames : List Frame) (rest : List ℕ) (fault : Option FrameFault) → AtEnd stream frames rest fault → is_some fault ≡ false → SoFar stream frames rest
goes_on stream frames rest None e none = record { is = e.is; each = e.each; partial = e.ends }
goes_on stream frames rest (Some x) e none = absurd (cc none)

pub stops : (stream later : List ℕ) (frames : List Frame) (rest : List ℕ) (fault : Option FrameFault) → AtEnd stream frames rest fault → is_some fault ≡ true → Splits (stream ++ later) frames fault
stops stream later frames rest None e some = absurd (cc some)
stops stream later frames rest (Some x) e some = record {
  rest = rest ++ later;
  is = ap (λ l. l ++ later) e.is ∙ append_assoc (flat_map frame_encoding frames) rest later;
  each = e.each;
  ends = stays x rest later e.ends;
}

pub all_pieces : (pieces : List (Vec ℕ)) (i : ℕ) (frames : List Frame) (rest : List ℕ)
    → length pieces ≤ i → SoFar (flat_map (λ p. p.items) (take i pieces)) frames rest
    → Splits (flat_map (λ p. p.items) pieces) frames None
all_pieces pieces i frames rest all s =
    let e : take i pieces ≡ pieces = take_all i pieces all in
    record { rest = rest; is = ap (flat_map (λ (p : Vec ℕ). p.items)) (sym e) ∙ s.is; each = s.each; ends = s.partial }

all_of : (pieces : List (Vec ℕ)) (i : ℕ) (piece : Vec ℕ) → i < length pieces → piece ≡ get_or pieces i piece
    → flat_map (λ (p : Vec ℕ). p.items) pieces ≡ (flat_map (λ (p : Vec ℕ). p.items) (take i pieces) ++ piece.items) ++ flat_map (λ (p : Vec ℕ). p.items) (drop (i + 1) pieces)
all_of pieces i piece within is =
    ap (flat_map (λ (p : Vec ℕ). p.items)) (sym (take-append-drop i pieces) ∙ ap (λ l. take i pieces ++ l) (drop_more pieces i piece within))
    ∙ flat_map-append (λ (p : Vec ℕ). p.items) (take i pieces) (get_or pieces i piece ∷ drop (i + 1) pieces)
    ∙ ap (λ l. flat_map (λ (p : Vec ℕ). p.items) (take i pieces) ++ l) (flat_map-cons (λ (p : Vec ℕ). p.items) (get_or pieces i piece) (drop (i + 1) pieces))
    ∙ ap (λ (q : Vec ℕ). flat_map (λ (p : Vec ℕ). p.items) (take i pieces) ++ (q.items ++ flat_map (λ (p : Vec ℕ). p.items) (drop (i + 1) pieces))) (sym is)
    ∙ sym (append_assoc (flat_map (λ (p : Vec ℕ). p.items) (take i pieces)) piece.items (flat_map (λ (p : Vec ℕ). p.items) (drop (i + 1) pieces)))

-- the octets of pieces before a piece, of it, and of those after
pub rest_of : (pieces : List (Vec ℕ)) (i : ℕ) (piece : Vec ℕ) → i < length pieces → piece ≡ get_or pieces i piece → (frames : List Frame) (fault : Option FrameFault)
    → Splits ((flat_map (λ p. p.items) (take i pieces) ++ piece.items) ++ flat_map (λ p. p.items) (drop (i + 1) pieces)) frames fault → Splits (flat_map (λ p. p.items) pieces) frames fault
rest_of pieces i piece within is frames fault s = subst (λ l. Splits l frames fault) (sym (all_of pieces i piece within is)) s
