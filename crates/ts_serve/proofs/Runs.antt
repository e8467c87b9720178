-- Requests that are answered one after another, and the stream that they are in.
use Rattle.std.proofs.Common.{◌≡◌, ◌∙◌, refl, sym, ap, subst, ℕ, List, [], ◌∷◌, ◌++◌, Option, None, append_assoc}
use Rattle.std.specs.List.{flat_map, AllByRecursion}
use Rattle.std.proofs.lemmas.List.{append-nil}
use Rattle.std.proofs.lemmas.Grind.{flat_map-append}
use Rattle.ts_wire.specs.Frames.{FrameFits, frame_encoding}
use Rattle.ts_wire.specs.declared.fault.FrameFault.{FrameFault}
use Rattle.ts_wire.specs.declared.frame.Frame.{Frame}
use Rattle.ts_serve.specs.Stream.{Run, Serving, StopsIf}

pub all_both : (frames more : List Frame) → AllByRecursion FrameFits frames → AllByRecursion FrameFits more → AllByRecursion FrameFits (frames ++ more)
all_both [] more all both = both
all_both (f ∷ fs) more all both = (all.0, all_both fs more all.1 both)

module _ {S : Type 0} (turn : S → Frame → List Frame → S → Type 0) where
  pub run_join : (a b c : S) (requests more answers others : List Frame) → Run turn a requests answers b → Run turn b more others c → Run turn a (requests ++ more) (answers ++ others) c
  run_join a b c [] more answers others h k =
      let moved : Run turn a more others c = subst (λ (s : S). Run turn s more others c) h.1 k in
      subst (λ l. Run turn a more (l ++ others) c) (sym h.0) moved
  run_join a b c (f ∷ fs) more answers others h k =
      (h.0, h.1, h.2 ++ others, h.3, run_join h.0 b c fs more h.2 others h.4 k, ap (λ l. l ++ others) h.5 ∙ append_assoc h.1 h.2 others)

  pub run_one : (a b : S) (request : Frame) (answers : List Frame) → turn a request answers b → Run turn a (request ∷ []) answers b
  run_one a b request answers t = (b, answers, [], t, (refl, refl), sym (append-nil answers))

  -- nothing was taken
  abbrev pub untaken : (octets : List ℕ) (fault : Option FrameFault) (a b : S) → StopsIf fault octets → b ≡ a → Serving turn octets fault a b
  untaken octets fault a b stops same = record { requests = []; rest = octets; is = refl; each = tt; stops = stops; answers = []; run = (refl, same) }

  -- one request was taken
  abbrev pub taken_one : (octets rest : List ℕ) (a b : S) (request : Frame) (answers : List Frame)
      → octets ≡ frame_encoding request ++ rest → FrameFits request → turn a request answers b
      → Serving turn octets None a b
  taken_one octets rest a b request answers is fits t = record {
    requests = request ∷ [];
    rest = rest;
    is = is ∙ ap (λ l. l ++ rest) (sym (append-nil (frame_encoding request)));
    each = (fits, tt);
    stops = tt;
    answers = answers;
    run = run_one a b request answers t;
  }

  -- what is left of some octets is served with a piece that follows them
  abbrev pub serving_join : (octets held piece : List ℕ) (fault : Option FrameFault) (a b c : S)
      → (s : Serving turn octets None a b) → s.rest ≡ held → Serving turn (held ++ piece) fault b c
      → Serving turn (octets ++ piece) fault a c
  serving_join octets held piece fault a b c s left t = record {
    requests = s.requests ++ t.requests;
    rest = t.rest;
    is = ap (λ l. l ++ piece) (s.is ∙ ap (λ l. flat_map frame_encoding s.requests ++ l) left) ∙ append_assoc (flat_map frame_encoding s.requests) held piece
        ∙ ap (λ l. flat_map frame_encoding s.requests ++ l) t.is ∙ sym (append_assoc (flat_map frame_encoding s.requests) (flat_map frame_encoding t.requests) t.rest)
        ∙ ap (λ l. l ++ t.rest) (sym (flat_map-append frame_encoding s.requests t.requests));
    each = all_both s.requests t.requests s.each t.each;
    stops = t.stops;
    answers = s.answers ++ t.answers;
    run = run_join a b c s.requests t.requests s.answers t.answers s.run t.run;
  }
