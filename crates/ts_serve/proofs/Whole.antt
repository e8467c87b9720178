-- A whole stream was served, where the reader tells its octets.
use Rattle.std.proofs.Common.{◌≡◌, ◌∙◌, refl, sym, ap, subst, ℕ, List, [], ◌++◌, Option, Some, None, IfSome, Result, Ok, Err, inl, inr, append_assoc}
use Rattle.std.proofs.lemmas.List.{append-nil}
use Rattle.std.specs.List.{flat_map}
use Rattle.std.proofs.KnownBytes.{Consumes-all, Consumes-trans}
use Rattle.std.specs.Io.KnownBytes.{Consumes, IsAtEnd}
use Rattle.ts_wire.specs.Frames.{frame_encoding}
use Rattle.ts_wire.specs.Stream.{IsPartial}
use Rattle.ts_wire.specs.declared.fault.FrameFault.{FrameFault}
use Rattle.ts_wire.specs.declared.frame.Frame.{Frame}
use Rattle.ts_wire.proofs.Streams.{stays}
use Rattle.ts_serve.specs.declared.fault.ServeFault.{ServeFault}
use Rattle.ts_serve.specs.declared.fault.ServeFault.TheVariants as faults
use Rattle.ts_serve.specs.Stream.{IsCutOff, IsServed, Run, Serving, StopsIf}
use Rattle.ts_serve.specs.inside.Steps.{HasServed, Serves}
use Rattle.ts_serve.proofs.Runs.{run_join}

stops_longer : (fault : Option FrameFault) (octets later : List ℕ) → StopsIf fault octets → StopsIf fault (octets ++ later)
stops_longer None octets later s = tt
stops_longer (Some fault) octets later (inl is) = inl (stays fault octets later is)
stops_longer (Some fault) octets later (inr other) = inr (
  other.0,
  record {
    frame = other.1.frame;
    after = other.1.after ++ later;
    fits = other.1.fits;
    other = other.1.other;
    is = ap (λ l. l ++ later) other.1.is ∙ append_assoc (frame_encoding other.1.frame) other.1.after later;
  },
)

-- the octets that were read are a front of the stream, and all of it at its end
abbrev read_part : (stream octets : List ℕ) (now : Option (List ℕ)) → Consumes (Some stream) now octets → (later : List ℕ) × (octets ++ later ≡ stream)
read_part stream octets None p = absurd p
read_part stream octets (Some later) p = (later, sym p)

read_whole : (stream octets : List ℕ) (now : Option (List ℕ)) → Consumes (Some stream) now octets → IsAtEnd now → octets ≡ stream
read_whole stream octets None p end = absurd p
read_whole stream octets (Some later) p end = sym (p ∙ ap (λ l. octets ++ l) end ∙ append-nil octets)

pub read_to_end : (left now next : Option (List ℕ)) (octets : List ℕ) → Consumes left now octets → Consumes now next [] → IsAtEnd next → IfSome left (λ all. octets ≡ all)
read_to_end left now next octets p q end =
    Consumes-all left next octets [] octets (subst (Consumes left next) (append-nil octets) (Consumes-trans left now next octets [] p q)) end refl

module _ {S : Type 0} (turn : S → Frame → List Frame → S → Type 0) where
  abbrev longer : (octets later stream : List ℕ) (fault : Option FrameFault) (a b : S) → octets ++ later ≡ stream → Serving turn octets fault a b → Serving turn stream fault a b
  longer octets later stream fault a b whole s = record {
    requests = s.requests;
    rest = s.rest ++ later;
    is = sym whole ∙ ap (λ l. l ++ later) s.is ∙ append_assoc (flat_map frame_encoding s.requests) s.rest later;
    each = s.each;
    stops = stops_longer fault s.rest later s.stops;
    answers = s.answers;
    run = s.run;
  }

  cut_off : (stream octets : List ℕ) (now : Option (List ℕ)) (a b : S) (u w : Option (List ℕ)) → Consumes (Some stream) now octets → IsCutOff turn octets a u b w → IsCutOff turn stream a u b w
  cut_off stream octets now a b u w read s =
      let part = read_part stream octets now read in
      record { fault = s.fault; served = longer octets part.0 stream s.fault a b part.1 s.served; written = s.written }

  pub told : (stream : List ℕ) (now : Option (List ℕ)) (a b : S) (u w : Option (List ℕ))
      (result : Result (Unit {0}) ServeFault) → Serves turn (Some stream) a u result now b w
      → IsServed turn stream a u result b w
  told stream now a b u w (Ok done) (octets, read, end, s) =
      let whole = read_whole stream octets now read end in
      let t : HasServed turn stream a u b [] w = subst (λ l. HasServed turn l a u b [] w) whole s in
      (t.0, t.1, t.2)
  told stream now a b u w (Err faults.Cut) (octets, rest, read, end, s, partial, some) =
      let whole = read_whole stream octets now read end in
      let t : HasServed turn stream a u b rest w = subst (λ l. HasServed turn l a u b rest w) whole s in
      (t.0, subst IsPartial (sym t.1) partial, (λ none. some (sym t.1 ∙ none)), t.2)
  told stream now a b u w (Err (faults.Frame fault)) (octets, read, s) =
      let part = read_part stream octets now read in
      (longer octets part.0 stream (Some fault) a b part.1 s.0, s.1)
  told stream now a b u w (Err faults.Read) (octets, read, s) = cut_off stream octets now a b u w read s
  told stream now a b u w (Err faults.Write) (octets, read, s) = cut_off stream octets now a b u w read s
  told stream now a b u w (Err faults.ReadLimit) (octets, read, s) = cut_off stream octets now a b u w read s
  told stream now a b u w (Err faults.Memory) (octets, read, s) = cut_off stream octets now a b u w read s

  pub if_told : (left now : Option (List ℕ)) (a b : S) (u w : Option (List ℕ))
      (result : Result (Unit {0}) ServeFault) → Serves turn left a u result now b w
      → IfSome left (λ stream. IsServed turn stream a u result b w)
  if_told None now a b u w result s = tt
  if_told (Some stream) now a b u w result s = told stream now a b u w result s

  -- some requests were answered, whatever was read
  abbrev pub HasRun : S → S → Type 0
  HasRun a b = (requests answers : List Frame) × Run turn a requests answers b

  of_serving : (octets : List ℕ) (fault : Option FrameFault) (a b : S) → Serving turn octets fault a b → HasRun a b
  of_serving octets fault a b s = (s.requests, s.answers, s.run)

  pub has_run : (left now : Option (List ℕ)) (a b : S) (u w : Option (List ℕ)) (result : Result (Unit {0}) ServeFault) → Serves turn left a u result now b w → HasRun a b
  has_run left now a b u w (Ok done) s = of_serving s.0 None a b s.3.0
  has_run left now a b u w (Err faults.Cut) s = of_serving s.0 None a b s.4.0
  has_run left now a b u w (Err (faults.Frame fault)) s = of_serving s.0 (Some fault) a b s.2.0
  has_run left now a b u w (Err faults.Read) s = of_serving s.0 s.2.fault a b s.2.served
  has_run left now a b u w (Err faults.Write) s = of_serving s.0 s.2.fault a b s.2.served
  has_run left now a b u w (Err faults.ReadLimit) s = of_serving s.0 s.2.fault a b s.2.served
  has_run left now a b u w (Err faults.Memory) s = of_serving s.0 s.2.fault a b s.2.served

  pub run_none : (a : S) → HasRun a a
  run_none a = ([], [], (refl, refl))

  pub run_then : (a b c : S) → HasRun a b → HasRun b c → HasRun a c
  run_then a b c first second = (first.0 ++ second.0, first.1 ++ second.1, run_join turn a b c first.0 second.0 first.1 second.1 first.2 second.2)
