-- The requests that were taken of a stream are those of the frames that it splits into.
use Rattle.std.proofs.Common.{◌≡◌, ◌∙◌, refl, sym, ap, subst, ℕ, true, false, List, [], ◌∷◌, ◌++◌, length, take, Option, Some, None, IfSome, Result, Ok, Err, inl, inr, arith}
use Rattle.std.specs.List.{flat_map, AllByRecursion}
use Rattle.std.proofs.lemmas.List.{append-nil}
use Rattle.std.specs.Io.KnownBytes.{Appends}
use Rattle.ts_wire.specs.Frames.{FrameFits, frame_encoding}
use Rattle.ts_wire.specs.Stream.{Ends, Splits}
use Rattle.ts_wire.specs.declared.fault.FrameFault.{FrameFault}
use Rattle.ts_wire.specs.declared.fault.FrameFault.TheVariants.{Kind}
use Rattle.ts_wire.specs.declared.frame.Frame.{Frame}
use Rattle.ts_wire.proofs.Streams.{frame_or_end, one_reading, same_frame, same_rest, split}
use Rattle.ts_serve.specs.declared.fault.ServeFault.{ServeFault}
use Rattle.ts_serve.specs.declared.fault.ServeFault.TheVariants as faults
use Rattle.ts_serve.specs.Requests.{is_request}
use Rattle.ts_serve.specs.Text.{AppendsFront, fault_frames, text}
use Rattle.ts_serve.specs.Stream.{IsAnswered, IsAnsweredTo, IsCutShort, IsServed, Run, Serving, Stops, fault_of, requests_of}
use Rattle.ts_serve.proofs.Writing.{text-nil}

-- what a stream splits into beside frames at its front
pub record Beside (frames taken : List Frame) (rest : List ℕ) (fault : Option FrameFault) : Type 0 where
  pub more : List Frame
  pub is : frames ≡ taken ++ more
  pub splits : Splits rest more fault

one_front : (f : Frame) (tail : List ℕ) (frames : List Frame) (stream : List ℕ)
    (fault : Option FrameFault) → FrameFits f → stream ≡ frame_encoding f ++ tail
    → Splits stream frames fault → Beside frames (f ∷ []) tail fault
one_front f tail [] stream fault fits is s = absurd (frame_or_end fault f tail s.rest fits (sym s.is ∙ is) s.ends)
one_front f tail (g ∷ gs) stream fault fits is s =
    let same : frame_encoding f ++ tail ≡ frame_encoding g ++ (flat_map frame_encoding gs ++ s.rest) = sym is ∙ s.is ∙ split g gs s.rest in
    record {
      more = gs;
      is = ap (λ (x : Frame). x ∷ gs) (sym (same_frame f g tail (flat_map frame_encoding gs ++ s.rest) fits s.each.0 same));
      splits = record { rest = s.rest; is = same_rest f g tail (flat_map frame_encoding gs ++ s.rest) fits s.each.0 same; each = s.each.1; ends = s.ends };
    }

pub all_front : (taken frames : List Frame) (rest stream : List ℕ) (fault : Option FrameFault)
    → AllByRecursion FrameFits taken → stream ≡ flat_map frame_encoding taken ++ rest
    → Splits stream frames fault → Beside frames taken rest fault
all_front [] frames rest stream fault fit is s = record { more = frames; is = refl; splits = subst (λ l. Splits l frames fault) is s }
all_front (f ∷ fs) frames rest stream fault fit is s =
    let one = one_front f (flat_map frame_encoding fs ++ rest) frames stream fault fit.0 (is ∙ split f fs rest) s in
    let others = all_front fs one.more rest (flat_map frame_encoding fs ++ rest) fault fit.1 refl one.splits in
    record { more = others.more; is = one.is ∙ ap (λ l. f ∷ l) others.is; splits = others.splits }

pub requests-append : (taken more : List Frame) → AllByRecursion (λ f. is_request f ≡ true) taken → requests_of (taken ++ more) ≡ taken ++ requests_of more
requests-append [] more all = refl
requests-append (f ∷ fs) more all = rw all.0 (ap (λ l. f ∷ l) (requests-append fs more all.1))

pub fault-append : (taken more : List Frame) (fault : Option FrameFault) → AllByRecursion (λ f. is_request f ≡ true) taken → fault_of (taken ++ more) fault ≡ fault_of more fault
fault-append [] more fault all = refl
fault-append (f ∷ fs) more fault all = rw all.0 (fault-append fs more fault all.1)

-- where a server stops, nothing more is a request, and this fault counts
pub record IsStop (more : List Frame) (fault stop : Option FrameFault) : Type 0 where
  pub none : requests_of more ≡ []
  pub stops : fault_of more fault ≡ stop

ended : (more : List Frame) (rest : List ℕ) (fault stop : Option FrameFault) → Ends stop rest → Splits rest more fault → IsStop more fault stop
ended more rest fault stop ends s =
    let same = one_reading rest more [] fault stop s (record { rest = rest; is = refl; each = tt; ends = ends }) in
    record { none = ap requests_of same.same_frames; stops = ap (λ l. fault_of l fault) same.same_frames ∙ same.same_fault }

other_frame : (a : Frame) (more : List Frame) (fault : Option FrameFault) → is_request a ≡ false → IsStop (a ∷ more) fault (Some Kind)
other_frame a more fault is = record { none = rw is refl; stops = rw is refl }

pub stopped : (more : List Frame) (rest : List ℕ) (fault : Option FrameFault) (stop : FrameFault) → Stops stop rest → Splits rest more fault → IsStop more fault (Some stop)
stopped more rest fault stop (inl is) s = ended more rest fault (Some stop) is s
stopped more rest fault stop (inr other) s =
    let b = one_front other.1.frame other.1.after more rest fault other.1.fits other.1.is s in
    let at : IsStop more fault (Some Kind) = subst (λ l. IsStop l fault (Some Kind)) (sym b.is) (other_frame other.1.frame b.more fault other.1.other) in
    subst (λ (f : FrameFault). IsStop more fault (Some f)) (sym other.0) at

module _ {S : Type 0} (turn : S → Frame → List Frame → S → Type 0) (only : (old new : S) (frame : Frame) (answers : List Frame) → turn old frame answers new → is_request frame ≡ true) where
  all_requests : (old new : S) (requests answers : List Frame) → Run turn old requests answers new → AllByRecursion (λ f. is_request f ≡ true) requests
  all_requests old new [] answers run = tt
  all_requests old new (f ∷ fs) answers run = (only old run.0 f run.1 run.3, all_requests run.0 new fs run.2 run.4)

  -- all requests were taken
  whole : (stream : List ℕ) (frames : List Frame) (fault at' stop : Option FrameFault) (old new : S)
      (before after : Option (List ℕ)) → (s : Serving turn stream at' old new)
      → Splits stream frames fault
      → ((more : List Frame) → Splits s.rest more fault → IsStop more fault stop)
      → Appends before after (text (s.answers ++ fault_frames stop))
      → IsAnsweredTo turn frames fault stop old before new after
  whole stream frames fault at' stop old new before after s splits end written =
      let all = all_requests old new s.requests s.answers s.run in
      let b = all_front s.requests frames s.rest stream fault s.each s.is splits in
      let e = end b.more b.splits in
      record {
        stops = ap (λ l. fault_of l fault) b.is ∙ fault-append s.requests b.more fault all ∙ e.stops;
        answers = s.answers;
        run = subst (λ l. Run turn old l s.answers new) (sym (ap requests_of b.is ∙ requests-append s.requests b.more all ∙ ap (λ l. s.requests ++ l) e.none ∙ append-nil s.requests)) s.run;
        written = written;
      }

  front_of : (taken more : List Frame) → take (length taken) (taken ++ more) ≡ taken
  front_of [] more = refl
  front_of (f ∷ fs) more = ap (λ l. f ∷ l) (front_of fs more)

  some_taken : (stream : List ℕ) (frames : List Frame) (fault at' : Option FrameFault) (old new : S)
      → (s : Serving turn stream at' old new) → Splits stream frames fault
      → take (length s.requests) (requests_of frames) ≡ s.requests
  some_taken stream frames fault at' old new s splits =
      let all = all_requests old new s.requests s.answers s.run in
      let b = all_front s.requests frames s.rest stream fault s.each s.is splits in
      ap (λ l. take (length s.requests) (requests_of l)) b.is ∙ ap (take (length s.requests)) (requests-append s.requests b.more all) ∙ front_of s.requests (requests_of b.more)

  -- the first requests were taken
  cut_short : (stream : List ℕ) (frames : List Frame) (fault last : Option FrameFault) (old new : S)
      (before after : Option (List ℕ)) → (s : Serving turn stream last old new)
      → Splits stream frames fault
      → AppendsFront before after (text (s.answers ++ fault_frames last)) → IsCutShort turn frames fault old before new after
  cut_short stream frames fault None old new before after s splits written = record {
    taken = length s.requests;
    answers = s.answers;
    run = subst (λ l. Run turn old l s.answers new) (sym (some_taken stream frames fault None old new s splits)) s.run;
    last = None;
    stops = inl refl;
    written = written;
  }
  cut_short stream frames fault (Some stop) old new before after s splits written =
      let all = all_requests old new s.requests s.answers s.run in
      let b = all_front s.requests frames s.rest stream fault s.each s.is splits in
      let e = stopped b.more s.rest fault stop s.stops b.splits in
      let here = some_taken stream frames fault (Some stop) old new s splits in
      record {
        taken = length s.requests;
        answers = s.answers;
        run = subst (λ l. Run turn old l s.answers new) (sym here) s.run;
        last = Some stop;
        stops = inr (
          sym (ap (λ l. fault_of l fault) b.is ∙ fault-append s.requests b.more fault all ∙ e.stops),
          here ∙ sym (ap requests_of b.is ∙ requests-append s.requests b.more all ∙ ap (λ l. s.requests ++ l) e.none ∙ append-nil s.requests),
        );
        written = written;
      }

  nothing_behind : (answers : List Frame) (before after : Option (List ℕ)) → Appends before after (text answers) → Appends before after (text (answers ++ []))
  nothing_behind answers before after p = subst (Appends before after) (sym (text-nil answers)) p

  pub exact : (stream : List ℕ) (frames : List Frame) (fault : Option FrameFault) (old new : S)
      (before after : Option (List ℕ)) (result : Result (Unit {0}) ServeFault)
      → IsServed turn stream old before result new after → Splits stream frames fault
      → IsAnswered turn frames fault old before result new after
  exact stream frames fault old new before after (Ok done) h splits =
      let empty : Ends None h.0.rest = subst (Ends None) (sym h.1) (inl (omega arith)) in
      whole stream frames fault None None old new before after h.0 splits (λ more s. ended more h.0.rest fault None empty s) (nothing_behind h.0.answers before after h.2)
  exact stream frames fault old new before after (Err faults.Cut) h splits =
      whole stream frames fault None None old new before after h.0 splits (λ more s. ended more h.0.rest fault None h.1 s) (nothing_behind h.0.answers before after h.3)
  exact stream frames fault old new before after (Err (faults.Frame stop)) h splits =
      whole stream frames fault (Some stop) (Some stop) old new before after h.0 splits (λ more s. stopped more h.0.rest fault stop h.0.stops s) h.1
  exact stream frames fault old new before after (Err faults.Read) h splits = cut_short stream frames fault h.fault old new before after h.served splits h.written
  exact stream frames fault old new before after (Err faults.Write) h splits = cut_short stream frames fault h.fault old new before after h.served splits h.written
  exact stream frames fault old new before after (Err faults.ReadLimit) h splits = cut_short stream frames fault h.fault old new before after h.served splits h.written
  exact stream frames fault old new before after (Err faults.Memory) h splits = cut_short stream frames fault h.fault old new before after h.served splits h.written

  pub exact_if : (left : Option (List ℕ)) (old new : S) (before after : Option (List ℕ))
      (result : Result (Unit {0}) ServeFault)
      → IfSome left (λ stream. IsServed turn stream old before result new after)
      → IfSome left (λ stream. (frames : List Frame) (fault : Option FrameFault) → Splits stream frames fault → IsAnswered turn frames fault old before result new after)
  exact_if None old new before after result h = tt
  exact_if (Some stream) old new before after result h = λ frames fault splits. exact stream frames fault old new before after result h splits
