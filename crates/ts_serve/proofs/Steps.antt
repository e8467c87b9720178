-- The steps in which a stream is served, one after another.
use Rattle.std.proofs.Common.{◌≡◌, ◌≢◌, ◌∙◌, refl, sym, ap, subst, ℕ, true, false, List, [], ◌++◌, Option, Some, None, Result, Ok, Err, OnOk, IfErr, inl, inr, append_assoc, arith}
use Rattle.std.proofs.lemmas.List.{append-nil}
use Rattle.std.proofs.KnownBytes.{Appends-nil, Appends-trans, Consumes-nil, Consumes-trans, Consumes-kept}
use Rattle.std.specs.Io.KnownBytes.{Appends, Consumes, Keeps}
use Rattle.ts_wire.specs.Frames.{FrameFits, frame_encoding}
use Rattle.ts_wire.specs.Stream.{IsPartial}
use Rattle.ts_wire.specs.declared.fault.FrameFault.{FrameFault}
use Rattle.ts_wire.specs.declared.fault.FrameFault.TheVariants.{Kind}
use Rattle.ts_wire.specs.declared.frame.Frame.{Frame}
use Rattle.ts_serve.specs.declared.fault.ServeFault.{ServeFault}
use Rattle.ts_serve.specs.declared.fault.ServeFault.TheVariants as faults
use Rattle.ts_serve.specs.Text.{AppendsFront, fault_frames, text}
use Rattle.ts_serve.specs.Stream.{IsCutOff, Stops}
use Rattle.ts_serve.specs.inside.Steps.{Answers, Drains, HasServed, HasStopped, Reads, Refuses, Serves, SoFar}
use Rattle.ts_serve.proofs.Writing.{appends_kept, front_none, front_then, front_whole, text-append, text-nil}
use Rattle.ts_serve.proofs.Runs.{serving_join, taken_one, untaken}

module _ {S : Type 0} (turn : S → Frame → List Frame → S → Type 0) where
  pub nothing_served : (octets : List ℕ) (a : S) (w : Option (List ℕ)) → HasServed turn octets a w a octets w
  nothing_served octets a w = (untaken turn octets None a a tt refl, refl, Appends-nil w)

  -- serving stopped before anything was taken or written
  pub cut_off : (octets : List ℕ) (a b : S) (v w : Option (List ℕ)) → b ≡ a → Keeps v w → IsCutOff turn octets a v b w
  cut_off octets a b v w same kept = record { fault = None; served = untaken turn octets None a b tt same; written = front_none v w _ kept }

  pub served_join : (octets held piece rest : List ℕ) (a b c : S) (u v w : Option (List ℕ))
      → HasServed turn octets a u b held v → HasServed turn (held ++ piece) b v c rest w
      → HasServed turn (octets ++ piece) a u c rest w
  served_join octets held piece rest a b c u v w s t = (
    serving_join turn octets held piece None a b c s.0 s.1 t.0,
    t.1,
    subst (Appends u w) (sym (text-append s.0.answers t.0.answers)) (Appends-trans u v w (text s.0.answers) (text t.0.answers) s.2 t.2),
  )

  text_split : (answers more last : List Frame) → text ((answers ++ more) ++ last) ≡ text answers ++ text (more ++ last)
  text_split answers more last = ap text (append_assoc answers more last) ∙ text-append answers (more ++ last)

  cut_off_join : (octets held piece : List ℕ) (a b c : S) (u v w : Option (List ℕ))
      → HasServed turn octets a u b held v → IsCutOff turn (held ++ piece) b v c w
      → IsCutOff turn (octets ++ piece) a u c w
  cut_off_join octets held piece a b c u v w s t = record {
    fault = t.fault;
    served = serving_join turn octets held piece t.fault a b c s.0 s.1 t.served;
    written = subst (AppendsFront u w)
        (sym (text_split s.0.answers t.served.answers (fault_frames t.fault)))
        (front_then u v w (text s.0.answers) (text (t.served.answers ++ fault_frames t.fault)) s.2
        t.written);
  }

  pub stopped_join : (octets held piece : List ℕ) (fault : ServeFault) (a b c : S)
      (u v w : Option (List ℕ)) → HasServed turn octets a u b held v
      → HasStopped turn (held ++ piece) b v fault c w
      → HasStopped turn (octets ++ piece) a u fault c w
  stopped_join octets held piece (faults.Frame fault) a b c u v w s t = (
    serving_join turn octets held piece (Some fault) a b c s.0 s.1 t.0,
    subst (Appends u w) (sym (text_split s.0.answers t.0.answers (fault_frames (Some fault)))) (Appends-trans u v w (text s.0.answers) (text (t.0.answers ++ fault_frames (Some fault))) s.2 t.1),
  )
  stopped_join octets held piece faults.Cut a b c u v w s t = absurd t
  stopped_join octets held piece faults.Read a b c u v w s t = cut_off_join octets held piece a b c u v w s t
  stopped_join octets held piece faults.Write a b c u v w s t = cut_off_join octets held piece a b c u v w s t
  stopped_join octets held piece faults.ReadLimit a b c u v w s t = cut_off_join octets held piece a b c u v w s t
  stopped_join octets held piece faults.Memory a b c u v w s t = cut_off_join octets held piece a b c u v w s t

  -- the same where no piece follows
  pub served_on : (octets held rest : List ℕ) (a b c : S) (u v w : Option (List ℕ)) → HasServed turn octets a u b held v → HasServed turn held b v c rest w → HasServed turn octets a u c rest w
  served_on octets held rest a b c u v w s t =
      let more : HasServed turn (held ++ []) b v c rest w = subst (λ l. HasServed turn l b v c rest w) (sym (append-nil held)) t in
      subst (λ l. HasServed turn l a u c rest w) (append-nil octets) (served_join octets held [] rest a b c u v w s more)

  pub stopped_on : (octets held : List ℕ) (fault : ServeFault) (a b c : S) (u v w : Option (List ℕ))
      → HasServed turn octets a u b held v → HasStopped turn held b v fault c w
      → HasStopped turn octets a u fault c w
  stopped_on octets held fault a b c u v w s t =
      let more : HasStopped turn (held ++ []) b v fault c w = subst (λ l. HasStopped turn l b v fault c w) (sym (append-nil held)) t in
      subst (λ l. HasStopped turn l a u fault c w) (append-nil octets) (stopped_join octets held [] fault a b c u v w s more)

  -- ---- one frame

  -- a frame at the front was answered
  pub frame_served : (octets rest : List ℕ) (a b : S) (frame : Frame) (v w : Option (List ℕ))
      → FrameFits frame → octets ≡ frame_encoding frame ++ rest → Answers turn a frame v (Ok tt) b w
      → HasServed turn octets a v b rest w
  frame_served octets rest a b frame v w fits is said = (taken_one turn octets rest a b frame said.0 is fits said.1, refl, said.2)

  -- a fault is here, and was answered, or a front of the answer was written
  pub refused : (octets : List ℕ) (a b : S) (fault : FrameFault) (end : ServeFault) (v w : Option (List ℕ)) → Stops fault octets → b ≡ a → Refuses fault v end w → HasStopped turn octets a v end b w
  refused octets a b fault (faults.Frame answered) v w stops same r = (
    untaken turn octets (Some answered) a b (subst (λ (f : FrameFault). Stops f octets) (sym r.0) stops) same,
    subst (λ (f : FrameFault). Appends v w (text (fault_frames (Some f)))) (sym r.0) r.1,
  )
  refused octets a b fault faults.Cut v w stops same r = absurd r
  refused octets a b fault faults.Read v w stops same r = absurd r
  refused octets a b fault faults.ReadLimit v w stops same r = absurd r
  refused octets a b fault faults.Write v w stops same r = record { fault = Some fault; served = untaken turn octets (Some fault) a b stops same; written = r }
  refused octets a b fault faults.Memory v w stops same r = record { fault = Some fault; served = untaken turn octets (Some fault) a b stops same; written = r }

  frame_cut : (octets rest : List ℕ) (a b : S) (frame : Frame) (answers : List Frame)
      (v w : Option (List ℕ)) → FrameFits frame → octets ≡ frame_encoding frame ++ rest
      → turn a frame answers b → AppendsFront v w (text answers) → IsCutOff turn octets a v b w
  frame_cut octets rest a b frame answers v w fits is made front = record {
    fault = None;
    served = taken_one turn octets rest a b frame answers is fits made;
    written = subst (AppendsFront v w) (sym (text-nil answers)) front;
  }

  -- a frame at the front was answered, but not all of its answer was written; or it is no request
  pub frame_stopped : (octets rest : List ℕ) (a b : S) (frame : Frame) (fault : ServeFault)
      (v w : Option (List ℕ)) → FrameFits frame → octets ≡ frame_encoding frame ++ rest
      → Answers turn a frame v (Err fault) b w → HasStopped turn octets a v fault b w
  frame_stopped octets rest a b frame faults.Write v w fits is (inl said) = frame_cut octets rest a b frame said.answers v w fits is said.made said.written
  frame_stopped octets rest a b frame faults.Memory v w fits is (inl said) = frame_cut octets rest a b frame said.answers v w fits is said.made said.written
  frame_stopped octets rest a b frame faults.Read v w fits is (inl said) = absurd said
  frame_stopped octets rest a b frame faults.ReadLimit v w fits is (inl said) = absurd said
  frame_stopped octets rest a b frame faults.Cut v w fits is (inl said) = absurd said
  frame_stopped octets rest a b frame (faults.Frame f) v w fits is (inl said) = absurd said
  frame_stopped octets rest a b frame fault v w fits is (inr other) =
      refused octets a b Kind fault v w (inr (refl, record { frame = frame; after = rest; fits = fits; other = other.0; is = is })) other.1 other.2

  -- what was held back was handed on
  pub flushed : (octets rest : List ℕ) (a b : S) (u v w : Option (List ℕ)) → HasServed turn octets a u b rest v → Keeps v w → HasServed turn octets a u b rest w
  flushed octets rest a b u v w s kept = (s.0, s.1, appends_kept u v w (text s.0.answers) s.2 kept)

  keeps_same : (v : Option (List ℕ)) → Keeps v v
  keeps_same None = tt
  keeps_same (Some octets) = refl

  -- nothing more was taken or written
  pub cut_here : (octets held : List ℕ) (a b : S) (u v : Option (List ℕ)) → HasServed turn octets a u b held v → IsCutOff turn octets a u b v
  cut_here octets held a b u v s = stopped_on octets held faults.Memory a b b u v v s (cut_off held b b v v refl (keeps_same v))

  -- less than a whole frame is left, and what was held back was handed on, or that failed
  pub drained : (octets held rest : List ℕ) (a b : S) (u v w : Option (List ℕ))
      (r : Result (Unit {0}) ServeFault) → HasServed turn octets a u b held v → IsPartial held
      → rest ≡ held → Keeps v w → IfErr r (λ fault. fault ≡ faults.Write)
      → Drains turn octets a u r b rest w
  drained octets held rest a b u v w (Ok done) s partial same kept fault =
      (flushed octets rest a b u v w (subst (λ l. HasServed turn octets a u b l v) (sym same) s) kept, subst IsPartial (sym same) partial)
  drained octets held rest a b u v w (Err e) s partial same kept fault =
      subst (λ (f : ServeFault). HasStopped turn octets a u f b w) (sym fault) (cut_here octets held a b u w (flushed octets held a b u v w s kept))

  -- ---- one read

  -- a piece came, and was served
  pub piece_served : (left now : Option (List ℕ)) (a b : S) (v w : Option (List ℕ))
      (held piece feed rest : List ℕ) → Consumes left now piece → feed ≡ held ++ piece
      → Drains turn feed a v (Ok tt) b rest w → Reads turn left now held a v (Ok true) b rest w
  piece_served left now a b v w held piece feed rest read is d = (piece, read, subst (λ l. HasServed turn l a v b rest w) is d.0, d.1)

  pub piece_stopped : (left now : Option (List ℕ)) (a b : S) (v w : Option (List ℕ))
      (held piece feed rest : List ℕ) (fault : ServeFault) → Consumes left now piece → feed ≡ held
      ++ piece → Drains turn feed a v (Err fault) b rest w
      → Reads turn left now held a v (Err fault) b rest w
  piece_stopped left now a b v w held piece feed rest fault read is d = (piece, read, subst (λ l. HasStopped turn l a v fault b w) is d)

  -- a piece came for which there is no memory
  pub piece_lost : (left now : Option (List ℕ)) (a : S) (v : Option (List ℕ)) (held piece rest : List ℕ) → Consumes left now piece → Reads turn left now held a v (Err faults.Memory) a rest v
  piece_lost left now a v held piece rest read = (piece, read, cut_off (held ++ piece) a a v v refl (keeps_same v))

  -- a read was interrupted, or failed
  nothing_read : (left now : Option (List ℕ)) → Keeps left now → Consumes left now []
  nothing_read left now kept = Consumes-kept left left now [] (Consumes-nil left) kept

  pub interrupted : (left now : Option (List ℕ)) (a : S) (v : Option (List ℕ)) (held : List ℕ) → Keeps left now → IsPartial held → Reads turn left now held a v (Ok true) a held v
  interrupted left now a v held kept partial =
      ([], nothing_read left now kept, subst (λ l. HasServed turn l a v a held v) (sym (append-nil held)) (nothing_served held a v), partial)

  pub failed : (left now : Option (List ℕ)) (a : S) (v : Option (List ℕ)) (held rest : List ℕ) → Keeps left now → Reads turn left now held a v (Err faults.Read) a rest v
  failed left now a v held rest kept = ([], nothing_read left now kept, cut_off (held ++ []) a a v v refl (keeps_same v))

  pub starts : (left : Option (List ℕ)) (a : S) (u : Option (List ℕ)) → SoFar turn left left a u a [] u
  starts left a u = record { octets = []; read = Consumes-nil left; served = nothing_served [] a u; partial = inl (omega arith) }

  pub goes_on : (left now next : Option (List ℕ)) (a b c : S) (u v w : Option (List ℕ))
      (held rest : List ℕ) → SoFar turn left now a u b held v
      → Reads turn now next held b v (Ok true) c rest w → SoFar turn left next a u c rest w
  goes_on left now next a b c u v w held rest s r = record {
    octets = s.octets ++ r.0;
    read = Consumes-trans left now next s.octets r.0 s.read r.1;
    served = served_join s.octets held r.0 rest a b c u v w s.served r.2;
    partial = r.3;
  }

  pub stops : (left now next : Option (List ℕ)) (fault : ServeFault) (a b c : S)
      (u v w : Option (List ℕ)) (held rest : List ℕ) → SoFar turn left now a u b held v
      → Reads turn now next held b v (Err fault) c rest w
      → Serves turn left a u (Err fault) next c w
  stops left now next (faults.Frame f) a b c u v w held rest s r =
      (s.octets ++ r.0, Consumes-trans left now next s.octets r.0 s.read r.1, stopped_join s.octets held r.0 (faults.Frame f) a b c u v w s.served r.2)
  stops left now next faults.Cut a b c u v w held rest s r = absurd r.2
  stops left now next faults.Read a b c u v w held rest s r =
      (s.octets ++ r.0, Consumes-trans left now next s.octets r.0 s.read r.1, stopped_join s.octets held r.0 faults.Read a b c u v w s.served r.2)
  stops left now next faults.Write a b c u v w held rest s r =
      (s.octets ++ r.0, Consumes-trans left now next s.octets r.0 s.read r.1, stopped_join s.octets held r.0 faults.Write a b c u v w s.served r.2)
  stops left now next faults.ReadLimit a b c u v w held rest s r =
      (s.octets ++ r.0, Consumes-trans left now next s.octets r.0 s.read r.1, stopped_join s.octets held r.0 faults.ReadLimit a b c u v w s.served r.2)
  stops left now next faults.Memory a b c u v w held rest s r =
      (s.octets ++ r.0, Consumes-trans left now next s.octets r.0 s.read r.1, stopped_join s.octets held r.0 faults.Memory a b c u v w s.served r.2)

  at_end : (left now next : Option (List ℕ)) (a b c : S) (u v w : Option (List ℕ))
      (held rest : List ℕ) → (s : SoFar turn left now a u b held v)
      → Reads turn now next held b v (Ok false) c rest w → HasServed turn s.octets a u c rest w
  at_end left now next a b c u v w held rest s r =
      let x : HasServed turn s.octets a u c held v = subst (λ (z : S). HasServed turn s.octets a u z held v) (sym r.2) s.served in
      let y : HasServed turn s.octets a u c rest v = subst (λ l. HasServed turn s.octets a u c l v) (sym r.3) x in
      subst (λ (z : Option (List ℕ)). HasServed turn s.octets a u c rest z) (sym r.4) y

  read_on : (left now next : Option (List ℕ)) (octets : List ℕ) → Consumes left now octets → Consumes now next [] → Consumes left next octets
  read_on left now next octets p q = subst (Consumes left next) (append-nil octets) (Consumes-trans left now next octets [] p q)

  ends : (left now next : Option (List ℕ)) (a b c : S) (u v w : Option (List ℕ))
      (held rest : List ℕ) → SoFar turn left now a u b held v
      → Reads turn now next held b v (Ok false) c rest w → rest ≡ []
      → Serves turn left a u (Ok tt) next c w
  ends left now next a b c u v w held rest s r none =
      (s.octets, read_on left now next s.octets s.read r.0, r.1, subst (λ l. HasServed turn s.octets a u c l w) none (at_end left now next a b c u v w held rest s r))

  ends_cut : (left now next : Option (List ℕ)) (a b c : S) (u v w : Option (List ℕ))
      (held rest : List ℕ) → SoFar turn left now a u b held v
      → Reads turn now next held b v (Ok false) c rest w → rest ≢ []
      → Serves turn left a u (Err faults.Cut) next c w
  ends_cut left now next a b c u v w held rest s r some =
      (s.octets, rest, read_on left now next s.octets s.read r.0, r.1, at_end left now next a b c u v w held rest s r, subst IsPartial (sym r.3) s.partial, some)

  -- the end of the stream, where nothing or less than a whole frame is left
  pub ends_so : (left now next : Option (List ℕ)) (a b c : S) (u v w : Option (List ℕ))
      (held rest : List ℕ) (r : Result (Unit {0}) ServeFault) → SoFar turn left now a u b held v
      → Reads turn now next held b v (Ok false) c rest w
      → OnOk r (rest ≡ []) → IfErr r (λ fault. (fault ≡ faults.Cut) × (rest ≢ [])) → Serves turn left a u r next c w
  ends_so left now next a b c u v w held rest (Ok done) s read whole cut = ends left now next a b c u v w held rest s read whole
  ends_so left now next a b c u v w held rest (Err e) s read whole cut =
      subst (λ (f : ServeFault). Serves turn left a u (Err f) next c w) (sym cut.0) (ends_cut left now next a b c u v w held rest s read cut.1)

  -- the limit of reads is met
  pub meets_limit : (left now : Option (List ℕ)) (a b : S) (u v : Option (List ℕ)) (held : List ℕ) → SoFar turn left now a u b held v → Serves turn left a u (Err faults.ReadLimit) now b v
  meets_limit left now a b u v held s =
      (s.octets, s.read, record { fault = None; served = s.served.0; written = subst (AppendsFront u v) (sym (text-nil s.served.0.answers)) (front_whole u v (text s.served.0.answers) s.served.2) })
