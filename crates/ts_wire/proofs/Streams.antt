-- A stream of octets is read in one way.
use Rattle.std.proofs.Common.{◌≡◌, ◌⊎◌, inl, inr, ℕ, ◌+◌, ◌^◌, ◌<◌, ◌||◌, Bool, true, false, cond}
use Rattle.std.proofs.Common.{eqb, ltb, List, [], ◌∷◌, ◌++◌, length, get_or, take, drop, Option}
use Rattle.std.proofs.Common.{Some, None, Result, Ok, Err, refl, sym, ap, subst, ◌∙◌, append_assoc}
use Rattle.std.proofs.Common.{arith, length-append}
use Rattle.std.specs.List.{flat_map, list_all, AllByRecursion}
use Rattle.std.specs.Int.{w32, to_be_bytes, from_be_bytes}
use Rattle.std.proofs.lemmas.Bool.{eqb-true, lt-ltb, le-ltb}
use Rattle.std.proofs.Math.Dec.{eqb-suc-zero}
use Rattle.std.proofs.lemmas.List.{append-nil, take_at, drop_at}
use Rattle.std.proofs.lemmas.List.Concat.{flat_map-cons}
use Rattle.std.proofs.lemmas.Nat.{from_be_bytes-to_be_bytes_4}
use Rattle.ts_codec.specs.Reading.{Reader, of_kind}
use Rattle.ts_codec.proofs.Rows.{look}
use Rattle.ts_codec.proofs.Truths.{each_true}
use Rattle.ts_wire.specs.Frames.{frame_kind, is_kind, frame_fields, frame_encoding, FrameFits, FrameFieldsFit}
use Rattle.ts_wire.specs.inside.FrameReading.{readers, fields_at, whole_frame, frame_in}
use Rattle.ts_wire.specs.Stream.{IsLength, IsPartial, IsFramed, IsFault, Ends, Splits}
use Rattle.ts_wire.specs.declared.fault.FrameFault.{FrameFault}
use Rattle.ts_wire.specs.declared.fault.FrameFault.TheVariants.{Length, Version, Kind, Field, Trailing}
use Rattle.ts_wire.specs.declared.frame.Frame.{Frame}
use Rattle.ts_wire.proofs.FrameLaws.{frame_part}

-- what is at the front of a stream
pub data Next : Type 0 where
  frame : Frame → List ℕ → Next
  partial : Next
  wrong : FrameFault → Next

abbrev judged : List ℕ → Result Frame FrameFault → Next
judged rest (Ok f) = frame f rest
judged rest (Err x) = wrong x

abbrev sized : ℕ → List ℕ → Next
sized n body = cond (ltb n 2 || ltb 8388608 n) (wrong Length) (cond (ltb (length body) n) partial (judged (drop n body) (frame_in (take n body))))

abbrev next : List ℕ → Next
next octets = cond (ltb (length octets) 4) partial (sized (from_be_bytes w32 (take 4 octets)) (drop 4 octets))

next_at : (n : ℕ) (body : List ℕ) → n < 2 ^ 32 → next (to_be_bytes w32 n ++ body) ≡ sized n body
next_at n body small =
    let long : ltb (length (to_be_bytes w32 n ++ body)) 4 ≡ false = le-ltb _ _ (omega (arith, length-append (to_be_bytes w32 n) body)) in
    let t : take 4 (to_be_bytes w32 n ++ body) ≡ to_be_bytes w32 n = take_at (to_be_bytes w32 n) body 4 refl in
    let d : drop 4 (to_be_bytes w32 n ++ body) ≡ body = drop_at (to_be_bytes w32 n) body 4 refl in
    ap (λ b. cond b partial (sized (from_be_bytes w32 (take 4 (to_be_bytes w32 n ++ body))) (drop 4 (to_be_bytes w32 n ++ body)))) long
    ∙ ap (λ l. sized (from_be_bytes w32 l) (drop 4 (to_be_bytes w32 n ++ body))) t
    ∙ ap (λ m. sized m (drop 4 (to_be_bytes w32 n ++ body))) (from_be_bytes-to_be_bytes_4 n small)
    ∙ ap (sized n) d

-- a body of its length, and octets after it
whole_at : (octets body after : List ℕ) → octets ≡ to_be_bytes w32 (length body) ++ (body ++ after) → IsLength (length body) → next octets ≡ judged after (frame_in body)
whole_at octets body after is length_is =
    let n = length body in
    let low : ltb n 2 ≡ false = le-ltb _ _ length_is.0 in
    let high : ltb 8388608 n ≡ false = le-ltb _ _ length_is.1 in
    let enough : ltb (length (body ++ after)) n ≡ false = le-ltb _ _ (omega (arith, length-append body after)) in
    ap next is ∙ next_at n (body ++ after) (omega (arith, length_is.1))
    ∙ ap (λ b. cond (b || ltb 8388608 n) (wrong Length) (cond (ltb (length (body ++ after)) n) partial (judged (drop n (body ++ after)) (frame_in (take n (body ++ after)))))) low
    ∙ ap (λ b. cond b (wrong Length) (cond (ltb (length (body ++ after)) n) partial (judged (drop n (body ++ after)) (frame_in (take n (body ++ after)))))) high
    ∙ ap (λ b. cond b partial (judged (drop n (body ++ after)) (frame_in (take n (body ++ after))))) enough
    ∙ ap (λ l. judged l (frame_in (take n (body ++ after)))) (drop_at body after n refl)
    ∙ ap (λ l. judged after (frame_in l)) (take_at body after n refl)

-- ---- a frame

-- the rows are of kinds that there are, and each frame's fields are read by one of them
kinds_are : list_all (λ row. is_kind row.0) readers ≡ true
kinds_are = refl

kind_is : (f : Frame) → FrameFieldsFit f → is_kind (frame_kind f) ≡ true
unfolding fields_at of_kind
kind_is f fit =
    look (frame_kind f) readers (λ n read. is_kind n ≡ true) (λ read. read (frame_fields f ++ []))
    (f, []) (each_true (λ (row : ℕ × Reader Frame). is_kind row.0) (λ row. is_kind row.0 ≡ true)
    (λ row k. k) readers kinds_are)
    ((frame_part (frame_kind f)).again f [] (fit, refl)) (λ read k e. k)

frame_again : (f : Frame) → FrameFits f → frame_in (2 ∷ frame_kind f ∷ frame_fields f) ≡ Ok f
unfolding frame_in
frame_again f fit =
    let e : fields_at (frame_kind f) (frame_fields f) ≡ Some (f, []) = ap (fields_at (frame_kind f)) (sym (append-nil (frame_fields f))) ∙ (frame_part (frame_kind f)).again f [] (fit.ranges, refl) in
    ap (λ b. cond b (whole_frame (fields_at (frame_kind f) (frame_fields f))) (Err Kind)) (kind_is f fit.ranges) ∙ ap whole_frame e

pub next_frame : (f : Frame) (after : List ℕ) → FrameFits f → next (frame_encoding f ++ after) ≡ frame f after
next_frame f after fit =
    let n : length (2 ∷ frame_kind f ∷ frame_fields f) ≡ 2 + length (frame_fields f) = omega arith in
    whole_at (frame_encoding f ++ after) (2 ∷ frame_kind f ∷ frame_fields f) after
    (ap (λ k. to_be_bytes w32 k ++ ((2 ∷ frame_kind f ∷ frame_fields f) ++ after)) (sym n))
    (omega (arith, n), omega (arith, n, fit.short))
    ∙ ap (judged after) (frame_again f fit)

-- ---- less than a frame

pub next_partial : (octets : List ℕ) → IsPartial octets → next octets ≡ partial
next_partial octets (inl few) = ap (λ b. cond b partial (sized (from_be_bytes w32 (take 4 octets)) (drop 4 octets))) (lt-ltb (length octets) 4 few)
next_partial octets (inr x) =
    let n = x.0 in
    let body = x.1 in
    let low : ltb n 2 ≡ false = le-ltb _ _ x.2.0 in
    let high : ltb 8388608 n ≡ false = le-ltb _ _ x.2.1 in
    ap next x.3 ∙ next_at n body (omega (arith, x.2.1))
    ∙ ap (λ b. cond (b || ltb 8388608 n) (wrong Length) (cond (ltb (length body) n) partial (judged (drop n body) (frame_in (take n body))))) low
    ∙ ap (λ b. cond b (wrong Length) (cond (ltb (length body) n) partial (judged (drop n body) (frame_in (take n body))))) high
    ∙ ap (λ b. cond b partial (judged (drop n body) (frame_in (take n body)))) (lt-ltb (length body) n x.4)

-- ---- a fault

framed_at : (octets : List ℕ) (version kind : ℕ) (rest : List ℕ) (x : FrameFault) → (f : IsFramed octets version kind rest) → frame_in (version ∷ kind ∷ rest) ≡ Err x → next octets ≡ wrong x
framed_at octets version kind rest x f e =
    let n : length (version ∷ kind ∷ rest) ≡ 2 + length rest = omega arith in
    whole_at octets (version ∷ kind ∷ rest) f.after (f.is ∙ ap (λ k. to_be_bytes w32 k ++ (version ∷ kind ∷ (rest ++ f.after))) (sym n)) (omega (arith, n), omega (arith, n, f.short))
    ∙ ap (judged f.after) e

wrong_length : (n : ℕ) (body : List ℕ) → n < 2 ⊎ 8388608 < n → sized n body ≡ wrong Length
wrong_length n body (inl low) = ap (λ b. cond (b || ltb 8388608 n) (wrong Length) (cond (ltb (length body) n) partial (judged (drop n body) (frame_in (take n body))))) (lt-ltb n 2 low)
wrong_length n body (inr high) =
    let h : ltb 8388608 n ≡ true = lt-ltb 8388608 n high in
    let low : ltb n 2 ≡ false = le-ltb _ _ (omega (arith, high)) in
    ap (λ b. cond (b || ltb 8388608 n) (wrong Length) (cond (ltb (length body) n) partial (judged (drop n body) (frame_in (take n body))))) low
    ∙ ap (λ b. cond b (wrong Length) (cond (ltb (length body) n) partial (judged (drop n body) (frame_in (take n body))))) h

-- each fault but Field is what is at the front
next_fault : (x : FrameFault) (octets : List ℕ) → IsFault x octets → (next octets ≡ wrong x) ⊎ (x ≡ Field)
unfolding frame_in
next_fault Length octets f = inl (ap next f.4 ∙ next_at f.0 f.1 f.2 ∙ wrong_length f.0 f.1 f.3)
next_fault Version octets f =
    inl (framed_at octets f.0 f.1 f.2 Version f.3 (by (eqb f.0 2) refl))
  where
    by : (b : Bool) → eqb f.0 2 ≡ b → cond b (cond (is_kind f.1) (whole_frame (fields_at f.1 f.2)) (Err Kind)) (Err Version) ≡ Err Version
    by true e = absurd (f.4 (eqb-true _ _ e))
    by false e = refl
next_fault Kind octets f = inl (framed_at octets 2 f.0 f.1 Kind f.2 (ap (λ b. cond b (whole_frame (fields_at f.0 f.1)) (Err Kind)) f.3))
next_fault Field octets f = inr refl
next_fault Trailing octets f =
    let g = f.4 in
    let e : fields_at f.0 f.1 ≡ Some (g.0, g.1 ∷ g.2) = ap (λ l. fields_at f.0 l) g.5 ∙ (frame_part f.0).again g.0 (g.1 ∷ g.2) (g.3, g.4) in
    inl (framed_at octets 2 f.0 f.1 Trailing f.2
    (ap (λ b. cond b (whole_frame (fields_at f.0 f.1)) (Err Kind)) f.3 ∙ ap whole_frame e
    ∙ ap (λ b. cond b (Ok g.0) (Err Trailing)) (eqb-suc-zero (length g.2))))

-- where Field stands, fields are looked into
pub record Looked (octets : List ℕ) : Type 0 where
  pub fields_read : Option (Frame × List ℕ)
  pub after : List ℕ
  pub is : next octets ≡ judged after (whole_frame fields_read)

looked : (octets : List ℕ) → IsFault Field octets → Looked octets
unfolding frame_in
looked octets f =
    let n : length (2 ∷ f.0 ∷ f.1) ≡ 2 + length f.1 = omega arith in
    record {
      fields_read = fields_at f.0 f.1;
      after = f.2.after;
      is = whole_at octets (2 ∷ f.0 ∷ f.1) f.2.after (f.2.is ∙ ap (λ k. to_be_bytes w32 k ++ (2 ∷ f.0 ∷ (f.1 ++ f.2.after))) (sym n)) (omega (arith, n), omega (arith, n, f.2.short))
          ∙ ap (λ b. judged f.2.after (cond b (whole_frame (fields_at f.0 f.1)) (Err Kind))) f.3;
    }

-- octets begin with one body after its length
pub record SameBody (version other kind another : ℕ) (rest more : List ℕ) : Type 0 where
  pub version_is : version ≡ other
  pub kind_is : kind ≡ another
  pub rest_is : rest ≡ more

same_body : (octets : List ℕ) (version other kind another : ℕ) (rest more : List ℕ)
    → IsFramed octets version kind rest → IsFramed octets other another more
    → SameBody version other kind another rest more
same_body octets version other kind another rest more f g =
    let e = sym f.is ∙ g.is in
    let m = 2 + length rest in
    let n = 2 + length more in
    let small : m < 2 ^ 32 = omega (arith, f.short) in
    let less : n < 2 ^ 32 = omega (arith, g.short) in
    let k : m ≡ n = sym (from_be_bytes-to_be_bytes_4 m small) ∙ ap (λ l. from_be_bytes w32 (take 4 l)) e ∙ from_be_bytes-to_be_bytes_4 n less in
    let d : (version ∷ kind ∷ (rest ++ f.after)) ≡ (other ∷ another ∷ (more ++ g.after)) = ap (drop 4) e in
    let t : rest ++ f.after ≡ more ++ g.after = ap (drop 2) d in
    let same : length more ≡ length rest = omega (arith, k) in
    record {
      version_is = ap (λ l. get_or l 0 0) d;
      kind_is = ap (λ l. get_or l 1 0) d;
      rest_is = sym (take_at rest f.after (length rest) refl) ∙ ap (take (length rest)) t ∙ take_at more g.after (length rest) same;
    }

frame_framed : (f : Frame) (after : List ℕ) → FrameFits f → IsFramed (frame_encoding f ++ after) 2 (frame_kind f) (frame_fields f)
frame_framed f after fit = record { after = after; short = fit.short; is = refl }

-- no frame is where Field does
not_cut : (f : Frame) (after octets : List ℕ) → FrameFits f → octets ≡ frame_encoding f ++ after → IsFault Field octets → ⊥
not_cut f after octets fit is x =
    let here : IsFramed octets 2 (frame_kind f) (frame_fields f) = subst (λ l. IsFramed l 2 (frame_kind f) (frame_fields f)) (sym is) (frame_framed f after fit) in
    let b = same_body octets 2 2 (frame_kind f) x.0 (frame_fields f) x.1 here x.2 in
    x.4 f [] fit.ranges b.kind_is (sym b.rest_is ∙ sym (append-nil (frame_fields f)))

-- nor do octets after a frame's fields
not_trailing : (octets : List ℕ) → IsFault Field octets → IsFault Trailing octets → ⊥
not_trailing octets x y =
    let b = same_body octets 2 2 x.0 y.0 x.1 y.1 x.2 y.2 in
    x.4 y.4.0 (y.4.1 ∷ y.4.2) y.4.3 (y.4.4 ∙ sym b.kind_is) (b.rest_is ∙ y.4.5)

-- ---- the laws

abbrev frame_or : Frame → Next → Frame
frame_or d (frame f rest) = f
frame_or d partial = d
frame_or d (wrong x) = d

abbrev rest_or : List ℕ → Next → List ℕ
rest_or d (frame f rest) = rest
rest_or d partial = d
rest_or d (wrong x) = d

pub same_frame : (f g : Frame) (a b : List ℕ) → FrameFits f → FrameFits g → frame_encoding f ++ a ≡ frame_encoding g ++ b → f ≡ g
same_frame f g a b p q e = ap (frame_or f) (sym (next_frame f a p) ∙ ap next e ∙ next_frame g b q)

pub same_rest : (f g : Frame) (a b : List ℕ) → FrameFits f → FrameFits g → frame_encoding f ++ a ≡ frame_encoding g ++ b → a ≡ b
same_rest f g a b p q e = ap (rest_or a) (sym (next_frame f a p) ∙ ap next e ∙ next_frame g b q)

abbrev end_of : Option FrameFault → Next
end_of None = partial
end_of (Some x) = wrong x

no_frame : (x : Option FrameFault) (f : Frame) (a : List ℕ) → end_of x ≡ frame f a → ⊥
no_frame None f a e = absurd (cc e)
no_frame (Some x) f a e = absurd (cc e)

-- no frame is where a stream ends
pub frame_or_end : (x : Option FrameFault) (f : Frame) (after octets : List ℕ) → FrameFits f → octets ≡ frame_encoding f ++ after → Ends x octets → ⊥
frame_or_end None f after octets fit is e = no_frame None f after (sym (next_partial octets e) ∙ ap next is ∙ next_frame f after fit)
frame_or_end (Some x) f after octets fit is e = by (next_fault x octets e)
  where
    by : (next octets ≡ wrong x) ⊎ (x ≡ Field) → ⊥
    by (inl n) = no_frame (Some x) f after (sym n ∙ ap next is ∙ next_frame f after fit)
    by (inr field) = not_cut f after octets fit is (subst (λ y. IsFault y octets) field e)

wrong_is : (x y : FrameFault) → wrong x ≡ wrong y → x ≡ y
wrong_is x y e = cc

-- what is looked into is no other fault than Field and Trailing, and no part of a frame
pub data IsLate : FrameFault → Type 0 where
  field : IsLate Field
  trailing : IsLate Trailing

late : (octets : List ℕ) (x : FrameFault) → Looked octets → next octets ≡ wrong x → IsLate x
late octets x l n = by l.fields_read (sym l.is ∙ n)
  where
    of_end : (f : Frame) (b : Bool) → judged l.after (cond b (Ok f) (Err Trailing)) ≡ wrong x → IsLate x
    of_end f true e = absurd (cc e)
    of_end f false e = subst IsLate (wrong_is Trailing x e) trailing

    by : (r : Option (Frame × List ℕ)) → judged l.after (whole_frame r) ≡ wrong x → IsLate x
    by None e = subst IsLate (wrong_is Field x e) field
    by (Some g) e = of_end g.0 (eqb (length g.1) 0) e

not_partial : (octets : List ℕ) → Looked octets → next octets ≡ partial → ⊥
not_partial octets l n = by l.fields_read (sym l.is ∙ n)
  where
    of_end : (f : Frame) (b : Bool) → judged l.after (cond b (Ok f) (Err Trailing)) ≡ partial → ⊥
    of_end f true e = absurd (cc e)
    of_end f false e = absurd (cc e)

    by : (r : Option (Frame × List ℕ)) → judged l.after (whole_frame r) ≡ partial → ⊥
    by None e = absurd (cc e)
    by (Some g) e = of_end g.0 (eqb (length g.1) 0) e

-- a fault beside Field is Field
beside_field : (octets : List ℕ) (y : FrameFault) → IsFault Field octets → IsFault y octets → Field ≡ y
beside_field octets y f e = by (next_fault y octets e)
  where
    is_late : (z : FrameFault) → IsLate z → IsFault z octets → Field ≡ z
    is_late Field l e = refl
    is_late Trailing l e = absurd (not_trailing octets f e)
    is_late Length l e = refute l
      where
        refute : IsLate Length → Field ≡ Length
        refute r = elim r [ ]
    is_late Version l e = elim l [ ]
    is_late Kind l e = elim l [ ]

    by : (next octets ≡ wrong y) ⊎ (y ≡ Field) → Field ≡ y
    by (inr same) = sym same
    by (inl n) = is_late y (late octets y (looked octets f) n) e

same_fault : (octets : List ℕ) (x y : FrameFault) → IsFault x octets → IsFault y octets → x ≡ y
same_fault octets x y e f = by (next_fault x octets e) (next_fault y octets f)
  where
    by : (next octets ≡ wrong x) ⊎ (x ≡ Field) → (next octets ≡ wrong y) ⊎ (y ≡ Field) → x ≡ y
    by (inl m) (inl n) = wrong_is x y (sym m ∙ n)
    by (inr same) other = same ∙ beside_field octets y (subst (λ z. IsFault z octets) same e) f
    by (inl m) (inr same) = sym (same ∙ beside_field octets x (subst (λ z. IsFault z octets) same f) e)

part_or_fault : (octets : List ℕ) (x : FrameFault) → IsPartial octets → IsFault x octets → ⊥
part_or_fault octets x p e = by (next_fault x octets e)
  where
    by : (next octets ≡ wrong x) ⊎ (x ≡ Field) → ⊥
    by (inl n) = absurd (cc (sym (next_partial octets p) ∙ n))
    by (inr same) = not_partial octets (looked octets (subst (λ z. IsFault z octets) same e)) (next_partial octets p)

same_end : (octets : List ℕ) (x y : Option FrameFault) → Ends x octets → Ends y octets → x ≡ y
same_end octets None None e f = refl
same_end octets None (Some y) e f = absurd (part_or_fault octets y e f)
same_end octets (Some x) None e f = absurd (part_or_fault octets x f e)
same_end octets (Some x) (Some y) e f = ap (λ (z : FrameFault). Some z) (same_fault octets x y e f)

pub split : (f : Frame) (fs : List Frame) (rest : List ℕ) → flat_map frame_encoding (f ∷ fs) ++ rest ≡ frame_encoding f ++ (flat_map frame_encoding fs ++ rest)
split f fs rest = ap (λ l. l ++ rest) (flat_map-cons frame_encoding f fs) ∙ append_assoc (frame_encoding f) (flat_map frame_encoding fs) rest

-- two readings of one list of octets
pub record SameReading (frames others : List Frame) (fault other : Option FrameFault) : Type 0 where
  pub same_frames : frames ≡ others
  pub same_fault : fault ≡ other

pub same_reading : (frames others : List Frame) (fault other : Option FrameFault) (rest more : List ℕ) → flat_map frame_encoding frames ++ rest ≡ flat_map frame_encoding others ++ more
    → AllByRecursion FrameFits frames → AllByRecursion FrameFits others → Ends fault rest → Ends other more → SameReading frames others fault other
same_reading [] [] fault other rest more e p q x y =
    record { same_frames = refl; same_fault = same_end rest fault other x (subst (Ends other) (sym e) y) }
same_reading [] (g ∷ gs) fault other rest more e p q x y = absurd (frame_or_end fault g (flat_map frame_encoding gs ++ more) rest q.0 (e ∙ split g gs more) x)
same_reading (f ∷ fs) [] fault other rest more e p q x y = absurd (frame_or_end other f (flat_map frame_encoding fs ++ rest) more p.0 (sym e ∙ split f fs rest) y)
same_reading (f ∷ fs) (g ∷ gs) fault other rest more e p q x y =
    let both : frame_encoding f ++ (flat_map frame_encoding fs ++ rest) ≡ frame_encoding g ++ (flat_map frame_encoding gs ++ more) = sym (split f fs rest) ∙ e ∙ split g gs more in
    let t = same_reading fs gs fault other rest more (same_rest f g _ _ p.0 q.0 both) p.1 q.1 x y in
    let h = same_frame f g _ _ p.0 q.0 both in
    record { same_frames = λ i. h i ∷ t.same_frames i; same_fault = t.same_fault }

pub one_reading : (stream : List ℕ) (frames others : List Frame) (fault other : Option FrameFault) → Splits stream frames fault → Splits stream others other → SameReading frames others fault other
one_reading stream frames others fault other s t = same_reading frames others fault other s.rest t.rest (sym s.is ∙ t.is) s.each t.each s.ends t.ends

-- a fault stays
framed_stays : (octets more : List ℕ) (version kind : ℕ) (rest : List ℕ) → IsFramed octets version kind rest → IsFramed (octets ++ more) version kind rest
framed_stays octets more version kind rest f = record {
  after = f.after ++ more;
  short = f.short;
  is = ap (λ l. l ++ more) f.is ∙ ap (λ l. to_be_bytes w32 (2 + length rest) ++ (version ∷ kind ∷ l)) (append_assoc rest f.after more);
}

pub stays : (x : FrameFault) (octets more : List ℕ) → IsFault x octets → IsFault x (octets ++ more)
stays Length octets more f = (f.0, f.1 ++ more, f.2, f.3, ap (λ l. l ++ more) f.4)
stays Version octets more f = (f.0, f.1, f.2, framed_stays octets more f.0 f.1 f.2 f.3, f.4)
stays Kind octets more f = (f.0, f.1, framed_stays octets more 2 f.0 f.1 f.2, f.3)
stays Field octets more f = (f.0, f.1, framed_stays octets more 2 f.0 f.1 f.2, f.3, f.4)
stays Trailing octets more f = (f.0, f.1, framed_stays octets more 2 f.0 f.1 f.2, f.3, f.4)
