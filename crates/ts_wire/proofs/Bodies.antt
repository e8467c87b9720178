-- What follows a frame's length is a frame, or the fault that the definitions name.
use Rattle.std.proofs.Common.{◌≡◌, ◌≢◌, ℕ, suc, ◌+◌, ◌≤◌, Bool, true, false, cond, eqb, List, []}
use Rattle.std.proofs.Common.{◌∷◌, ◌++◌, length, take, drop, Option, Some, None, Result, Ok, Err}
use Rattle.std.proofs.Common.{refl, sym, ap, subst, ◌∙◌, arith, length-take, length-drop}
use Rattle.std.proofs.Common.{take-append-drop}
use Rattle.std.specs.Int.{w32, to_be_bytes}
use Rattle.std.proofs.lemmas.Bool.{eqb-true, eqb-false}
use Rattle.std.proofs.lemmas.List.{append-nil, nil_from_length, drop-drop}
use Rattle.ts_codec.proofs.Laws.{IsBytes, front_bytes, back_bytes}
use Rattle.ts_wire.specs.Frames.{frame_kind, is_kind, frame_fields, frame_encoding, FrameFieldsFit, FrameFits}
use Rattle.ts_wire.specs.inside.FrameReading.{fields_at, whole_frame, frame_in}
use Rattle.ts_wire.specs.Stream.{IsFramed, IsCut, GoesOn, IsFault}
use Rattle.ts_wire.specs.Taking.{IsWrong}
use Rattle.ts_wire.specs.inside.Taking.{FrameGives, HasSize}
use Rattle.ts_wire.specs.declared.fault.FrameFault.{FrameFault}
use Rattle.ts_wire.specs.declared.fault.FrameFault.TheVariants.{Version, Kind, Field, Trailing}
use Rattle.ts_wire.specs.declared.frame.Frame.{Frame}
use Rattle.ts_wire.specs.declared.wire_error.FeedError.{FeedError}
use Rattle.ts_wire.specs.declared.wire_error.FeedError.TheVariants.{Memory, Frame as Wrong}
use Rattle.ts_wire.proofs.FrameLaws.{frame_part}

-- a frame as what follows its length
pub record IsBody (body : List ℕ) (f : Frame) : Type 0 where
  pub ranges : FrameFieldsFit f
  pub is : body ≡ 2 ∷ frame_kind f ∷ frame_fields f

abbrev ok_of : Frame → Result Frame FrameFault → Frame
ok_of f (Ok g) = g
ok_of f (Err x) = f

same_frame : (f g : Frame) (x : Result Frame FrameFault) → x ≡ Ok f → x ≡ Ok g → f ≡ g
same_frame f g x p q = ap (ok_of f) (sym p ∙ q)

same_fault : (a b : FrameFault) (r : Result Frame FrameFault) → r ≡ Err a → r ≡ Err b → a ≡ b
same_fault a b r p q = ap err_of (sym p ∙ q)
  where
    err_of : Result Frame FrameFault → FrameFault
    err_of (Ok g) = a
    err_of (Err x) = x

-- what reading a body gives, by its parts
pub data Reading (version kind : ℕ) (rest : List ℕ) : Result Frame FrameFault → Type 0 where
  other_version : version ≢ 2 → Reading version kind rest (Err Version)
  no_kind : version ≡ 2 → is_kind kind ≡ false → Reading version kind rest (Err Kind)
  no_fields : version ≡ 2 → is_kind kind ≡ true → fields_at kind rest ≡ None → Reading version kind rest (Err Field)
  more : (f : Frame) (after : List ℕ) → version ≡ 2 → is_kind kind ≡ true → fields_at kind rest ≡ Some (f, after) → (length after ≡ 0 → ⊥) → Reading version kind rest (Err Trailing)
  whole : (f : Frame) → version ≡ 2 → is_kind kind ≡ true → fields_at kind rest ≡ Some (f, []) → Reading version kind rest (Ok f)

pub read_of : (version kind : ℕ) (rest : List ℕ) → Reading version kind rest (frame_in (version ∷ kind ∷ rest))
unfolding frame_in
read_of version kind rest = by_version (eqb version 2) refl
  where
    by_end : (f : Frame) (after : List ℕ) → version ≡ 2 → is_kind kind ≡ true
        → fields_at kind rest ≡ Some (f, after) → (b : Bool) → eqb (length after) 0 ≡ b
        → Reading version kind rest (cond b (Ok f) (Err Trailing))
    by_end f after v k e true z = whole f v k (e ∙ ap (λ (l : List ℕ). Some (f, l)) (nil_from_length after (eqb-true _ _ z)))
    by_end f after v k e false z = more f after v k e (eqb-false _ _ z)

    by_fields : version ≡ 2 → is_kind kind ≡ true → (r : Option (Frame × List ℕ)) → fields_at kind rest ≡ r → Reading version kind rest (whole_frame r)
    by_fields v k None e = no_fields v k e
    by_fields v k (Some x) e = by_end x.0 x.1 v k e (eqb (length x.1) 0) refl

    by_kind : version ≡ 2 → (b : Bool) → is_kind kind ≡ b → Reading version kind rest (cond b (whole_frame (fields_at kind rest)) (Err Kind))
    by_kind v true k = by_fields v k (fields_at kind rest) refl
    by_kind v false k = no_kind v k

    by_version : (b : Bool) → eqb version 2 ≡ b → Reading version kind rest (cond b (cond (is_kind kind) (whole_frame (fields_at kind rest)) (Err Kind)) (Err Version))
    by_version true v = by_kind (eqb-true _ _ v) (is_kind kind) refl
    by_version false v = other_version (eqb-false _ _ v)

-- ---- a frame

is_body_by : (version kind : ℕ) (rest : List ℕ) (f : Frame) (r : Result Frame FrameFault) → IsBytes rest → Reading version kind rest r → r ≡ Ok f → IsBody (version ∷ kind ∷ rest) f
is_body_by version kind rest f r bytes (other_version v) e = absurd (cc e)
is_body_by version kind rest f r bytes (no_kind v k) e = absurd (cc e)
is_body_by version kind rest f r bytes (no_fields v k h) e = absurd (cc e)
is_body_by version kind rest f r bytes (more g after v k h n) e = absurd (cc e)
is_body_by version kind rest f r bytes (whole g v k h) e =
    let t = (frame_part kind).takes rest g [] bytes h in
    let same : g ≡ f = ap (ok_of g) e in
    subst (IsBody (version ∷ kind ∷ rest)) same
    (record {
      ranges = t.1.0;
      is = ap (λ n. n ∷ kind ∷ rest) v ∙ ap (λ n. 2 ∷ n ∷ rest) (sym t.1.1) ∙ ap (λ l. 2 ∷ frame_kind g ∷ l) (t.0.is ∙ append-nil (frame_fields g));
    })

pub is_body : (body : List ℕ) (f : Frame) → IsBytes body → 2 ≤ length body → frame_in body ≡ Ok f → IsBody body f
is_body [] f bytes long e = absurd (omega (arith, long))
is_body (version ∷ []) f bytes long e = absurd (omega (arith, long))
is_body (version ∷ kind ∷ rest) f bytes long e = is_body_by version kind rest f (frame_in (version ∷ kind ∷ rest)) (λ i. bytes (suc (suc i))) (read_of version kind rest) e

-- where a body is a frame, the octets begin with its encoding
pub begins : (octets body after : List ℕ) (f : Frame) → octets ≡ to_be_bytes w32 (length body)
    ++ (body ++ after) → length body ≤ 8388608 → IsBody body f → FrameFits f
    × (octets ≡ frame_encoding f ++ after)
begins octets body after f is short b =
    let n : length body ≡ 2 + length (frame_fields f) = omega (arith, ap length b.is) in (
      record { ranges = b.ranges; short = omega (arith, short, n) },
      is
          ∙ ap (λ k. to_be_bytes w32 k ++ (body ++ after)) n
          ∙ ap (λ l. to_be_bytes w32 (2 + length (frame_fields f)) ++ (l ++ after)) b.is,
    )

-- ---- a fault

framed : (octets after : List ℕ) (version kind : ℕ) (rest : List ℕ)
    → octets ≡ to_be_bytes w32 (2 + length rest) ++ (version ∷ kind ∷ (rest ++ after))
    → 2 + length rest ≤ 8388608 → IsFramed octets version kind rest
framed octets after version kind rest is short = record { after = after; short = short; is = is }

cut : (kind : ℕ) (rest : List ℕ) → 2 + length rest ≤ 8388608 → fields_at kind rest ≡ None → IsCut kind rest
cut kind rest short none f after ranges same is =
    let e : None ≡ Some (f, after) = sym none ∙ ap (λ l. fields_at kind l) is ∙ (frame_part kind).again f after (ranges, same) in
    absurd (cc e)

goes_on : (kind : ℕ) (rest : List ℕ) (f : Frame) (after : List ℕ) → IsBytes rest → fields_at kind rest ≡ Some (f, after) → (length after ≡ 0 → ⊥) → GoesOn kind rest
goes_on kind rest f [] bytes e n = absurd (n refl)
goes_on kind rest f (next ∷ after) bytes e n = let t = (frame_part kind).takes rest f (next ∷ after) bytes e in (f, next, after, t.1.0, t.1.1, t.0.is)

fault_by : (octets after : List ℕ) (version kind : ℕ) (rest : List ℕ) (x : FrameFault)
    (r : Result Frame FrameFault) → IsBytes rest → octets ≡ to_be_bytes w32 (2 + length rest)
    ++ (version ∷ kind ∷ (rest ++ after)) → 2 + length rest ≤ 8388608
    → Reading version kind rest r → r ≡ Err x → IsFault x octets
fault_by octets after version kind rest x r bytes is short (other_version v) e =
    subst (λ y. IsFault y octets) (same_fault Version x (Err Version) refl e) (version, kind, rest, framed octets after version kind rest is short, v)
fault_by octets after version kind rest x r bytes is short (no_kind v k) e =
    subst (λ y. IsFault y octets) (same_fault Kind x (Err Kind) refl e) (
      kind,
      rest,
      framed octets after 2 kind rest
          (is ∙ ap (λ n. to_be_bytes w32 (2 + length rest) ++ (n ∷ kind ∷ (rest ++ after))) v) short,
      k,
    )
fault_by octets after version kind rest x r bytes is short (no_fields v k h) e =
    subst (λ y. IsFault y octets) (same_fault Field x (Err Field) refl e) (
      kind,
      rest,
      framed octets after 2 kind rest
          (is ∙ ap (λ n. to_be_bytes w32 (2 + length rest) ++ (n ∷ kind ∷ (rest ++ after))) v) short,
      k,
      cut kind rest short h,
    )
fault_by octets after version kind rest x r bytes is short (more f end v k h n) e =
    subst (λ y. IsFault y octets) (same_fault Trailing x (Err Trailing) refl e) (
      kind,
      rest,
      framed octets after 2 kind rest
          (is ∙ ap (λ n. to_be_bytes w32 (2 + length rest) ++ (n ∷ kind ∷ (rest ++ after))) v) short,
      k,
      goes_on kind rest f end bytes h n,
    )
fault_by octets after version kind rest x r bytes is short (whole f v k h) e = absurd (cc e)

pub is_fault : (octets body after : List ℕ) (x : FrameFault) → IsBytes body
    → octets ≡ to_be_bytes w32 (length body) ++ (body ++ after) → 2 ≤ length body
    → length body ≤ 8388608 → frame_in body ≡ Err x → IsFault x octets
is_fault octets [] after x bytes is long short e = absurd (omega (arith, long))
is_fault octets (version ∷ []) after x bytes is long short e = absurd (omega (arith, long))
is_fault octets (version ∷ kind ∷ rest) after x bytes is long short e =
    let n : length (version ∷ kind ∷ rest) ≡ 2 + length rest = omega arith in
    fault_by octets after version kind rest x (frame_in (version ∷ kind ∷ rest))
    (λ i. bytes (suc (suc i)))
    (is ∙ ap (λ k. to_be_bytes w32 k ++ (version ∷ kind ∷ (rest ++ after))) n)
    (omega (arith, short)) (read_of version kind rest) e

-- ---- as the code cuts the octets

sized_is : (octets : List ℕ) (n : ℕ) → HasSize octets n → octets ≡ to_be_bytes w32 (length (take n (drop 4 octets))) ++ (take n (drop 4 octets) ++ drop n (drop 4 octets))
sized_is octets n s =
    let k : length (take n (drop 4 octets)) ≡ n = omega (arith, s.enough, length-take n (drop 4 octets), length-drop 4 octets) in
    s.is ∙ ap (λ l. to_be_bytes w32 n ++ l) (sym (take-append-drop n (drop 4 octets))) ∙ ap (λ m. to_be_bytes w32 m ++ (take n (drop 4 octets) ++ drop n (drop 4 octets))) (sym k)

sized_length : (octets : List ℕ) (n : ℕ) → HasSize octets n → length (take n (drop 4 octets)) ≡ n
sized_length octets n s = omega (arith, s.enough, length-take n (drop 4 octets), length-drop 4 octets)

body_bytes : (octets : List ℕ) (n : ℕ) → IsBytes octets → IsBytes (take n (drop 4 octets))
body_bytes octets n bytes =
    let all : IsBytes (take 4 octets ++ drop 4 octets) = subst IsBytes (sym (take-append-drop 4 octets)) bytes in
    let back = back_bytes (take 4 octets) (drop 4 octets) all in
    let split : IsBytes (take n (drop 4 octets) ++ drop n (drop 4 octets)) = subst IsBytes (sym (take-append-drop n (drop 4 octets))) back in
    front_bytes (take n (drop 4 octets)) (drop n (drop 4 octets)) split

pub first_frame : (octets : List ℕ) (n : ℕ) (f : Frame) → IsBytes octets → HasSize octets n
    → FrameGives (Ok f) (frame_in (take n (drop 4 octets))) → FrameFits f × (4 + n ≤ length octets)
    × (octets ≡ frame_encoding f ++ drop (4 + n) octets)
first_frame octets n f bytes s e =
    let k = sized_length octets n s in
    let b = is_body (take n (drop 4 octets)) f (body_bytes octets n bytes) (omega (arith, k, s.length_is.0)) e in
    let t = begins octets (take n (drop 4 octets)) (drop n (drop 4 octets)) f (sized_is octets n s) (omega (arith, k, s.length_is.1)) b in
    (t.0, s.enough, t.1 ∙ ap (λ l. frame_encoding f ++ l) (drop_twice octets n))
  where
    drop_twice : (octets : List ℕ) (n : ℕ) → drop n (drop 4 octets) ≡ drop (4 + n) octets
    drop_twice octets n = simp drop-drop

pub first_fault : (octets : List ℕ) (n : ℕ) (e : FeedError) → IsBytes octets → HasSize octets n → FrameGives (Err e) (frame_in (take n (drop 4 octets))) → IsWrong e octets
first_fault octets n Memory bytes s e = tt
first_fault octets n (Wrong x) bytes s e =
    let k = sized_length octets n s in
    is_fault octets (take n (drop 4 octets)) (drop n (drop 4 octets)) x (body_bytes octets n bytes) (sized_is octets n s) (omega (arith, k, s.length_is.0)) (omega (arith, k, s.length_is.1)) e
