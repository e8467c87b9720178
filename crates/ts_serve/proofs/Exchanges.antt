-- Which frames are what a peer gives, and which answer a message.
use Rattle.std.proofs.Common.{◌≡◌, ◌↔◌, ◌&&◌, ◌==◌, ◌∙◌, ◌≤◌, ◌<◌, refl, sym, ap, subst, inl, inr, ℕ, Bool, true, false, IsTrue, List, [], ◌∷◌, ◌++◌, length, get_or, arith, length-append}
use Rattle.std.specs.Prelude.{nat_le}
use Rattle.std.specs.List.{list_all}
use Rattle.std.proofs.lemmas.Bool.{false≢true, eqb-true, eq-eqb, leb-true, le-leb}
use Rattle.ts_codec.proofs.Truths.{first_true, second_true, both_true}
use Rattle.ts_synod.specs.declared.fault.NodeFault.{NodeFault as Fault}
use Rattle.ts_wire.specs.declared.frame.Frame.{Frame}
use Rattle.ts_wire.specs.declared.frame.Frame.TheVariants.{Done, NodeFault}
use Rattle.ts_serve.specs.inside.Carrying.{IsDelivered, IsGiven, are_given, is_message, is_reply}

-- two lists with one element more each are one where they and these elements are
one_more : {A : Type 0} (xs ys : List A) (x y : A) → xs ++ x ∷ [] ≡ ys ++ y ∷ [] → (xs ≡ ys) × (x ≡ y)
one_more [] [] x y e =
    let all : x ∷ [] ≡ y ∷ [] = e in
    let same : x ≡ y = cc in
    (refl, same)
one_more [] (w ∷ ys) x y e = absurd (omega (arith, ap length e, length-append ys (y ∷ [])))
one_more (z ∷ xs) [] x y e = absurd (omega (arith, ap length e, length-append xs (x ∷ [])))
one_more (z ∷ xs) (w ∷ ys) x y e =
    let all : z ∷ (xs ++ x ∷ []) ≡ w ∷ (ys ++ y ∷ []) = e in
    let first : z ≡ w = cc in
    let others : xs ++ x ∷ [] ≡ ys ++ y ∷ [] = cc in
    let rest = one_more xs ys x y others in
    let tail : xs ≡ ys = rest.0 in
    let lists : z ∷ xs ≡ w ∷ ys = cc in
    (lists, rest.1)

as_given : (frames messages : List Frame) (last : Frame) → frames ≡ messages ++ last ∷ [] → are_given messages last ≡ true → IsGiven frames
as_given frames messages (Done count) is all =
    let both = first_true (nat_le (length messages) 256 && (length messages == count)) (list_all is_message messages) all in
    let same : length messages ≡ count = eqb-true (length messages) count (second_true (nat_le (length messages) 256) (length messages == count) both) in
    record {
      messages = messages;
      is = is ∙ ap (λ (n : ℕ). messages ++ Done n ∷ []) (sym same);
      few = leb-true (length messages) 256 (first_true (nat_le (length messages) 256) (length messages == count) both);
      each = second_true (nat_le (length messages) 256 && (length messages == count)) (list_all is_message messages) all;
    }
as_given frames messages other is all = absurd (false≢true all)

given_test : (messages : List Frame) → length messages ≤ 256 → list_all is_message messages ≡ true → are_given messages (Done (length messages)) ≡ true
given_test messages few each =
    both_true (nat_le (length messages) 256 && (length messages == length messages)) (list_all is_message messages)
    (both_true (nat_le (length messages) 256) (length messages == length messages) (le-leb (length messages) 256 few) (eq-eqb (length messages) (length messages) refl))
    each

was_given : (frames messages : List Frame) (last : Frame) → frames ≡ messages ++ last ∷ [] → IsGiven frames → are_given messages last ≡ true
was_given frames messages last is given =
    let same = one_more messages given.messages last (Done (length given.messages)) (sym is ∙ given.is) in
    ap (λ (x : Frame). are_given messages x) same.1
    ∙ ap (λ (ms : List Frame). are_given ms (Done (length given.messages))) same.0
    ∙ given_test given.messages given.few given.each

-- the test of messages and their count says what a peer gives
pub given : (frames messages : List Frame) (last : Frame) (b : Bool) → frames ≡ messages ++ last ∷ [] → b ≡ are_given messages last → IsTrue b ↔ IsGiven frames
given frames messages last b is e = (λ t. as_given frames messages last is (sym e ∙ t), λ g. e ∙ was_given frames messages last is g)

-- no frames are not even a count
pub none_given : (frames : List Frame) → length frames ≡ 0 → IsTrue false ↔ IsGiven frames
none_given frames none = (
  λ t. absurd (false≢true t),
  λ g. absurd (omega (arith, none, ap length g.is, length-append g.messages (Done (length g.messages) ∷ []))),
)

as_reply : (frame : Frame) → is_reply frame ≡ true → IsDelivered (frame ∷ [])
as_reply (Done count) t = inl (ap (λ (n : ℕ). Done n ∷ []) (eqb-true count 0 t))
as_reply (NodeFault fault) t = inr (fault, refl)
as_reply other t = absurd (false≢true t)

is_done : (frame : Frame) → frame ∷ [] ≡ Done 0 ∷ [] → is_reply frame ≡ true
is_done frame is = let h : frame ≡ Done 0 = cc in ap is_reply h

is_fault : (frame : Frame) (fault : Fault) → frame ∷ [] ≡ NodeFault fault ∷ [] → is_reply frame ≡ true
is_fault frame fault is = let h : frame ≡ NodeFault fault = cc in ap is_reply h

was_reply : (frame : Frame) → IsDelivered (frame ∷ []) → is_reply frame ≡ true
was_reply frame d = elim d [ inl is ↦ is_done frame is | inr w ↦ is_fault frame w.0 w.1 ]

pub one_frame : (frames : List Frame) (x : Frame) → 1 ≤ length frames → length frames < 2 → x ≡ get_or frames 0 x → frames ≡ x ∷ []
one_frame [] x least below is = absurd (omega (arith, least))
one_frame (y ∷ []) x least below is = ap (λ (f : Frame). f ∷ []) (sym is)
one_frame (y ∷ z ∷ frames) x least below is = absurd (omega (arith, below))

-- a frame alone answers a message where the test says so
pub delivered : (frames : List Frame) (frame : Frame) (b : Bool) → frames ≡ frame ∷ [] → b ≡ is_reply frame → IsTrue b ↔ IsDelivered frames
delivered frames frame b is e = (
  λ t. subst (λ (fs : List Frame). IsDelivered fs) (sym is) (as_reply frame (sym e ∙ t)),
  λ d. e ∙ was_reply frame (subst (λ (fs : List Frame). IsDelivered fs) is d),
)

-- no other number of frames answers one
pub not_one : (frames : List Frame) → (length frames ≡ 1 → ⊥) → IsTrue false ↔ IsDelivered frames
not_one frames other = (
  λ t. absurd (false≢true t),
  λ d. elim d [ inl is ↦ absurd (other (ap length is)) | inr w ↦ absurd (other (ap length w.1)) ],
)
