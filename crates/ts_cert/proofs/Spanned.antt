-- Values between two offsets.
use Rattle.std.proofs.Common.{◌≡◌, ℕ, ℤ, ◌+◌, ◌-◌, ◌≤◌, List, [], ◌∷◌, ◌++◌, length, take, drop, get_or, refl, sym, ap, subst, ◌∙◌, append_assoc, arith}
use Rattle.std.proofs.lemmas.List.{append_cancel_right, length-append, length-drop, length-take-le, take_at, take-append-drop, drop-drop}
use Rattle.ts_der.specs.declared.bounds.ContentBounds.{ContentBounds}
use Rattle.ts_der.specs.Element.{encode, length_octets}
use Rattle.ts_der.specs.Stands.{HavePart, between, HasElement}
use Rattle.ts_shape.specs.Fields.{Within}
use Rattle.ts_der.proofs.Standing.{part-taken, encoded-out}
use Rattle.ts_der.proofs.Lengths.{length_octets-short}
use Rattle.ts_time.specs.Text.{IsUtc}
use Rattle.ts_field.specs.declared.time.TimeForm.TheVariants.{Utc}
use Rattle.ts_field.specs.Time.{IsTime}
use Rattle.ts_cert.specs.inside.Layout.{Spans, IsRepeated, IsVersion3}

-- an element whose content encodes a value
pub spans : {A : Type 0} (tag : ℕ) (Encodes : List ℕ → A → Type 0) (octets : List ℕ) (at : ℕ)
    (b : ContentBounds) (x : A) → HasElement octets at tag b → Encodes (between octets b) x
    → Spans (Within tag Encodes) octets at b.end
spans tag Encodes octets at b x has is =
    record {
      value = x;
      part = encode tag (between octets b);
      here = has.whole;
      encoded = record { content = between octets b; fits = has.fits; encoded = refl; value = is };
      ends = has.within;
    }

-- what is between two offsets is there alone
pub one-part : (octets a b : List ℕ) (from to : ℕ) → HavePart octets from a to → HavePart octets from b to → a ≡ b
one-part octets a b from to first second = append_cancel_right a b (drop to octets) (sym first ∙ second)

-- two parts, one after the other
pub joined : (octets a b : List ℕ) (from mid to : ℕ) → HavePart octets from a mid → HavePart octets mid b to → HavePart octets from (a ++ b) to
joined octets a b from mid to first second = first ∙ (ap (λ (r : List ℕ). a ++ r) second ∙ sym (append_assoc a b (drop to octets)))

-- the content of an element of which all is known
pub content-joined : (octets a b : List ℕ) (tag at mid to : ℕ) (bounds : ContentBounds)
    → HasElement octets at tag bounds → HavePart octets bounds.start a mid
    → HavePart octets mid b to → to ≡ bounds.end → between octets bounds ≡ a ++ b
content-joined octets a b tag at mid to bounds has first second same =
    one-part octets (between octets bounds) (a ++ b) bounds.start bounds.end has.inner (joined octets a b bounds.start mid bounds.end first (subst (λ (n : ℕ). HavePart octets mid b n) same second))

-- a part does not end before it begins
pub part-ordered : (octets a : List ℕ) (from to : ℕ) → HavePart octets from a to → from ≤ length octets → to ≤ length octets → from ≤ to
part-ordered octets a from to here begins ends =
    omega (arith, begins, ends, ap (λ (o : List ℕ). length o) here, length-drop from octets, length-append a (drop to octets), length-drop to octets)

-- and is what lies between the two offsets
pub part-between : (octets a : List ℕ) (from to : ℕ) → HavePart octets from a to → from ≤ length octets → to ≤ length octets → take (to - from) (drop from octets) ≡ a
part-between octets a from to here begins ends =
    let size : length a ≡ to - from = omega (arith, begins, ends, ap (λ (o : List ℕ). length o) here, length-drop from octets, length-append a (drop to octets), length-drop to octets) in
    ap (λ (o : List ℕ). take (to - from) o) here ∙ take_at a (drop to octets) (to - from) size

-- an element that is all of the content of another
pub content-alone : (octets : List ℕ) (at tag other : ℕ) (outer inner : ContentBounds)
    → HasElement octets at tag outer → HasElement octets outer.start other inner
    → inner.end ≡ outer.end → between octets outer ≡ encode other (between octets inner)
content-alone octets at tag other outer inner has is same =
    one-part octets (between octets outer) (encode other (between octets inner)) outer.start
    outer.end has.inner (subst
    (λ (n : ℕ). HavePart octets outer.start (encode other (between octets inner)) n) same
    is.whole)

-- octets of which the first is known
pub first-octet : (octets : List ℕ) (octet : ℕ) → 1 ≤ length octets → get_or octets 0 0 ≡ octet → octets ≡ octet ∷ drop 1 octets
first-octet [] octet some is = absurd (omega arith)
first-octet (x ∷ octets) octet some is = ap (λ (o : ℕ). o ∷ octets) is

-- a value that is encoded once more
pub again : {A : Type 0} (Encodes : List ℕ → A → Type 0) (octets : List ℕ) (at from to end : ℕ) → Spans Encodes octets from to → IsRepeated octets at from to end → Spans Encodes octets at end
again Encodes octets at from to end is twice =
    let same = one-part octets twice.part is.part from to twice.first is.here in
    record {
      value = is.value;
      part = is.part;
      here = subst (λ (p : List ℕ). HavePart octets at p end) same twice.second;
      encoded = is.encoded;
      ends = twice.ends;
    }

-- octets that are equal to those between two offsets
pub repeated : (octets : List ℕ) (at from to : ℕ)
    → take (to - from) (drop at octets) ≡ take (to - from) (drop from octets) → from ≤ to
    → to ≤ length octets → at + (to - from) ≤ length octets
    → IsRepeated octets at from to (at + (to - from))
repeated octets at from to same ordered within ends =
    record {
      part = take (to - from) (drop from octets);
      first = part-taken octets from (to - from) ∙ ap (λ (n : ℕ). take (to - from) (drop from octets) ++ drop n octets) (omega arith);
      second = part-taken octets at (to - from) ∙ ap (λ (p : List ℕ). p ++ drop (at + (to - from)) octets) same;
      ends = ends;
    }

-- version 3, octet by octet
pub version-3 : (octets r : List ℕ) (at : ℕ) → r ≡ drop at octets → 5 ≤ length r
    → get_or r 0 0 ≡ 0xA0 → get_or r 1 0 ≡ 3 → get_or r 2 0 ≡ 0x02 → get_or r 3 0 ≡ 1
    → get_or r 4 0 ≡ 2 → IsVersion3 octets at (at + 5)
unfolding length_octets
version-3 octets r at is long first second third fourth fifth =
    let here : r ≡ get_or r 0 0 ∷ get_or r 1 0 ∷ get_or r 2 0 ∷ get_or r 3 0 ∷ get_or r 4 0 ∷ drop 5 r = encoded-out r 0 5 5 refl long in
    let behind : drop 5 r ≡ drop (at + 5) octets = ap (λ (o : List ℕ). drop 5 o) is ∙ drop-drop 5 at octets in
    record {
      here = sym is ∙ (here ∙ rw (first, second, third, fourth, fifth) (ap (λ (o : List ℕ). 0xA0 ∷ 3 ∷ 0x02 ∷ 1 ∷ 2 ∷ o) behind));
      ends = omega (arith, long, ap (λ (o : List ℕ). length o) is, length-drop at octets);
    }

-- a UTCTime, by its first two octets and its text
pub utc-span : (octets r text : List ℕ) (at : ℕ) (moment : ℤ) → r ≡ drop at octets → 2 ≤ length r
    → get_or r 0 0 ≡ 0x17 → get_or r 1 0 ≡ 13 → text ≡ drop 2 r → 16 ≤ length text
    → IsUtc (take 13 text) moment → Spans IsTime octets at (at + 15)
utc-span octets r text at moment is long first second is_text many utc =
    let here : r ≡ get_or r 0 0 ∷ get_or r 1 0 ∷ drop 2 r = encoded-out r 0 2 2 refl long in
    let size : length (take 13 text) ≡ 13 = length-take-le 13 text (omega arith) in
    let split : drop 2 r ≡ take 13 text ++ drop 13 text = sym (take-append-drop 13 text ∙ is_text) in
    let behind : drop 13 text ≡ drop (at + 15) octets =
    ap (λ (o : List ℕ). drop 13 o) (is_text ∙ ap (λ (o : List ℕ). drop 2 o) is)
    ∙ (ap (λ (o : List ℕ). drop 13 o) (drop-drop 2 at octets)
    ∙ (drop-drop 13 (at + 2) octets ∙ ap (λ (n : ℕ). drop n octets) (omega arith))) in
    record {
      value = record { form = Utc; moment = moment };
      part = 0x17 ∷ 13 ∷ take 13 text;
      here = sym is ∙ (here ∙ rw (first, second) (ap (λ (o : List ℕ). 0x17 ∷ 13 ∷ o) (split ∙ ap (λ (o : List ℕ). take 13 text ++ o) behind)));
      encoded = record {
        content = take 13 text;
        fits = record { octet = omega arith; low = λ e. omega arith; short = omega (arith, size) };
        encoded = ap (λ (o : List ℕ). 0x17 ∷ (o ++ take 13 text)) (sym (ap length_octets size ∙ length_octets-short 13 (omega arith)));
        value = utc;
      };
      ends = omega (arith, many, ap (λ (o : List ℕ). length o) is_text, length-drop 2 r, ap (λ (o : List ℕ). length o) is, length-drop at octets);
    }
