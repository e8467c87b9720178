-- The ranges of bases, as they are gathered.
use Rattle.std.proofs.Common.{◌≡◌, ◌↔◌, ℕ, ◌*◌, Bool, true, false, not, eqb, List, [], ◌∷◌, ◌++◌, ◌⊎◌, inl, inr, Option, Some, None, length, refl, sym, ap, subst, ◌∙◌, arith}
use Rattle.std.specs.Prelude.{◌||◌, IsTrue}
use Rattle.std.proofs.lemmas.Bool.{false≢true, true≢false, eqb-true}
use Rattle.ts_der.specs.Octets.{AreOctets}
use Rattle.ts_name.specs.General.{GeneralName, iPAddress}
use Rattle.ts_name.specs.Holds.{Holds, IsWithinRange}
use Rattle.ts_constraint.specs.declared.masked.MaskedRange.{MaskedRange}
use Rattle.ts_constraint.specs.Conditions.{Some_of}
use Rattle.ts_constraint.specs.inside.RangeTable.{LiesIn, AreRangesOf, AreOtherRanges, IsOtherLength}
use Rattle.ts_constraint.specs.inside.Ranges.{has_bits, is_in, is_in_one, number}
use Rattle.ts_constraint.proofs.Lists.{some-left, some-right, some-either}

-- ---- ranges of one length

-- an address has the bits of one that was gathered, or lies in a base that is left
abbrev pub RangesLeft : ℕ → List MaskedRange → List GeneralName → List GeneralName → Type 0
RangesLeft size kept rest all = (address : List ℕ) → AreOctets address → length address ≡ size → (IsTrue (is_in_one kept (number address)) ⊎ LiesIn address rest) ↔ LiesIn address all

-- what a base gave
abbrev pub GivesRange : ℕ → Option MaskedRange → GeneralName → Type 0
GivesRange size range base = (address : List ℕ) → AreOctets address → length address ≡ size → IsTrue (is_in range (number address)) ↔ Holds base (iPAddress address)

pub ranges-first : (size : ℕ) (kept : List MaskedRange) (all : List GeneralName) → kept ≡ [] → RangesLeft size kept all all
ranges-first size kept all e = subst (λ (ks : List MaskedRange). RangesLeft size ks all all) (sym e) (λ address o l. (λ s. elim s [ inl t ↦ absurd (false≢true t) | inr p ↦ p ], λ p. inr p))

pub ranges-skip : (size : ℕ) (kept : List MaskedRange) (base : GeneralName)
    (range : Option MaskedRange) (xs rest all : List GeneralName) → range ≡ None → xs ≡ base ∷ rest
    → GivesRange size range base → RangesLeft size kept xs all → RangesLeft size kept rest all
ranges-skip size kept base range xs rest all n e gives left address o l =
    let gave : IsTrue (is_in None (number address)) ↔ Holds base (iPAddress address) =
    subst (λ (r : Option MaskedRange). IsTrue (is_in r (number address)) ↔ Holds base
    (iPAddress address)) n (gives address o l) in
    let whole = subst (λ (ys : List GeneralName). (IsTrue (is_in_one kept (number address)) ⊎ LiesIn address ys) ↔ LiesIn address all) e (left address o l) in (
      λ s. whole.0 (elim s [ inl k ↦ inl k | inr r ↦ inr (inr r) ]),
      λ a. elim (whole.1 a) [ inl k ↦ inl k | inr r ↦ elim r [ inl h ↦ absurd (false≢true (gave.1 h)) | inr u ↦ inr u ] ],
    )

in-more : (kept : List MaskedRange) (range : MaskedRange) (n : ℕ) → is_in_one (kept ++ range ∷ []) n ≡ is_in_one kept n || has_bits n range
in-more [] range n = or-false (has_bits n range)
  where
    or-false : (b : Bool) → b || false ≡ b
    or-false true = refl
    or-false false = refl
in-more (x ∷ kept) range n = ap (λ b. has_bits n x || b) (in-more kept range n) ∙ or-assoc (has_bits n x) (is_in_one kept n) (has_bits n range)
  where
    or-assoc : (a b c : Bool) → a || (b || c) ≡ (a || b) || c
    or-assoc true b c = refl
    or-assoc false b c = refl

or-either : (a b : Bool) → a || b ≡ true → (a ≡ true) ⊎ (b ≡ true)
or-either true b t = inl refl
or-either false b t = inr t

or-left : (a b : Bool) → a ≡ true → a || b ≡ true
or-left true b t = refl
or-left false b t = absurd (false≢true t)

or-right : (a b : Bool) → b ≡ true → a || b ≡ true
or-right true b t = refl
or-right false b t = t

pub ranges-more : (size : ℕ) (kept new : List MaskedRange) (range : MaskedRange)
    (base : GeneralName) (given : Option MaskedRange) (xs rest all : List GeneralName) → new ≡ kept
    ++ range ∷ [] → given ≡ Some range → xs ≡ base ∷ rest
    → GivesRange size given base → RangesLeft size kept xs all → RangesLeft size new rest all
ranges-more size kept new range base given xs rest all m n e gives left address o l =
    let gave : IsTrue (has_bits (number address) range) ↔ Holds base (iPAddress address) =
    subst (λ (r : Option MaskedRange). IsTrue (is_in r (number address)) ↔ Holds base
    (iPAddress address)) n (gives address o l) in
    let whole = subst (λ (ys : List GeneralName). (IsTrue (is_in_one kept (number address)) ⊎ LiesIn address ys) ↔ LiesIn address all) e (left address o l) in
    let more : is_in_one new (number address) ≡ is_in_one kept (number address)
    || has_bits (number address) range =
    ap (λ (ks : List MaskedRange). is_in_one ks (number address)) m
    ∙ in-more kept range (number address) in (
      λ s. whole.0 (elim s [
        | inl t ↦ elim (or-either (is_in_one kept (number address)) (has_bits (number address) range) (sym more ∙ t)) [ inl k ↦ inl k | inr h ↦ inr (inl (gave.0 h)) ]
        | inr r ↦ inr (inr r)
      ]),
      λ a. elim (whole.1 a) [
        | inl k ↦ inl (more ∙ or-left (is_in_one kept (number address)) (has_bits (number address) range) k)
        | inr r ↦ elim r [ inl h ↦ inl (more ∙ or-right (is_in_one kept (number address)) (has_bits (number address) range) (gave.1 h)) | inr u ↦ inr u ]
      ],
    )

pub ranges-all : (size : ℕ) (kept : List MaskedRange) (rest all : List GeneralName) → rest ≡ [] → RangesLeft size kept rest all → AreRangesOf size kept all
ranges-all size kept rest all e left address o l =
    let whole = subst (λ (ys : List GeneralName). (IsTrue (is_in_one kept (number address)) ⊎ LiesIn address ys) ↔ LiesIn address all) e (left address o l) in
    (λ t. whole.0 (inl t), λ a. elim (whole.1 a) [ inl k ↦ k | inr z ↦ absurd z ])

-- ---- ranges of other lengths

abbrev pub OthersLeft : List GeneralName → List GeneralName → List GeneralName → Type 0
OthersLeft kept rest all = (address : List ℕ) → IsOtherLength address → (LiesIn address kept ⊎ LiesIn address rest) ↔ LiesIn address all

pub others-first : (kept all : List GeneralName) → kept ≡ [] → OthersLeft kept all all
others-first kept all e = subst (λ (ks : List GeneralName). OthersLeft ks all all) (sym e) (λ address o. (λ s. elim s [ inl z ↦ absurd z | inr p ↦ p ], λ p. inr p))

pub others-skip : (kept : List GeneralName) (base : GeneralName) (xs rest all : List GeneralName)
    → xs ≡ base ∷ rest → ((address : List ℕ) → IsOtherLength address
    → Holds base (iPAddress address) → ⊥) → OthersLeft kept xs all → OthersLeft kept rest all
others-skip kept base xs rest all e never left address o =
    let whole = subst (λ (ys : List GeneralName). (LiesIn address kept ⊎ LiesIn address ys) ↔ LiesIn address all) e (left address o) in (
      λ s. whole.0 (elim s [ inl k ↦ inl k | inr r ↦ inr (inr r) ]),
      λ a. elim (whole.1 a) [ inl k ↦ inl k | inr r ↦ elim r [ inl h ↦ absurd (never address o h) | inr u ↦ inr u ] ],
    )

pub others-more : (kept new : List GeneralName) (base : GeneralName) (xs rest all : List GeneralName) → new ≡ kept ++ base ∷ [] → xs ≡ base ∷ rest → OthersLeft kept xs all → OthersLeft new rest all
others-more kept new base xs rest all m e left address o =
    let whole = subst (λ (ys : List GeneralName). (LiesIn address kept ⊎ LiesIn address ys) ↔ LiesIn address all) e (left address o) in
    let P : GeneralName → Type 0 = λ b. Holds b (iPAddress address) in (
      λ s. whole.0 (elim s [
        | inl t ↦ elim (some-either P kept (base ∷ []) (subst (λ (ks : List GeneralName). LiesIn address ks) m t)) [ inl k ↦ inl k | inr y ↦ elim y [ inl h ↦ inr (inl h) | inr z ↦ absurd z ] ]
        | inr r ↦ inr (inr r)
      ]),
      λ a. elim (whole.1 a) [
        | inl k ↦ inl (subst (λ (ks : List GeneralName). LiesIn address ks) (sym m) (some-left P kept (base ∷ []) k))
        | inr r ↦ elim r [ inl h ↦ inl (subst (λ (ks : List GeneralName). LiesIn address ks) (sym m) (some-right P kept (base ∷ []) (inl h))) | inr u ↦ inr u ]
      ],
    )

pub others-all : (kept rest all : List GeneralName) → rest ≡ [] → OthersLeft kept rest all → AreOtherRanges kept all
others-all kept rest all e left address o =
    let whole = subst (λ (ys : List GeneralName). (LiesIn address kept ⊎ LiesIn address ys) ↔ LiesIn address all) e (left address o) in
    (λ t. whole.0 (inl t), λ a. elim (whole.1 a) [ inl k ↦ k | inr z ↦ absurd z ])

pub never-other : (range address : List ℕ) → (length range ≡ 8) ⊎ (length range ≡ 32) → IsOtherLength address → IsWithinRange address range → ⊥
never-other range address s o w = elim s [ inl e ↦ o.0 (omega (arith, w.lengths)) | inr e ↦ o.1 (omega (arith, w.lengths)) ]

pub other-found : (address : List ℕ) (r : Bool) (slice some bases : List GeneralName) → slice ≡ some
    → IsTrue r ↔ LiesIn address slice → LiesIn address some ↔ LiesIn address bases
    → IsTrue r ↔ LiesIn address bases
other-found address r slice some bases e d f =
    let again = subst (λ (xs : List GeneralName). IsTrue r ↔ LiesIn address xs) e d in
    (λ t. f.0 (again.0 t), λ p. again.1 (f.1 p))

pub not-unequal : (n k : ℕ) → not (eqb n k) ≡ false → n ≡ k
not-unequal n k e = by_test (eqb n k) refl e
  where
    by_test : (t : Bool) → eqb n k ≡ t → not t ≡ false → n ≡ k
    by_test true f e = eqb-true n k f
    by_test false f e = absurd (true≢false e)
