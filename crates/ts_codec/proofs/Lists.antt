-- Blobs, parts that may be absent, and lists are read in one way.
use Rattle.std.proofs.Common.{◌≡◌, ℕ, zero, suc, ◌^◌, ◌<◌, ◌≤◌, Bool, true, false, List, [], ◌∷◌, ◌++◌, length, Option, Some, None, refl, sym, ap, subst, ◌∙◌, append_assoc, arith}
use Rattle.std.specs.Prelude.{IfSome, is_some}
use Rattle.std.specs.List.{flat_map, AllByRecursion}
use Rattle.std.specs.Int.{w16, w32, to_be_bytes}
use Rattle.std.proofs.lemmas.List.Concat.{flat_map-cons}
use Rattle.ts_codec.specs.Parts.{blob8, blob16, blob32, optional}
use Rattle.ts_codec.specs.Reading.{Reader, ◌>>=◌, ◌then◌, ◌into◌, bare, octet_at, number_at, octets_at, blob8_at, blob16_at, blob32_at, within_blob_at, optional_at, many_at, whole}
use Rattle.ts_codec.proofs.Laws.{IsBytes, IsBytes-drop, front_bytes, Takes, Part, answer, step, some_is, made, whole_takes, whole_again}
use Rattle.ts_codec.proofs.Numbers.{octet_part, number16, number32, octets_part}
use Rattle.ts_codec.proofs.Rows.{then_part}

-- ---- blobs

-- after a number, that many octets
counted : (encode : ℕ → List ℕ) (limit : ℕ) (read : Reader ℕ) → Part encode (λ n. n < limit) read
    → Part (λ x. encode (length x) ++ x) (λ x. length x < limit) (read then octets_at)
counted encode limit read size = record { takes = takes; again = again }
  where
    takes : (octets x rest : List ℕ) → IsBytes octets → (read then octets_at) octets ≡ Some (x, rest) → Takes octets (encode (length x) ++ x) rest × (length x < limit)
    takes octets x rest bytes is =
        step size octets (λ n. octets_at n.0 n.1) (x, rest) bytes is
        (λ n after first more fit e.
        let t = (octets_part n).takes after x rest more e in
        let all : octets ≡ (encode (length x) ++ x) ++ rest = first ∙ ap (λ l. encode n ++ l) t.0.is ∙ sym (append_assoc (encode n) x rest) ∙ ap (λ k. (encode k ++ x) ++ rest) (sym t.1) in
        (record { is = all; more = t.0.more }, omega (arith, fit, t.1)))

    again : (x rest : List ℕ) → length x < limit → (read then octets_at) ((encode (length x) ++ x) ++ rest) ≡ Some (x, rest)
    again x rest fit =
        ap (read then octets_at) (append_assoc (encode (length x)) x rest)
        ∙ rw (size.again (length x) (x ++ rest) fit) ((octets_part (length x)).again x rest refl)

pub blob8_part : Part blob8 (λ x. length x < 256) blob8_at
unfolding blob8_at
blob8_part = counted (λ n. n ∷ []) 256 octet_at octet_part

pub blob16_part : Part blob16 (λ x. length x < 2 ^ 16) blob16_at
unfolding blob16_at
blob16_part = counted (to_be_bytes w16) (2 ^ 16) (number_at w16) number16

pub blob32_part : Part blob32 (λ x. length x < 2 ^ 32) blob32_at
unfolding blob32_at
blob32_part = counted (to_be_bytes w32) (2 ^ 32) (number_at w32) number32

-- a blob that is all of a value's octets
pub within_blob : {A : Type 0} {encode : A → List ℕ} {Fit : A → Type 0} {read : Reader A}
    → Part encode Fit read
    → Part (λ x. blob32 (encode x)) (λ x. Fit x × (length (encode x) < 2 ^ 32))
    (within_blob_at read)
unfolding within_blob_at
within_blob {A} {encode} {Fit} {read} part = record { takes = takes; again = again }
  where
    by : (octets : List ℕ) (x : A) (rest : List ℕ) (content o1 : List ℕ) → octets ≡ blob32 content
        ++ o1 → IsBytes content → IsBytes o1 → length content < 2 ^ 32 → (r : Option A)
        → whole (read content) ≡ r → (r >>= λ y. answer y o1) ≡ Some (x, rest)
        → Takes octets (blob32 (encode x)) rest × (Fit x × (length (encode x) < 2 ^ 32))
    by octets x rest content o1 e0 inner more short None e h = absurd (cc h)
    by octets x rest content o1 e0 inner more short (Some y) e h =
        let t = whole_takes part content y inner e in
        made (λ x. blob32 (encode x)) (λ x. Fit x × (length (encode x) < 2 ^ 32)) octets o1 y x rest h (e0 ∙ ap (λ l. blob32 l ++ o1) t.1) more (t.0, subst (λ l. length l < 2 ^ 32) t.1 short)

    takes : (octets : List ℕ) (x : A) (rest : List ℕ) → IsBytes octets
        → (blob32_at octets >>= λ b. whole (read b.0) >>= λ y. answer y b.1) ≡ Some (x, rest)
        → Takes octets (blob32 (encode x)) rest × (Fit x × (length (encode x) < 2 ^ 32))
    takes octets x rest bytes is =
        step blob32_part octets (λ b. whole (read b.0) >>= λ y. answer y b.1) (x, rest) bytes is
        (λ content o1 e0 b1 f0 h0. by octets x rest content o1 e0 (front_bytes content o1 (IsBytes-drop 4 (blob32 content ++ o1) (subst IsBytes e0 bytes))) b1 f0 (whole (read content)) refl h0)

    again : (x : A) (rest : List ℕ) → Fit x × (length (encode x) < 2 ^ 32) → (blob32_at (blob32 (encode x) ++ rest) >>= λ b. whole (read b.0) >>= λ y. answer y b.1) ≡ Some (x, rest)
    again x rest fit =
        ap (λ r. r >>= λ b. whole (read b.0) >>= λ y. answer y b.1) (blob32_part.again (encode x) rest fit.1)
        ∙ ap (λ r. r >>= λ y. answer y rest) (whole_again part x fit.0)

-- ---- a part that may be absent, and items one after another

pub optional_part : {A : Type 0} {encode : A → List ℕ} {Fit : A → Type 0} {read : Reader A} (part : Part encode Fit read) (there : Bool)
    → Part (optional encode) (λ x. IfSome x Fit × (is_some x ≡ there)) (optional_at read there)
unfolding optional_at
optional_part {A} {encode} {Fit} {read} part true = record { takes = takes; again = again }
  where
    takes : (octets : List ℕ) (x : Option A) (rest : List ℕ) → IsBytes octets
        → (read octets >>= λ y. answer (Some y.0) y.1) ≡ Some (x, rest)
        → Takes octets (optional encode x) rest × (IfSome x Fit × (is_some x ≡ true))
    takes octets x rest bytes is =
        step part octets (λ y. answer (Some y.0) y.1) (x, rest) bytes is
        (λ y after first more fit e. made {A = Option A} (optional encode) (λ x. IfSome x Fit × (is_some x ≡ true)) octets after (Some y) x rest e first more (fit, refl))

    again : (x : Option A) (rest : List ℕ) → IfSome x Fit × (is_some x ≡ true) → (read (optional encode x ++ rest) >>= λ y. answer (Some y.0) y.1) ≡ Some (x, rest)
    again None rest fit = absurd (cc fit.1)
    again (Some y) rest fit = rw (part.again y rest fit.0) refl
optional_part {A} {encode} {Fit} {read} part false = record { takes = takes; again = again }
  where
    takes : (octets : List ℕ) (x : Option A) (rest : List ℕ) → IsBytes octets → answer None octets ≡ answer x rest → Takes octets (optional encode x) rest × (IfSome x Fit × (is_some x ≡ false))
    takes octets x rest bytes is = made {A = Option A} (optional encode) (λ x. IfSome x Fit × (is_some x ≡ false)) octets octets None x rest is refl bytes (tt, refl)

    again : (x : Option A) (rest : List ℕ) → IfSome x Fit × (is_some x ≡ false) → answer None (optional encode x ++ rest) ≡ answer x rest
    again None rest fit = refl
    again (Some y) rest fit = absurd (cc fit.1)

one_more : {A : Type 0} {encode : A → List ℕ} {Fit : A → Type 0} {read : Reader A}
    (part : Part encode Fit read) (octets : List ℕ) (xs : List A) (rest : List ℕ) (n : ℕ) (x : A)
    (after : List ℕ) → octets ≡ encode x ++ after → Fit x → (r : Option (List A × List ℕ))
    → ((ys : List A) (end : List ℕ) → r ≡ Some (ys, end) → Takes after (flat_map encode ys) end × (AllByRecursion Fit ys × (length ys ≡ n)))
    → (r >>= λ others. answer (x ∷ others.0) others.1) ≡ Some (xs, rest) → Takes octets (flat_map encode xs) rest × (AllByRecursion Fit xs × (length xs ≡ suc n))
one_more part octets xs rest n x after first fit None go e = absurd (cc e)
one_more {A} {encode} {Fit} part octets xs rest n x after first fit (Some ys) go e =
    let t = go ys.0 ys.1 refl in
    made {A = List A} (flat_map encode) (λ xs. AllByRecursion Fit xs × (length xs ≡ suc n)) octets ys.1 (x ∷ ys.0) xs rest e
    (first ∙ ap (λ l. encode x ++ l) t.0.is ∙ sym (append_assoc (encode x) (flat_map encode ys.0) ys.1) ∙ ap (λ l. l ++ ys.1) (sym (flat_map-cons encode x ys.0)))
    t.0.more ((fit, t.1.0), ap suc t.1.1)

many_takes : {A : Type 0} {encode : A → List ℕ} {Fit : A → Type 0} {read : Reader A}
    (part : Part encode Fit read) (n : ℕ) (octets : List ℕ) (xs : List A) (rest : List ℕ)
    → IsBytes octets → many_at read n octets ≡ Some (xs, rest)
    → Takes octets (flat_map encode xs) rest × (AllByRecursion Fit xs × (length xs ≡ n))
unfolding many_at
many_takes {A} {encode} {Fit} part zero octets xs rest bytes is = made {A = List A} (flat_map encode) (λ xs. AllByRecursion Fit xs × (length xs ≡ 0)) octets octets [] xs rest is refl bytes (tt, refl)
many_takes {read = read} part (suc n) octets xs rest bytes is =
    step part octets (λ first. many_at read n first.1 >>= λ others. answer (first.0 ∷ others.0) others.1) (xs, rest) bytes is
    (λ x after first more fit e. one_more part octets xs rest n x after first fit (many_at read n after) (λ ys end h. many_takes part n after ys end more h) e)

many_again : {A : Type 0} {encode : A → List ℕ} {Fit : A → Type 0} {read : Reader A}
    (part : Part encode Fit read) (xs : List A) (rest : List ℕ) → AllByRecursion Fit xs
    → many_at read (length xs) (flat_map encode xs ++ rest) ≡ Some (xs, rest)
unfolding many_at
many_again part [] rest fit = refl
many_again {encode = encode} {read = read} part (x ∷ xs) rest fit =
    ap (many_at read (suc (length xs))) (ap (λ l. l ++ rest) (flat_map-cons encode x xs) ∙ append_assoc (encode x) (flat_map encode xs) rest)
    ∙ rw (part.again x (flat_map encode xs ++ rest) fit.0, many_again part xs rest fit.1) refl

pub many_part : {A : Type 0} {encode : A → List ℕ} {Fit : A → Type 0} {read : Reader A} (part : Part encode Fit read) (n : ℕ)
    → Part (flat_map encode) (λ xs. AllByRecursion Fit xs × (length xs ≡ n)) (many_at read n)
many_part {encode = encode} {read = read} part n = record {
  takes = λ octets xs rest bytes is. many_takes part n octets xs rest bytes is;
  again = λ xs rest fit. ap (λ k. many_at read k (flat_map encode xs ++ rest)) (sym fit.1) ∙ many_again part xs rest fit.0;
}

-- a number, and that many items
pub counted_part : {A : Type 0} {count : ℕ → List ℕ} {FitCount : ℕ → Type 0} {number : Reader ℕ}
    {encode : A → List ℕ} {Fit : A → Type 0} {item : Reader A} → Part count FitCount number
    → Part encode Fit item
    → Part (λ xs. count (length xs) ++ flat_map encode xs) (λ xs. FitCount (length xs) × AllByRecursion Fit xs) (number then many_at item)
counted_part number item = then_part number length (λ n fit. many_part item n)
