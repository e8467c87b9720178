-- The parts of a record at the front of octets.
use Rattle.std.proofs.Common.{◌≡◌, ◌≢◌, ◌<◌, ◌≤◌, ◌+◌, ◌-◌, ◌∙◌, ◌^◌, ◌⊎◌, ℕ, suc, false, true}
use Rattle.std.proofs.Common.{List, ◌∷◌, ◌++◌, length, take, drop, get_or, slice_range, refl, sym}
use Rattle.std.proofs.Common.{ap, inl, inr, arith, append_assoc, length-drop, length-append}
use Rattle.std.specs.Int.{to_be_bytes, w32}
use Rattle.std.proofs.lemmas.List.{take-append-drop, length-take-le, drop-drop}
use Rattle.std.proofs.Math.Seq.{drop-cons}
use Rattle.ts_guard.specs.Sealed.{record_of, sealed_record, tag}
use Rattle.ts_guard.specs.Reading.{IsWrong}
use Rattle.ts_guard.specs.inside.Parts.{IsWhole, IsWrongHead}
use Rattle.ts_guard.specs.Hello.{HasHead}
use Rattle.ts_guard.specs.inside.First.{IsFirst, IsNone}
use Rattle.ts_guard.specs.declared.fault.GuardFault.TheVariants.{Memory, Length, Version, Tag}
use Rattle.ts_guard.specs.declared.fault.GuardFault.TheVariants.{Number}
use Rattle.ts_guard.specs.declared.fault.GuardFault.{GuardFault}

join : (p given content rest : List ℕ) (version : ℕ)
    → p ++ version ∷ (given ++ (content ++ rest)) ≡ (p ++ version ∷ (given ++ content)) ++ rest
join p given content rest version =
    ap (λ (l : List ℕ). p ++ version ∷ l) (sym (append_assoc given content rest))
    ∙ sym (append_assoc p (version ∷ (given ++ content)) rest)

-- four octets of a length, one of a version, 32 of a tag, a content, and the others
parted : (octets p : List ℕ) (n version : ℕ) → 37 + n ≤ length octets → octets ≡ p ++ drop 4 octets
    → get_or octets 4 0 ≡ version
    → octets ≡ (p ++ version ∷ (take 32 (drop 5 octets) ++ take n (drop 37 octets))) ++ drop
    (37 + n) octets
parted octets p n version enough front version_is =
    let m = drop 5 octets in
    let head : drop 4 octets ≡ version ∷ m = drop-cons octets 4 0 (omega arith)
    ∙ ap (λ v. v ∷ m) version_is in
    let given : m ≡ take 32 m ++ drop 37 octets = sym (take-append-drop 32 m)
    ∙ ap (λ (l : List ℕ). take 32 m ++ l) (drop-drop 32 5 octets) in
    let content : drop 37 octets ≡ take n (drop 37 octets) ++ drop (37 + n) octets =
    sym (take-append-drop n (drop 37 octets))
    ∙ ap (λ (l : List ℕ). take n (drop 37 octets) ++ l) (drop-drop n 37 octets) in
    front ∙ ap (λ (l : List ℕ). p ++ l) (head
    ∙ ap (λ (l : List ℕ). version ∷ l) (given ∙ ap (λ (l : List ℕ). take 32 m ++ l) content))
    ∙ join p (take 32 m) (take n (drop 37 octets)) (drop (37 + n) octets) version

pub length_given : (octets : List ℕ) → 37 ≤ length octets → length (slice_range octets 5 37) ≡ 32
length_given octets enough = length-take-le 32 (drop 5 octets) (omega (arith, length-drop 5 octets))

pub length_content : (octets : List ℕ) (n : ℕ) → 37 + n ≤ length octets
    → length (slice_range octets 37 (37 + n)) ≡ n
length_content octets n enough =
    let e : 37 + n - 37 ≡ n = omega arith in
    rw e (length-take-le n (drop 37 octets) (omega (arith, length-drop 37 octets)))

-- octets that begin with a length and a version, of which enough are there
pub whole_record : (octets : List ℕ) (n version : ℕ) → 37 + n ≤ length octets
    → octets ≡ to_be_bytes w32 (33 + n) ++ drop 4 octets → get_or octets 4 0 ≡ version
    → octets ≡ record_of version (slice_range octets 5 37) (slice_range octets 37 (37 + n)) ++ drop
    (37 + n) octets
whole_record octets n version enough front version_is =
    let e : 37 + n - 37 ≡ n = omega arith in
    let a : length (slice_range octets 5 37) ≡ 32 = length_given octets (omega arith) in
    let b : length (slice_range octets 37 (37 + n)) ≡ n = length_content octets n enough in
    let size : 33 + n ≡ suc (length (slice_range octets 5 37 ++ slice_range octets 37 (37 + n))) =
    omega (arith, a, b, length-append (slice_range octets 5 37) (slice_range octets 37 (37 + n))) in
    let is : octets ≡ (to_be_bytes w32 (33 + n) ++ version ∷
    (slice_range octets 5 37 ++ slice_range octets 37 (37 + n))) ++ drop (37 + n) octets =
    rw e (parted octets (to_be_bytes w32 (33 + n)) n version enough front version_is) in
    is ∙ ap (λ k. (to_be_bytes w32 k ++ version ∷
    (slice_range octets 5 37 ++ slice_range octets 37 (37 + n))) ++ drop (37 + n) octets) size

-- a whole record of another version
pub other_version : (octets : List ℕ) (size : ℕ) → 34 ≤ size → size ≤ 65569
    → size ≤ length octets - 4 → octets ≡ to_be_bytes w32 size ++ drop 4 octets
    → get_or octets 4 0 ≢ 3
    → IsWrongHead octets Version
other_version octets size low high enough front other =
    let n = size - 33 in
    let back : size ≡ 33 + n = omega arith in
    let long : 37 + n ≤ length octets = omega arith in
    let fits : length (slice_range octets 37 (37 + n)) ≡ n = length_content octets n long in
    let is : octets ≡ to_be_bytes w32 (33 + n) ++ drop 4 octets = front
    ∙ ap (λ k. to_be_bytes w32 k ++ drop 4 octets) back in (
      inr refl,
      λ key context number. (
        get_or octets 4 0,
        slice_range octets 5 37,
        slice_range octets 37 (37 + n),
        record {
          after = drop (37 + n) octets;
          fits = (omega (arith, fits), omega (arith, fits));
          long = length_given octets (omega arith);
          is = whole_record octets n (get_or octets 4 0) long is refl;
        },
        other,
      ),
    )

-- a whole record with another tag
pub bad_tag : (key context : List ℕ) (number : ℕ) (held given : List ℕ) (n : ℕ) → IsWhole held n
    → given ≡ slice_range held 5 37
    → given ≢ tag key context number (slice_range held 37 (37 + n))
    → IsWrong key context number Tag held
bad_tag key context number held given n whole is other =
    let fits : length (slice_range held 37 (37 + n)) ≡ n = length_content held n whole.enough in (
      slice_range held 5 37,
      slice_range held 37 (37 + n),
      record {
        after = drop (37 + n) held;
        fits = (omega (arith, fits, whole.some), omega (arith, fits, whole.few));
        long = length_given held (omega (arith, whole.enough));
        is = whole_record held n 3 whole.enough whole.is whole.version;
      },
      λ same. other (is ∙ same),
    )

-- a whole record with its tag
pub first_record : (key context : List ℕ) (number : ℕ) (held given content : List ℕ) (n : ℕ)
    → IsWhole held n → given ≡ slice_range held 5 37
    → given ≡ tag key context number (slice_range held 37 (37 + n))
    → content ≡ slice_range held 37 (37 + n) → IsFirst key context number held content
unfolding sealed_record
first_record key context number held given content n whole is same here =
    let long : length content ≡ n = ap length here ∙ length_content held n whole.enough in
    let parts : held ≡ record_of 3 (slice_range held 5 37) (slice_range held 37 (37 + n)) ++ drop
    (37 + n) held = whole_record held n 3 whole.enough whole.is whole.version in
    record {
      fits = (omega (arith, long, whole.some), omega (arith, long, whole.few));
      is = parts ∙ ap (λ (t : List ℕ). record_of 3 t (slice_range held 37 (37 + n)) ++ drop
          (37 + n) held) (sym is ∙ same)
          ∙ ap (λ (c : List ℕ). record_of 3 (tag key context number c) c ++ drop (37 + n) held)
          (sym here)
          ∙ ap (λ k. record_of 3 (tag key context number content) content ++ drop (37 + k) held)
          (sym long);
    }

other_fault : (fault : GuardFault) → fault ≢ Length → fault ≢ Version → (fault ≡ Length)
    ⊎ (fault ≡ Version) → ⊥
other_fault fault a b (inl e) = a e
other_fault fault a b (inr e) = b e

-- the length or the version is wrong
pub head_fault : (key context : List ℕ) (number : ℕ) (held : List ℕ) (fault : GuardFault)
    → number + 1 < 2 ^ 64 → IsWrongHead held fault → IsNone key context number held fault
head_fault key context number held Length below wrong = (below, wrong.1 key context number)
head_fault key context number held Version below wrong = (below, wrong.1 key context number)
head_fault key context number held Memory below wrong = tt
head_fault key context number held Tag below wrong =
    absurd (other_fault Tag (λ e. cc) (λ e. cc) wrong.0)
head_fault key context number held Number below wrong =
    absurd (other_fault Number (λ e. cc) (λ e. cc) wrong.0)

pub false_true : false ≡ true → ⊥
false_true h = cc

-- six octets
pub headed : (octets : List ℕ) (n version kind : ℕ) → n < 2 ^ 32 → 6 ≤ length octets
    → octets ≡ to_be_bytes w32 n ++ drop 4 octets → get_or octets 4 0 ≡ version
    → get_or octets 5 0 ≡ kind
    → HasHead octets n version kind
headed octets n version kind small enough front v k =
    let four : drop 4 octets ≡ version ∷ drop 5 octets = drop-cons octets 4 0 (omega arith)
    ∙ ap (λ x. x ∷ drop 5 octets) v in
    let five : drop 5 octets ≡ kind ∷ drop 6 octets = drop-cons octets 5 0 (omega arith)
    ∙ ap (λ x. x ∷ drop 6 octets) k in
    record {
      after = drop 6 octets;
      small = small;
      is = front ∙ ap (λ (l : List ℕ). to_be_bytes w32 n ++ l) (four
          ∙ ap (λ (l : List ℕ). version ∷ l) five);
    }
