-- Octets begin with one record, with less than a record, or with something wrong.
use Rattle.std.proofs.Common.{◌≡◌, ◌<◌, ◌≤◌, ◌^◌, ◌⊎◌, ◌∙◌, ℕ, suc, List, ◌∷◌, ◌++◌}
use Rattle.std.proofs.Common.{Option, Some, None, length, take, drop, get_or, refl, sym, ap}
use Rattle.std.proofs.Common.{inl, inr, arith, length-append}
use Rattle.std.specs.Int.{from_be_bytes, to_be_bytes, w32}
use Rattle.std.proofs.lemmas.List.{take_at, drop_at}
use Rattle.std.proofs.lemmas.Nat.{from_be_bytes-to_be_bytes_4}
use Rattle.ts_hmac.proofs.Lengths.{length-hmac_sha256}
use Rattle.ts_guard.specs.Sealed.{IsContent, sealed_record, tag, vouched_text}
use Rattle.ts_guard.specs.Reading.{Begins, Ends, IsPartial, IsWrong}
use Rattle.ts_guard.specs.declared.fault.GuardFault.{GuardFault}
use Rattle.ts_guard.specs.declared.fault.GuardFault.TheVariants.{Memory, Length, Version, Tag}
use Rattle.ts_guard.specs.declared.fault.GuardFault.TheVariants.{Number}

-- ---- one length

same_size : (octets : List ℕ) (n m : ℕ) (a b : List ℕ) → n < 2 ^ 32 → m < 2 ^ 32
    → octets ≡ to_be_bytes w32 n ++ a → octets ≡ to_be_bytes w32 m ++ b → n ≡ m
same_size octets n m a b small less p q =
    sym (from_be_bytes-to_be_bytes_4 n small)
    ∙ ap (λ (l : List ℕ). from_be_bytes w32 (take 4 l)) (sym p ∙ q)
    ∙ from_be_bytes-to_be_bytes_4 m less

same_body : (octets : List ℕ) (n m : ℕ) (a b : List ℕ) → octets ≡ to_be_bytes w32 n ++ a
    → octets ≡ to_be_bytes w32 m ++ b → a ≡ b
same_body octets n m a b p q = ap (λ (l : List ℕ). drop 4 l) (sym p ∙ q)

pub same_front : (a b x y : List ℕ) → length a ≡ length b → a ++ x ≡ b ++ y → a ≡ b
same_front a b x y long is = sym (take_at a x (length a) refl)
    ∙ ap (λ (l : List ℕ). take (length a) l) is ∙ take_at b y (length a) (sym long)

pub same_back : (a b x y : List ℕ) → length a ≡ length b → a ++ x ≡ b ++ y → x ≡ y
same_back a b x y long is = sym (drop_at a x (length a) refl)
    ∙ ap (λ (l : List ℕ). drop (length a) l) is ∙ drop_at b y (length a) (sym long)

-- ---- one record

-- the length of a record, and that octets begin with it
size_of : (octets : List ℕ) (version : ℕ) (given content : List ℕ)
    → (b : Begins octets version given content) → suc (length (given ++ content)) < 2 ^ 32
size_of octets version given content b =
    omega (arith, b.long, b.fits.1, length-append given content)

flat : (octets : List ℕ) (version : ℕ) (given content : List ℕ)
    → (b : Begins octets version given content)
    → octets ≡ to_be_bytes w32 (suc (length (given ++ content))) ++ version ∷
    ((given ++ content) ++ b.after)
flat octets version given content b = b.is

pub record Same (version other : ℕ) (given another content more after rest : List ℕ) : Type 0 where
  pub version_is : version ≡ other
  pub given_is : given ≡ another
  pub content_is : content ≡ more
  pub after_is : after ≡ rest

pub same_record : (octets : List ℕ) (version other : ℕ) (given another content more : List ℕ)
    → (a : Begins octets version given content) → (b : Begins octets other another more)
    → Same version other given another content more a.after b.after
same_record octets version other given another content more a b =
    let p = flat octets version given content a in
    let q = flat octets other another more b in
    let sizes = same_size octets (suc (length (given ++ content)))
    (suc (length (another ++ more))) _ _ (size_of octets version given content a)
    (size_of octets other another more b) p q in
    let body = same_body octets (suc (length (given ++ content))) (suc (length (another ++ more)))
    (version ∷ ((given ++ content) ++ a.after)) (other ∷ ((another ++ more) ++ b.after)) p q in
    let long : length (given ++ content) ≡ length (another ++ more) = omega (arith, sizes) in
    let parts = ap (λ (l : List ℕ). drop 1 l) body in
    let both = same_front (given ++ content) (another ++ more) a.after b.after long parts in
    let tags : length given ≡ length another = a.long ∙ sym b.long in
    record {
      version_is = ap (λ (l : List ℕ). get_or l 0 0) body;
      given_is = same_front given another content more tags both;
      content_is = same_back given another content more tags both;
      after_is = same_back (given ++ content) (another ++ more) a.after b.after long parts;
    }

length-tag : (key context : List ℕ) (number : ℕ) (content : List ℕ)
    → length (tag key context number content) ≡ 32
unfolding tag
length-tag key context number content = length-hmac_sha256 key (vouched_text context number content)

pub begins : (key context : List ℕ) (number : ℕ) (octets content rest : List ℕ) → IsContent content
    → octets ≡ sealed_record key context number content ++ rest
    → Begins octets 3 (tag key context number content) content
unfolding sealed_record
begins key context number octets content rest fits is =
    record { after = rest; fits = fits; long = length-tag key context number content; is = is }

pub after_begins : (key context : List ℕ) (number : ℕ) (octets content rest : List ℕ)
    → (fits : IsContent content) → (is : octets ≡ sealed_record key context number content ++ rest)
    → (begins key context number octets content rest fits is).after ≡ rest
unfolding begins
after_begins key context number octets content rest fits is = refl

-- ---- less than a record, or a length out of range, is no record

whole_partial : (octets : List ℕ) (version : ℕ) (given content : List ℕ)
    → Begins octets version given content → IsPartial octets → ⊥
whole_partial octets version given content b (inl few) =
    let long = ap length b.is in
    omega (arith, long, few)
whole_partial octets version given content b (inr p) =
    let flat_is = flat octets version given content b in
    let n = same_size octets (suc (length (given ++ content))) p.0 _ _
    (size_of octets version given content b) (omega (arith, p.2.1)) flat_is p.3 in
    let body =
    ap length (same_body octets (suc (length (given ++ content))) p.0
    (version ∷ ((given ++ content) ++ b.after)) p.1 flat_is p.3) in
    omega (arith, n, body, p.4, length-append (given ++ content) b.after)

range_of : (octets : List ℕ) (version : ℕ) (given content : List ℕ)
    → (b : Begins octets version given content)
    → (34 ≤ suc (length (given ++ content))) × (suc (length (given ++ content)) ≤ 65569)
range_of octets version given content b = (
  omega (arith, b.long, b.fits.0, length-append given content),
  omega (arith, b.long, b.fits.1, length-append given content),
)

out_of_range : (n m : ℕ) → n ≡ m → (34 ≤ n) × (n ≤ 65569) → m < 34 ⊎ 65569 < m → ⊥
out_of_range n m same range (inl low) = omega (arith, same, range.0, low)
out_of_range n m same range (inr high) = omega (arith, same, range.1, high)

whole_length : (key context : List ℕ) (number : ℕ) (octets : List ℕ) (version : ℕ)
    (given content : List ℕ) → Begins octets version given content
    → IsWrong key context number Length octets → ⊥
whole_length key context number octets version given content b w =
    out_of_range (suc (length (given ++ content))) w.0
    (same_size octets (suc (length (given ++ content))) w.0 _ _
    (size_of octets version given content b) w.2 (flat octets version given content b) w.4)
    (range_of octets version given content b) w.3

partial_length : (key context : List ℕ) (number : ℕ) (octets : List ℕ) → IsPartial octets
    → IsWrong key context number Length octets → ⊥
partial_length key context number octets (inl few) w =
    let long = ap length w.4 in
    omega (arith, long, few)
partial_length key context number octets (inr p) w =
    out_of_range p.0 w.0 (same_size octets p.0 w.0 _ _ (omega (arith, p.2.1)) w.2 p.3 w.4) p.2 w.3

-- ---- what is sealed is neither

pub sealed_or_end : (key context : List ℕ) (number : ℕ) (octets content rest : List ℕ)
    (fault : Option GuardFault) → IsContent content
    → octets ≡ sealed_record key context number content ++ rest
    → Ends key context number fault octets → ⊥
sealed_or_end key context number octets content rest None fits is e =
    whole_partial octets 3 (tag key context number content) content
    (begins key context number octets content rest fits is) e
sealed_or_end key context number octets content rest (Some Length) fits is e =
    whole_length key context number octets 3 (tag key context number content) content
    (begins key context number octets content rest fits is) e
sealed_or_end key context number octets content rest (Some Version) fits is e =
    e.4 (sym (same_record octets 3 e.0 (tag key context number content) e.1 content e.2
    (begins key context number octets content rest fits is) e.3).version_is)
sealed_or_end key context number octets content rest (Some Tag) fits is e =
    let same = same_record octets 3 3 (tag key context number content) e.0 content e.1
    (begins key context number octets content rest fits is) e.2 in
    e.3 (sym same.given_is ∙ ap (λ (l : List ℕ). tag key context number l) same.content_is)
sealed_or_end key context number octets content rest (Some Memory) fits is e = e
sealed_or_end key context number octets content rest (Some Number) fits is e = e

-- ---- one end

one_fault : (key context : List ℕ) (number : ℕ) (octets : List ℕ) (fault other : GuardFault)
    → IsWrong key context number fault octets → IsWrong key context number other octets
    → fault ≡ other
one_fault key context number octets Length Length w v = refl
one_fault key context number octets Version Version w v = refl
one_fault key context number octets Tag Tag w v = refl
one_fault key context number octets Length Version w v =
    absurd (whole_length key context number octets v.0 v.1 v.2 v.3 w)
one_fault key context number octets Length Tag w v =
    absurd (whole_length key context number octets 3 v.0 v.1 v.2 w)
one_fault key context number octets Version Length w v =
    absurd (whole_length key context number octets w.0 w.1 w.2 w.3 v)
one_fault key context number octets Tag Length w v =
    absurd (whole_length key context number octets 3 w.0 w.1 w.2 v)
one_fault key context number octets Version Tag w v =
    absurd (w.4 (same_record octets w.0 3 w.1 v.0 w.2 v.1 w.3 v.2).version_is)
one_fault key context number octets Tag Version w v =
    absurd (v.4 (same_record octets v.0 3 v.1 w.0 v.2 w.1 v.3 w.2).version_is)
one_fault key context number octets Memory other w v = absurd w
one_fault key context number octets Number other w v = absurd w
one_fault key context number octets fault Memory w v = absurd v
one_fault key context number octets fault Number w v = absurd v

partial_fault : (key context : List ℕ) (number : ℕ) (octets : List ℕ) (fault : GuardFault)
    → IsPartial octets → IsWrong key context number fault octets → ⊥
partial_fault key context number octets Length p w = partial_length key context number octets p w
partial_fault key context number octets Version p w = whole_partial octets w.0 w.1 w.2 w.3 p
partial_fault key context number octets Tag p w = whole_partial octets 3 w.0 w.1 w.2 p
partial_fault key context number octets Memory p w = w
partial_fault key context number octets Number p w = w

pub one_end : (key context : List ℕ) (number : ℕ) (octets : List ℕ)
    (fault other : Option GuardFault) → Ends key context number fault octets
    → Ends key context number other octets → fault ≡ other
one_end key context number octets None None e d = refl
one_end key context number octets (Some fault) (Some other) e d =
    ap Some (one_fault key context number octets fault other e d)
one_end key context number octets None (Some other) e d =
    absurd (partial_fault key context number octets other e d)
one_end key context number octets (Some fault) None e d =
    absurd (partial_fault key context number octets fault d e)
