-- A chain that fails by one of the first seven conditions at a certificate: each chain with the same front up to it fails.
use Rattle.std.proofs.Math.ListN.{set}
use Rattle.std.specs.List.{AllByRecursion}
use Rattle.std.proofs.Common.{◌≡◌, ℕ, zero, suc, ◌+◌, ◌≤◌, ◌<◌, get_or, Bool, List, [], ◌∷◌, ◌++◌, length, map, take, Option, Some, None, slice_get, refl, sym, ap, ◌∙◌, arith, subst, inl, inr}
use Rattle.ts_cert.specs.Certificate.{Certificate}
use Rattle.ts_policy.specs.Paths.{CertPolicies}
use Rattle.ts_path.specs.Asked.{TrustAnchor, ValidationInputs}
use Rattle.ts_path.specs.Chain.{Link, Stands, chained}
use Rattle.ts_path.specs.Conditions.{Meets}
use Rattle.ts_reason.specs.Conditions.{Condition, number_of, anchor_purpose, signature, too_early}
use Rattle.ts_reason.specs.Conditions.{expired, revoked, undetermined, issuer_name}
use Rattle.ts_reason.specs.Conditions.{unsupported_constraint, not_permitted, excluded}
use Rattle.ts_reason.specs.Conditions.{policy_required, maps_any, not_ca, path_length, key_usage}
use Rattle.ts_reason.specs.Conditions.{critical_extension, final_policy, purpose}
use Rattle.ts_path.specs.State.{state_at}
use Rattle.ts_path.specs.Verdict.{HoldsAt}
use Rattle.ts_path.specs.View.{anchor_in, at as at_site}
use Rattle.ts_path.specs.declared.anchor.Anchor.{Anchor}
use Rattle.std.specs.Prelude.{Vec}
use Rattle.std.specs.declared.alloc.Global.{Global}
use Rattle.ts_search.specs.Search.{IsValidChain, with_certificate, certificates_at, question}
use Rattle.ts_search.specs.inside.Dead.{IsDead, AreDead, AreDeadUnder, BeginsWithOne, fronts_in}

abbrev Fronts : Type 0
Fronts = Vec (Vec ℕ Global) Global

-- the first seven look at the certificate and those above it alone: not at the length of the chain, nor at policies, nor at whether it is the last
early : (k : Condition) → number_of k ≤ 7 → (asked : ValidationInputs) (n m : ℕ) (above : List Certificate) (ps qs : List CertPolicies) (c : Certificate) (last other : Bool)
    → Meets k (at_site asked (state_at asked n above) ps c last) → Meets k (at_site asked (state_at asked m above) qs c other)
unfolding Meets state_at
early anchor_purpose h asked n m above ps qs c last other x = x
early signature h asked n m above ps qs c last other x = x
early too_early h asked n m above ps qs c last other x = x
early expired h asked n m above ps qs c last other x = x
early revoked h asked n m above ps qs c last other x = x
early undetermined h asked n m above ps qs c last other x = x
early issuer_name h asked n m above ps qs c last other x = x
early unsupported_constraint h asked n m above ps qs c last other x = absurd (omega (arith, h))
early not_permitted h asked n m above ps qs c last other x = absurd (omega (arith, h))
early excluded h asked n m above ps qs c last other x = absurd (omega (arith, h))
early policy_required h asked n m above ps qs c last other x = absurd (omega (arith, h))
early maps_any h asked n m above ps qs c last other x = absurd (omega (arith, h))
early not_ca h asked n m above ps qs c last other x = absurd (omega (arith, h))
early path_length h asked n m above ps qs c last other x = absurd (omega (arith, h))
early key_usage h asked n m above ps qs c last other x = absurd (omega (arith, h))
early critical_extension h asked n m above ps qs c last other x = absurd (omega (arith, h))
early final_policy h asked n m above ps qs c last other x = absurd (omega (arith, h))
early purpose h asked n m above ps qs c last other x = absurd (omega (arith, h))

-- the certificates up to one, in front of others
chained-append : (above xs ys : List Certificate) → chained above xs ++ ys ≡ chained above (xs ++ ys)
chained-append [] xs ys = refl
chained-append (c ∷ above) xs ys = chained-append above (c ∷ xs) ys

take-append : (xs ys : List Certificate) → take (length xs) (xs ++ ys) ≡ xs
take-append [] ys = refl
take-append (x ∷ xs) ys = ap (λ t. x ∷ t) (take-append xs ys)

length-chained : (above xs : List Certificate) → length (chained above xs) ≡ length above + length xs
length-chained [] xs = omega arith
length-chained (c ∷ above) xs = let e = length-chained above (c ∷ xs) in omega (arith, e)

front-of : (chain : List Certificate) (i : ℕ) (l : Link) → Stands chain i l → take i chain ≡ chained l.above (l.certificate ∷ [])
front-of chain i l s =
    let whole : chain ≡ chained l.above (l.certificate ∷ []) ++ l.below = s.chain_is ∙ sym (chained-append l.above (l.certificate ∷ []) l.below) in
    let long : i ≡ length (chained l.above (l.certificate ∷ [])) = let e = length-chained l.above (l.certificate ∷ []) in omega (arith, e, s.position_is) in
    ap (λ n. take n chain) long ∙ (ap (take (length (chained l.above (l.certificate ∷ [])))) whole ∙ take-append (chained l.above (l.certificate ∷ [])) l.below)

pub front-fails : (asked : ValidationInputs) (chain more : List Certificate) (i : ℕ) (k : Condition) → number_of k ≤ 7 → ¬ (HoldsAt k (record { asked = asked; chain = chain }) i)
    → ¬ (IsValidChain (record { asked = asked; chain = take i chain ++ more }))
unfolding HoldsAt
front-fails asked chain more i k h fails valid = fails (λ l s.
    let whole = ap (λ t. t ++ more) (front-of chain i l s) ∙ chained-append l.above (l.certificate ∷ []) more in
    early k h asked (length (take i chain ++ more)) (length chain) l.above _ _ l.certificate _ _
    (valid i k (record { above = l.above; certificate = l.certificate; below = more }) (record { chain_is = whole; position_is = s.position_is })))

-- ---- places

no-more : (certificates : List Certificate) (places : List ℕ) → length (certificates_at certificates places) ≤ length places
no-more certificates [] = omega arith
no-more certificates (i ∷ places) =
    let h = no-more certificates places in
    elim (slice_get certificates i) as (λ o. length (with_certificate o (certificates_at certificates places)) ≤ suc (length places)) [
      | None ↦ omega (arith, h)
      | Some c ↦ omega (arith, h)
    ]

one-more : (o : Option Certificate) (certificates : List Certificate) (places rest : List ℕ) (i : ℕ)
    → (length (certificates_at certificates places) ≡ length places
    → certificates_at certificates (take i places ++ rest) ≡ take i
    (certificates_at certificates places) ++ certificates_at certificates rest)
    → length (with_certificate o (certificates_at certificates places)) ≡ suc (length places)
    → with_certificate o (certificates_at certificates (take i places ++ rest)) ≡ take (suc i) (with_certificate o (certificates_at certificates places)) ++ certificates_at certificates rest
one-more None certificates places rest i below h = let few = no-more certificates places in absurd (omega (arith, h, few))
one-more (Some c) certificates places rest i below h = ap (λ t. c ∷ t) (below (omega (arith, h)))

-- where there is a certificate at each place, the certificates at a front are a front of them
places-front : (certificates : List Certificate) (places rest : List ℕ) (i : ℕ) → length (certificates_at certificates places) ≡ length places
    → certificates_at certificates (take i places ++ rest) ≡ take i (certificates_at certificates places) ++ certificates_at certificates rest
places-front certificates places rest zero h = refl
places-front certificates [] rest (suc i) h = refl
places-front certificates (p ∷ places) rest (suc i) h = one-more (slice_get certificates p) certificates places rest i (places-front certificates places rest i) h

-- the front of a chain that fails is dead
pub front-is-dead : (asked : TrustAnchor → ValidationInputs) (certificates : List Certificate) (anchor : TrustAnchor) (places : List ℕ) (i : ℕ) (k : Condition) → number_of k ≤ 7
    → length (certificates_at certificates places) ≡ length places → ¬ (HoldsAt k (question asked (certificates_at certificates places) anchor) i)
    → IsDead asked certificates anchor (take i places)
unfolding IsDead
front-is-dead asked certificates anchor places i k early h fails rest =
    let P : List Certificate → Type 0 = λ chain. ¬ (IsValidChain (question asked chain anchor)) in
    subst P (sym (places-front certificates places rest i h)) (front-fails (asked anchor) (certificates_at certificates places) (certificates_at certificates rest) i k early fails)

-- a chain with a dead front is not valid
pub dead-front : (asked : TrustAnchor → ValidationInputs) (certificates : List Certificate) (anchor : TrustAnchor) (fronts : List (List ℕ)) (chain : List ℕ)
    → AreDead asked certificates anchor fronts → BeginsWithOne fronts chain → ¬ (IsValidChain (question asked (certificates_at certificates chain) anchor))
unfolding IsDead
dead-front asked certificates anchor [] chain dead begins = absurd begins
dead-front asked certificates anchor (front ∷ fronts) chain dead begins = elim begins [
  | inl b ↦ (let P : List ℕ → Type 0 = λ c. ¬ (IsValidChain (question asked (certificates_at certificates c) anchor)) in subst P (sym b.1) (dead.0 b.0))
  | inr b ↦ dead-front asked certificates anchor fronts chain dead.1 b
]

-- ---- fronts by their anchors

-- those of one anchor
pub row-of : (asked : TrustAnchor → ValidationInputs) (certificates : List Certificate) (anchors : List Anchor) (rows : List Fronts) (k : ℕ) (anchor : Anchor) (row : Fronts)
    → AreDeadUnder asked certificates (map anchor_in anchors) (fronts_in rows) → k < length anchors → k < length rows → anchor ≡ get_or anchors k anchor → row ≡ get_or rows k row
    → AreDead asked certificates (anchor_in anchor) (map (λ front. front.items) row.items)
row-of asked certificates [] rows k anchor row dead h l is at = absurd (omega (arith, h))
row-of asked certificates (a ∷ anchors) [] k anchor row dead h l is at = absurd (omega (arith, l))
row-of asked certificates (a ∷ anchors) (r ∷ rows) zero anchor row dead h l is at =
    let A : Anchor → Type 0 = λ x. AreDead asked certificates (anchor_in x) (map (λ front. front.items) row.items) in
    let R : Fronts → Type 0 = λ x. AreDead asked certificates (anchor_in a) (map (λ front. front.items) x.items) in
    subst A (sym is) (subst R (sym at) dead.0)
row-of asked certificates (a ∷ anchors) (r ∷ rows) (suc k) anchor row dead h l is at = row-of asked certificates anchors rows k anchor row dead.1 (omega (arith, h)) (omega (arith, l)) is at

-- with those of one anchor exchanged
pub row-set : (asked : TrustAnchor → ValidationInputs) (certificates : List Certificate) (anchors : List Anchor) (rows : List Fronts) (k : ℕ) (anchor : Anchor) (row : Fronts)
    → AreDeadUnder asked certificates (map anchor_in anchors) (fronts_in rows) → anchor ≡ get_or anchors k anchor → k < length anchors
    → AreDead asked certificates (anchor_in anchor) (map (λ front. front.items) row.items) → AreDeadUnder asked certificates (map anchor_in anchors) (fronts_in (set rows k row))
row-set asked certificates [] rows k anchor row dead is h d = absurd (omega (arith, h))
row-set asked certificates (a ∷ anchors) [] zero anchor row dead is h d = tt
row-set asked certificates (a ∷ anchors) [] (suc k) anchor row dead is h d = tt
row-set asked certificates (a ∷ anchors) (r ∷ rows) zero anchor row dead is h d =
    let A : Anchor → Type 0 = λ x. AreDead asked certificates (anchor_in x) (map (λ front. front.items) row.items) in
    (subst A is d, dead.1)
row-set asked certificates (a ∷ anchors) (r ∷ rows) (suc k) anchor row dead is h d = (dead.0, row-set asked certificates anchors rows k anchor row dead.1 is (omega (arith, h)) d)

-- where there are none yet

pub none-dead : (asked : TrustAnchor → ValidationInputs) (certificates : List Certificate)
    (anchors : List TrustAnchor) (rows : List (List (List ℕ)))
    → AllByRecursion (λ (row : List (List ℕ)). row ≡ []) rows
    → AreDeadUnder asked certificates anchors rows
none-dead asked certificates [] rows h = tt
none-dead asked certificates (a ∷ anchors) [] h = tt
none-dead asked certificates (a ∷ anchors) (r ∷ rows) h = (subst (AreDead asked certificates a) (sym h.0) tt, none-dead asked certificates anchors rows h.1)

-- a chain that begins with the front at a place begins with one
pub begins-at : {X : Type 0} (f : X → List ℕ) (fronts : List X) (k : ℕ) (x : X)
    (chain rest : List ℕ) → k < length fronts → x ≡ get_or fronts k x → chain ≡ f x ++ rest
    → BeginsWithOne (map f fronts) chain
begins-at f [] k x chain rest h is e = absurd (omega (arith, h))
begins-at f (y ∷ fronts) zero x chain rest h is e = inl (rest, e ∙ ap (λ z. f z ++ rest) is)
begins-at f (y ∷ fronts) (suc k) x chain rest h is e = inr (begins-at f fronts k x chain rest (omega (arith, h)) is e)
