-- A question has one verdict.
use Rattle.std.proofs.Common.{◌≡◌, ℕ, ◌+◌, ◌<◌, ◌≤◌, nat_lt, ◌==◌, ◌||◌, ◌&&◌, Bool, true, false, List, [], ◌∷◌, length, map, Option, Some, None, refl, sym, ap, subst, ◌∙◌, arith, ◌⊎◌, inl, inr}
use Rattle.std.proofs.lemmas.Bool.{cases_order, false≢true}
use Rattle.std.proofs.lemmas.Bool.Decides.{Decides-eqb, Decides-ltb}
use Rattle.std.proofs.Math.Nat.{eq-or-lt_of_le}
use Rattle.ts_policy.specs.Labels.{Label, In}
use Rattle.ts_policy.specs.Accepted.{comes_before, AreAscending}
use Rattle.ts_revoke.specs.declared.verdict.Status.{Status}
use Rattle.ts_revoke.specs.declared.verdict.Status.TheVariants as status
use Rattle.ts_cert.specs.Certificate.{Certificate}
use Rattle.ts_der.specs.declared.oid.OidRef.{OidRef}
use Rattle.ts_reason.specs.declared.reason.Reason.{Reason}
use Rattle.ts_reason.specs.declared.reason.Reason.TheVariants.{Revoked, CriticalExtension}
use Rattle.ts_path.specs.declared.verdict.Verdict.{Verdict}
use Rattle.ts_path.specs.declared.verdict.Verdict.TheVariants.{Valid, Invalid}
use Rattle.ts_path.specs.Extensions.{first_refused}
use Rattle.ts_path.specs.Chain.{ChainQuestion, Link, Stands, chained}
use Rattle.ts_path.specs.Conditions.{Site, status_at}
use Rattle.ts_reason.specs.Conditions.{Condition, number_of, revoked, critical_extension}
use Rattle.ts_path.specs.Verdict.{IsLeast, IsVerdict, IsSame, HasDetails, Details, AreAccepted, site_of}
use Rattle.ts_reason.specs.View.{code_of, oid_of, condition_of, reason_in}
use Rattle.ts_reason.proofs.Numbers.{one_number}
use Rattle.ts_reason.proofs.Parts.{condition_in, one_reason}

pub one_least : (q : ChainQuestion) (i j : ℕ) (k m : Condition) → IsLeast q i k → IsLeast q j m → (i ≡ j) × (k ≡ m)
one_least q i j k m a b =
    elim (cases_order i j) [
      | inl same ↦ elim (cases_order (number_of k) (number_of m)) [
        | inl number ↦ (same, one_number k m number)
        | inr other ↦ elim other [
          | inl lt ↦ absurd (a.fails (b.first i k (inr (same, lt))))
          | inr gt ↦ absurd (b.fails (a.first j m (inr (sym same, gt))))
        ]
      ]
      | inr other ↦ elim other [
        | inl lt ↦ absurd (a.fails (b.first i k (inl lt)))
        | inr gt ↦ absurd (b.fails (a.first j m (inl gt)))
      ]
    ]

-- ---- what a verdict says beside its condition

or_cases : (a b : Bool) → (a || b) ≡ true → (a ≡ true) ⊎ (b ≡ true)
or_cases true b h = inl refl
or_cases false b h = inr h

and_parts : (a b : Bool) → (a && b) ≡ true → (a ≡ true) × (b ≡ true)
and_parts true b h = (refl, h)
and_parts false b h = absurd (false≢true h)

before_cases : (x y : ℕ) (p q : Label) → comes_before (x ∷ p) (y ∷ q) ≡ true → (x < y) ⊎ ((x ≡ y) × (comes_before p q ≡ true))
before_cases x y p q h =
    elim (or_cases (nat_lt x y) ((x == y) && comes_before p q) h) [
      | inl l ↦ inl ((Decides-ltb x y).0 l)
      | inr e ↦ let r = and_parts (x == y) (comes_before p q) e in inr ((Decides-eqb x y).0 r.0, r.1)
    ]

not_both : (p q : Label) → comes_before p q ≡ true → comes_before q p ≡ true → ⊥
not_both [] [] h k = absurd (false≢true h)
not_both [] (y ∷ q) h k = absurd (false≢true k)
not_both (x ∷ p) [] h k = absurd (false≢true h)
not_both (x ∷ p) (y ∷ q) h k =
    elim (before_cases x y p q h) [
      | inl a ↦ elim (before_cases y x q p k) [ inl b ↦ absurd (omega (arith, a, b)) | inr b ↦ absurd (omega (arith, a, b.0)) ]
      | inr a ↦ elim (before_cases y x q p k) [ inl b ↦ absurd (omega (arith, a.0, b)) | inr b ↦ not_both p q a.1 b.1 ]
    ]

first_labels : (p q : Label) (ps qs : List Label) → AreAscending (p ∷ ps) → AreAscending (q ∷ qs) → In p (q ∷ qs) → In q (p ∷ ps) → p ≡ q
first_labels p q ps qs hp hq (inl e) j = sym e
first_labels p q ps qs hp hq (inr i) (inl e) = e
first_labels p q ps qs hp hq (inr i) (inr j) = absurd (not_both q p (hq.0 p i) (hp.0 q j))

not_first : (p q x : Label) (ps qs : List Label) → p ≡ q → AreAscending (p ∷ ps) → In x ps → In x (q ∷ qs) → In x qs
not_first p q x ps qs e hp i (inl f) =
    let P : Label → Type 0 = λ y. comes_before p y ≡ true in
    let h = subst P (sym (e ∙ f)) (hp.0 x i) in
    absurd (not_both p p h h)
not_first p q x ps qs e hp i (inr k) = k

-- two ascending lists of the same labels are one
one_ascending : (ps qs : List Label) → AreAscending ps → AreAscending qs → ((x : Label) → In x ps → In x qs) → ((x : Label) → In x qs → In x ps) → ps ≡ qs
one_ascending [] [] hp hq f g = refl
one_ascending [] (q ∷ qs) hp hq f g = absurd (g q (inl refl))
one_ascending (p ∷ ps) [] hp hq f g = absurd (f p (inl refl))
one_ascending (p ∷ ps) (q ∷ qs) hp hq f g =
    let e = first_labels p q ps qs hp hq (f p (inl refl)) (g q (inl refl)) in
    let tails = one_ascending ps qs hp.1 hq.1 (λ x i. not_first p q x ps qs e hp i (f x (inr i))) (λ x i. not_first q p x qs ps (sym e) hq i (g x (inr i))) in
    λ i. e i ∷ tails i

-- the certificate at a position
link_from : (chain : List Certificate) (i : ℕ) (above : List Certificate) (c : Certificate)
    (rest : List Certificate) → chain ≡ chained above (c ∷ rest) → length above < i
    → i ≤ length above + length (c ∷ rest) → (l : Link) × Stands chain i l
link_from chain i above c [] e low high = (record { above = above; certificate = c; below = [] }, record { chain_is = e; position_is = omega (arith, low, high) })
link_from chain i above c (d ∷ rest) e low high =
    elim (eq-or-lt_of_le low) [
      | inl here ↦ (record { above = above; certificate = c; below = d ∷ rest }, record { chain_is = e; position_is = sym here })
      | inr more ↦ link_from chain i (c ∷ above) d rest e more (omega (arith, high))
    ]

link_at : (chain : List Certificate) (i : ℕ) → 1 ≤ i → i ≤ length chain → (l : Link) × Stands chain i l
link_at [] i low high = absurd (omega (arith, low, high))
link_at (c ∷ rest) i low high = link_from (c ∷ rest) i [] c rest refl (omega (arith, low)) (omega (arith, high))

-- a chain that is not empty accepts one list of policies
pub one_accepted : (q : ChainQuestion) (ps qs : List Label) → 1 ≤ length q.chain → AreAccepted q ps → AreAccepted q qs → ps ≡ qs
one_accepted q ps qs some h k =
    let w = link_at q.chain (length q.chain) some (omega arith) in
    one_ascending ps qs h.ascending k.ascending (λ x i. (k.accepted w.0 w.1 x).1 ((h.accepted w.0 w.1 x).0 i)) (λ x i. (h.accepted w.0 w.1 x).1 ((k.accepted w.0 w.1 x).0 i))

-- the code that a status gives, where the condition is that on revocation
status_code : Status → Option ℕ
status_code (status.Revoked code) = Some code
status_code other = None

code_at : Condition → Site → Option ℕ
code_at revoked x = status_code (status_at x)
code_at other x = None

code_is : (reason : Reason OidRef) (x : Site) → Details reason x → code_of (reason_in reason) ≡ code_at (condition_of reason) x
unfolding code_at status_code
code_is (Revoked code) x h = sym (ap status_code h)
code_is other x h = refl

oid_at : Condition → Site → Option (List ℕ)
oid_at critical_extension x = first_refused x.certificate.tbsCertificate
oid_at other x = None

oid_is : (reason : Reason OidRef) (x : Site) → Details reason x → oid_of (reason_in reason) ≡ oid_at (condition_of reason) x
unfolding oid_at
oid_is (CriticalExtension oid) x h = sym h
oid_is other x h = refl

same_reason : (q : ChainQuestion) (i j : ℕ) (a b : Reason OidRef) → IsLeast q i (condition_of a)
    → HasDetails q i a → IsLeast q j (condition_of b) → HasDetails q j b → (i ≡ j)
    × (reason_in a ≡ reason_in b)
same_reason q i j a b least details other others =
    let one = one_least q i j (condition_of a) (condition_of b) least other in
    let w = link_at q.chain i least.stands.0 least.stands.1 in
    let x = site_of q w.0 in
    let P : ℕ → Type 0 = λ k. HasDetails q k b in
    let h = details w.0 w.1 in
    let k = subst P (sym one.0) others w.0 w.1 in
    let code = code_is a x h ∙ (ap (λ c. code_at c x) one.1 ∙ sym (code_is b x k)) in
    let oid = oid_is a x h ∙ (ap (λ c. oid_at c x) one.1 ∙ sym (oid_is b x k)) in
    (one.0, one_reason (reason_in a) (reason_in b) (condition_in a ∙ one.1 ∙ sym (condition_in b)) code oid)

pub one_verdict : (q : ChainQuestion) (v w : Verdict) → 1 ≤ length q.chain → IsVerdict q v → IsVerdict q w → IsSame v w
one_verdict q (Valid ps) (Valid qs) some h k = one_accepted q (map (λ p. p.content.now) ps.items) (map (λ p. p.content.now) qs.items) some h.1 k.1
one_verdict q (Valid ps) (Invalid j b) some h k = k.0.fails (h.0 j (condition_of b))
one_verdict q (Invalid i a) (Valid qs) some h k = h.0.fails (k.0 i (condition_of a))
one_verdict q (Invalid i a) (Invalid j b) some h k = same_reason q i j a b h.0 h.1 k.0 k.1
