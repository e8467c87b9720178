-- Positions of a chain, and the verdict from the certificates that have been passed.
use Rattle.std.proofs.Common.{◌≡◌, ◌↔◌, ℕ, suc, ◌+◌, ◌-◌, ◌<◌, ◌≤◌, Bool, true, false, List, [], ◌∷◌, length, get_or, take, drop, refl, sym, ap, subst, ◌∙◌, arith, ◌⊎◌, inl, inr}
use Rattle.std.proofs.lemmas.Bool.{cases_order}
use Rattle.std.proofs.lemmas.List.{take_all}
use Rattle.ts_cert.specs.Certificate.{Certificate}
use Rattle.ts_policy.specs.Labels.{Label, In}
use Rattle.ts_policy.specs.Accepted.{AreAscending}
use Rattle.ts_der.specs.declared.oid.OidRef.{OidRef}
use Rattle.ts_reason.specs.declared.reason.Reason.{Reason}
use Rattle.ts_path.specs.Chain.{ChainQuestion, Link, Stands, chained, is_empty}
use Rattle.ts_policy.specs.Paths.{CertPolicies}
use Rattle.ts_policy.specs.Seen.{Seen}
use Rattle.ts_path.specs.State.{PathState, state_at, policies_at, policies_above}
use Rattle.ts_path.specs.View.{at}
use Rattle.ts_path.specs.Conditions.{Meets, Accepts}
use Rattle.ts_reason.specs.Conditions.{Condition, number_of}
use Rattle.ts_path.specs.Verdict.{site_of, HoldsAt, Precedes, IsLeast, Details, HasDetails, AreAccepted}
use Rattle.ts_reason.specs.View.{condition_of}
use Rattle.ts_path.specs.inside.Judging.{MeetsBelow, FailsFirst, Took, state_after}
use Rattle.ts_path.proofs.Advance.{state_next}
use Rattle.ts_path.proofs.Steps.{all, met}

-- ---- one link at a position

length_chained : (above others : List Certificate) → length (chained above others) ≡ length above + length others
length_chained [] others = omega arith
length_chained (c ∷ above) others = let e = length_chained above (c ∷ others) in omega (arith, e)

pub head_is : (c d : Certificate) (cs ds : List Certificate) → c ∷ cs ≡ d ∷ ds → c ≡ d
head_is c d cs ds e = cc

pub tail_is : (c d : Certificate) (cs ds : List Certificate) → c ∷ cs ≡ d ∷ ds → cs ≡ ds
tail_is c d cs ds e = cc

same_parts : (a b xs ys : List Certificate) → length a ≡ length b → chained a xs ≡ chained b ys → (a ≡ b) × (xs ≡ ys)
same_parts [] [] xs ys long e = (refl, e)
same_parts [] (d ∷ b) xs ys long e = absurd (omega (arith, long))
same_parts (c ∷ a) [] xs ys long e = absurd (omega (arith, long))
same_parts (c ∷ a) (d ∷ b) xs ys long e =
    let p = same_parts a b (c ∷ xs) (d ∷ ys) (omega (arith, long)) e in
    ((λ i. head_is c d xs ys p.1 i ∷ p.0 i), tail_is c d xs ys p.1)

pub one_link : (chain : List Certificate) (i : ℕ) (l m : Link) → Stands chain i l → Stands chain i m → l ≡ m
one_link chain i l m s t =
    let p = same_parts l.above m.above (l.certificate ∷ l.below) (m.certificate ∷ m.below) (omega (arith, s.position_is, t.position_is)) (sym s.chain_is ∙ t.chain_is) in
    λ i. record { above = p.0 i; certificate = head_is l.certificate m.certificate l.below m.below p.1 i; below = tail_is l.certificate m.certificate l.below m.below p.1 i }

pub within : (chain : List Certificate) (i : ℕ) (l : Link) → Stands chain i l → (1 ≤ i) × (i ≤ length chain)
within chain i l s =
    let n = ap length s.chain_is ∙ length_chained l.above (l.certificate ∷ l.below) in
    (omega (arith, s.position_is), omega (arith, s.position_is, n))

-- ---- the certificates that have been passed

-- all conditions hold at the first positions
unfoldable pub AllHold : ChainQuestion → ℕ → Type 0
AllHold q passed = (j : ℕ) (k : Condition) → j ≤ passed → HoldsAt k q j

pub none_passed : (q : ChainQuestion) → AllHold q 0
unfolding AllHold HoldsAt
none_passed q j k low l s = absurd (omega (arith, low, s.position_is))

-- a condition that the certificate at a position meets holds there
holds_at : (q : ChainQuestion) (i : ℕ) (l : Link) → Stands q.chain i l → (k : Condition) → Meets k (site_of q l) → HoldsAt k q i
unfolding HoldsAt
holds_at q i l s k is m t = subst (λ (o : Link). Meets k (site_of q o)) (one_link q.chain i l m s t) is

fails_at : (q : ChainQuestion) (i : ℕ) (l : Link) → Stands q.chain i l → (k : Condition) → ¬ (Meets k (site_of q l)) → ¬ (HoldsAt k q i)
unfolding HoldsAt
fails_at q i l s k not_met holds = not_met (holds l s)

one_more : (j n : ℕ) → j ≤ suc n → (j ≤ n) ⊎ (suc n ≡ j)
one_more j n low =
    elim (cases_order j (suc n)) [
      | inl same ↦ inr (sym same)
      | inr other ↦ elim other [ inl lt ↦ inl (omega (arith, lt)) | inr gt ↦ absurd (omega (arith, gt, low)) ]
    ]

pub passes : (q : ChainQuestion) (l : Link) → Stands q.chain (suc (length l.above)) l → AllHold q (length l.above) → MeetsBelow 19 (site_of q l) → AllHold q (suc (length l.above))
unfolding AllHold
passes q l s before is j k low =
    elim (one_more j (length l.above) low) [
      | inl less ↦ before j k less
      | inr here ↦ subst (λ (n : ℕ). HoldsAt k q n) here (holds_at q (suc (length l.above)) l s k (all (site_of q l) is k))
    ]

before_it : (q : ChainQuestion) (l : Link) → Stands q.chain (suc (length l.above)) l → AllHold q (length l.above) → (k : Condition) → MeetsBelow (number_of k) (site_of q l)
    → (j : ℕ) (m : Condition) → Precedes j m (suc (length l.above)) k → HoldsAt m q j
unfolding AllHold
before_it q l s before k is j m (inl less) = before j m (omega (arith, less))
before_it q l s before k is j m (inr here) =
    subst (λ (n : ℕ). HoldsAt m q n) (sym here.0) (holds_at q (suc (length l.above)) l s m (met (site_of q l) (number_of k) is m here.1))

-- the certificate fails: the least position and condition
pub stops : (q : ChainQuestion) (l : Link) (r : Reason OidRef) → Stands q.chain (suc (length l.above)) l → AllHold q (length l.above) → FailsFirst (site_of q l) r
    → IsLeast q (suc (length l.above)) (condition_of r) × HasDetails q (suc (length l.above)) r
stops q l r s before f = (
  record {
    stands = within q.chain (suc (length l.above)) l s;
    fails = fails_at q (suc (length l.above)) l s (condition_of r) f.fails;
    first = before_it q l s before (condition_of r) f.first;
  },
  λ m t. subst (λ (o : Link). Details r (site_of q o)) (one_link q.chain (suc (length l.above)) l m s t) f.details,
)

-- all are passed
pub all_pass : (q : ChainQuestion) → AllHold q (length q.chain) → (i : ℕ) (k : Condition) → HoldsAt k q i
unfolding AllHold HoldsAt
all_pass q before i k l s = before i k (within q.chain i l s).1 l s

pub accepted : (q : ChainQuestion) (l : Link) (policies : List Label) → Stands q.chain (length q.chain) l → ((p : Label) → In p policies ↔ Accepts (site_of q l) p)
    → AreAscending policies → AreAccepted q policies
accepted q l policies s are ascending = record {
  accepted = λ m t p. subst (λ (o : Link). In p policies ↔ Accepts (site_of q o) p) (one_link q.chain (length q.chain) l m s t) (are p);
  ascending = ascending;
}

-- ---- where the walk is

-- a link in front of those that are left
pub here : (chain above rest below : List Certificate) (c : Certificate) → chain ≡ chained above rest → rest ≡ c ∷ below
    → Stands chain (suc (length above)) (record { above = above; certificate = c; below = below })
here chain above rest below c is split = record { chain_is = is ∙ ap (chained above) split; position_is = refl }

-- the last certificate has the last position
pub last_here : (chain above rest : List Certificate) (c : Certificate) → chain ≡ chained above rest → rest ≡ c ∷ [] → length chain ≡ suc (length above)
last_here chain above rest c is split =
    let e = ap length (is ∙ ap (chained above) split) ∙ length_chained above (c ∷ []) in omega (arith, e)

-- in a chain of at most 16
pub few : (chain above rest : List Certificate) (c : Certificate) (below : List Certificate) → chain ≡ chained above rest → rest ≡ c ∷ below → length chain ≤ 16 → length above < 255
few chain above rest c below is split short =
    let e = ap length (is ∙ ap (chained above) split) ∙ length_chained above (c ∷ below) in omega (arith, e, short)

all_taken : {A : Type 0} (ys : List A) → take (suc (length ys) - 1) (drop 0 ys) ≡ ys
all_taken ys = let n : suc (length ys) - 1 ≡ length ys = omega arith in ap (λ (k : ℕ). take k ys) n ∙ take_all (length ys) ys (omega arith)

-- the first of a list, and the others
pub split_first : {A : Type 0} (xs : List A) (x d : A) → 1 ≤ length xs → x ≡ get_or xs 0 d → xs ≡ x ∷ take (length xs - 1) (drop 1 xs)
split_first [] x d some is = absurd (omega (arith, some))
split_first (y ∷ ys) x d some is = λ i. sym is i ∷ sym (all_taken ys) i

-- ---- the walk and the definitions

-- what the conditions look at, by the state that the walk has
pub site_is : (q : ChainQuestion) (above below : List Certificate) (c : Certificate) (s : PathState) (p : List CertPolicies) (last : Bool)
    → s ≡ state_at q.asked (length q.chain) above → p ≡ policies_above q.asked (length q.chain) above → last ≡ is_empty below
    → at q.asked s p c last ≡ site_of q (record { above = above; certificate = c; below = below })
site_is q above below c s p last state policies end = λ i. record { asked = q.asked; state = state i; policies_above = policies i; certificate = c; last = end i }

-- the policies at the next certificate
pub policies_go_on : (q : ChainQuestion) (above : List Certificate) (c : Certificate) (s : PathState) (p : List CertPolicies) (seen : Seen)
    → s ≡ state_at q.asked (length q.chain) above → p ≡ policies_above q.asked (length q.chain) above → Took seen true (at q.asked s p c false)
    → seen ≡ record { certificates = policies_above q.asked (length q.chain) (c ∷ above); mapped = true }
unfolding policies_above
policies_go_on q above c s p seen state policies took = took ∙ (λ i. record { certificates = policies_at (state i) c false ∷ policies i; mapped = true })

pub state_goes_on : (q : ChainQuestion) (above : List Certificate) (c : Certificate) (s t : PathState) → s ≡ state_at q.asked (length q.chain) above → t ≡ state_after s c
    → t ≡ state_at q.asked (length q.chain) (c ∷ above)
state_goes_on q above c s t state is = is ∙ (ap (λ (u : PathState). state_after u c) state ∙ sym (state_next q.asked (length q.chain) c above))
