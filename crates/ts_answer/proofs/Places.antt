-- What verdicts say, and what a search finds, is in its ranges.
use Rattle.std.proofs.Common.{◌≡◌, ◌∙◌, ◌≤◌, ◌<◌, ◌==◌, ◌-◌, ◌||◌, ◌^◌, ℕ, suc, not, Bool, true, List, [], ◌∷◌, map, take, length, refl, ap, subst, arith, length-append}
use Rattle.std.specs.Prelude.{slice_index}
use Rattle.std.proofs.Math.Dec.{compare_is_eq}
use Prim.Native.Nat.compare
use Rattle.std.specs.List.{list_any, AllByRecursion}
use Rattle.std.proofs.lemmas.Bool.{le-leb}
use Rattle.ts_codec.proofs.Truths.{both_true}
use Rattle.ts_path.specs.Chain.{ChainQuestion}
use Rattle.ts_path.specs.Verdict.{IsVerdict}
use Rattle.ts_path.specs.declared.verdict.Verdict.{Verdict}
use Rattle.ts_path.specs.declared.verdict.Verdict.TheVariants.{Valid, Invalid}
use Rattle.ts_search.specs.Candidates.{AreDistinct, EndsAtLeaf, IsCandidate, issues}
use Rattle.ts_search.specs.Search.{Search, IsSearchAnswer, IsFirstChain, question, certificates_at, most}
use Rattle.ts_search.specs.declared.answer.SearchAnswer.{SearchAnswer}
use Rattle.ts_search.specs.declared.answer.SearchAnswer.TheVariants.{Found, NoPath, SearchLimit}
use Rattle.ts_search.proofs.Lengths.{triable}
use Rattle.ts_search.proofs.Takes.{length_map}
use Rattle.ts_question.specs.Reply.{are_places, is_distinct}
use Rattle.ts_cert.specs.declared.certificate.Cert.{Cert}
use Rattle.ts_cert.specs.CertView.{cert_in}
use Rattle.ts_path.specs.Asked.{TrustAnchor}
use Rattle.ts_path.specs.View.{anchor_in, question_in}
use Rattle.ts_path.specs.declared.anchor.Anchor.{Anchor}
use Rattle.ts_path.specs.declared.inputs.Inputs.{Inputs}
use Rattle.ts_revoke.specs.declared.crls.Crls.{Crls}
use Rattle.ts_revoke.specs.Question.{Check}
use Rattle.ts_search.specs.View.{search_in}
use Rattle.ts_answer.specs.inside.Trusted.{trusted_in}
use Rattle.ts_answer.specs.declared.trusted.TrustedAnchor.{TrustedAnchor}
use Rattle.ts_der.specs.declared.oid.OidRef.{OidRef}
use Rattle.ts_answer.specs.inside.Ranges.{AreFew, IsSayable, IsAmong}
use Rattle.ts_answer.proofs.Alls.{all_front, all_weaker, one_of}
use Rattle.ts_answer.proofs.FewNamed.{NamesFew, all_name_few}
use Rattle.ts_answer.proofs.FewAccepted.{accepted_few, all_at}

-- ---- policies and positions

counted : (policies : List OidRef) → length (map (λ p. p.content.now) policies) < 2 ^ 32 → AreFew policies
counted policies few = omega (arith, few, length_map (λ (p : OidRef). p.content.now) policies)

is_sayable : (q : ChainQuestion) (v : Verdict) → 1 ≤ length q.chain → length q.chain ≤ 16 → length q.asked.user_policies ≤ 32 → AllByRecursion NamesFew q.chain → IsVerdict q v → IsSayable v
is_sayable q (Valid policies) some few user named is = counted policies.items (accepted_few q (map (λ p. p.content.now) policies.items) some few user named is.1)
is_sayable q (Invalid position reason) some few user named is =
    let stands = is.0.stands in
    both_true _ _ (le-leb 1 position stands.0) (le-leb position 16 (omega (arith, stands.1, few)))

-- the verdict on a chain of certificates that were read
pub verdict_sayable : (anchor : Anchor) (chain : List Cert) (inputs : Inputs) (crls : Crls) (good : Check) (v : Verdict)
    → 1 ≤ length chain → length chain ≤ 16 → length inputs.user_policies.now ≤ 32 → IsVerdict (question_in anchor chain inputs crls good) v → IsSayable v
verdict_sayable anchor chain inputs crls good v some few user is =
    let long = length_map cert_in chain in
    is_sayable (question_in anchor chain inputs crls good) v (omega (arith, some, long)) (omega (arith, few, long))
    (omega (arith, user, length_map (λ (p : OidRef). p.content.now) inputs.user_policies.now)) (all_name_few chain) is

-- ---- places that count from 1

same_next : (j i : ℕ) → (suc j == suc i) ≡ (j == i)
same_next j i = ap compare_is_eq (compare.suc-suc j i)

any_place : (i : ℕ) (chain : List ℕ) → list_any (λ p. p == suc i) (map suc chain) ≡ list_any (λ j. j == i) chain
any_place i [] = refl
any_place i (j ∷ chain) = λ n. same_next j i n || any_place i chain n

distinct : (chain : List ℕ) → AreDistinct chain → is_distinct (map suc chain) ≡ true
distinct [] are = refl
distinct (i ∷ chain) are = both_true _ _ (ap not (any_place i chain ∙ are.0)) (distinct chain are.1)

leaf_last : (chain : List ℕ) → EndsAtLeaf chain → (slice_index (map suc chain) (length (map suc chain) - 1) == 1) ≡ true
leaf_last [] ends = absurd ends
leaf_last (i ∷ []) ends = ap (λ n. suc n == 1) ends
leaf_last (i ∷ j ∷ chain) ends =
    let n : length (map suc (i ∷ j ∷ chain)) - 1 ≡ suc (length (map suc (j ∷ chain)) - 1) = omega arith in
    ap (λ k. slice_index (map suc (i ∷ j ∷ chain)) k == 1) n ∙ leaf_last (j ∷ chain) ends

are_in_range : (issues : ℕ → ℕ → Bool) (count : ℕ) (chain : List ℕ) → IsCandidate issues count chain → are_places (map suc chain) ≡ true
are_in_range issues count chain is =
    let few : length (map suc chain) ≤ 255 = omega (arith, is.few, length_map suc chain) in
    both_true _ _ (both_true _ _ (le-leb (length (map suc chain)) 255 few) (leaf_last chain is.leaf)) (distinct chain is.distinct)

-- ---- what is found

candidate : (s : Search) (candidates : List (List ℕ)) (number : ℕ) (chain : List ℕ)
    (policies : List (List ℕ))
    → AllByRecursion (IsCandidate (issues s.certificates) (length s.certificates)) candidates
    → IsFirstChain s (take most candidates) number chain policies
    → IsCandidate (issues s.certificates) (length s.certificates) chain
candidate s candidates number chain policies only is =
    let P : List ℕ → Type 0 = IsCandidate (issues s.certificates) (length s.certificates) in
    one_of P is.before chain is.after (subst (λ (l : List (List ℕ)). AllByRecursion P l) is.tried_are (all_front P most candidates only))

is_among : (s : Search) (a : SearchAnswer) → length s.certificates ≤ 33 → ((anchor : TrustAnchor) → length (s.asked anchor).user_policies ≤ 32) → AllByRecursion NamesFew s.certificates
    → IsSearchAnswer s a → IsAmong (length s.anchors) a
is_among s (Found number chain policies) few user named is =
    let c = candidate s is.candidates number chain.items _ is.are_candidates.only is.answers in
    let tried = triable s.certificates chain.items c in
    let certificates = certificates_at s.certificates chain.items in
    let under = is.answers.under in
    let count = ap length under.anchors_are ∙ length-append under.earlier (under.anchor ∷ under.later) in
    let place = under.number_is in (
      omega (arith, count, place),
      all_weaker (λ i. i < length s.certificates) (λ i. i < 33) (λ i h. omega (arith, h, few)) chain.items c.within,
      are_in_range (issues s.certificates) (length s.certificates) chain.items c,
      counted policies.items (accepted_few (question s.asked certificates under.anchor) (map (λ p. p.content.now) policies.items) tried.0 tried.1
          (user under.anchor) (all_at NamesFew s.certificates named chain.items) under.accepted),
    )
is_among s NoPath few user named is = tt
is_among s SearchLimit few user named is = tt

-- among the certificates of a question, and under the anchors that were borrowed
pub among_anchors : (leaf : Cert) (pool : List Cert) (anchors : List Anchor) (inputs : Inputs)
    (crls : Crls) (good : Check) (all : List Cert) (trusted : List TrustedAnchor) (a : SearchAnswer)
    → leaf ∷ pool ≡ all → length all ≤ 33 → length inputs.user_policies.now ≤ 32 → map anchor_in anchors ≡ map trusted_in trusted
    → IsSearchAnswer (search_in leaf pool anchors inputs crls good) a → IsAmong (length trusted) a
among_anchors leaf pool anchors inputs crls good all trusted a whole few user same is =
    subst (λ n. IsAmong n a) (ap length same ∙ length_map trusted_in trusted)
    (is_among (search_in leaf pool anchors inputs crls good) a (omega (arith, ap length whole, length_map cert_in (leaf ∷ pool), few))
    (λ anchor. omega (arith, user, length_map (λ (p : OidRef). p.content.now) inputs.user_policies.now)) (all_name_few (leaf ∷ pool)) is)
