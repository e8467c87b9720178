-- The walk through the candidates by their length, against the answer over all of them.
use Rattle.std.proofs.Common.{◌≡◌, ℕ, zero, suc, ◌+◌, ◌-◌, ◌<◌, ◌≤◌, inl, inr, Bool, List, [], ◌∷◌}
use Rattle.std.proofs.Common.{◌++◌, map, flat_map, length, take, Option, Some, None, unwrap_or}
use Rattle.std.proofs.Common.{slice_get, refl, sym, ap, ◌∙◌, subst, arith, append_assoc}
use Rattle.std.proofs.Common.{length-append}
use Rattle.std.specs.List.{AllByRecursion}
use Rattle.std.proofs.lemmas.List.{append-nil, take-append-le}
use Rattle.std.proofs.Math.Nat.{eq-or-lt_of_le}
use Rattle.ts_policy.specs.Labels.{Label, In}
use Rattle.ts_cert.specs.Certificate.{Certificate}
use Rattle.ts_search.specs.Candidates.{issues, IsCandidate, AreCandidates}
use Rattle.ts_search.specs.inside.Levels.{level, chains, longer, AreRows}
use Rattle.ts_search.specs.Search.{Search, with_certificate, certificates_at, NoneOf, IsFirstChain, Answers, most}
use Rattle.ts_search.specs.Search.{IsSearchAnswer}
use Rattle.ts_search.specs.inside.Trial.{IsTriable, AreTriable, FirstOf}
use Rattle.ts_search.specs.declared.answer.SearchAnswer.{SearchAnswer}
use Rattle.ts_search.specs.declared.answer.SearchAnswer.TheVariants.{Found, NoPath, SearchLimit}
use Rattle.ts_search.proofs.Candidates.{are_candidates, in_all, all_of}
use Rattle.ts_search.proofs.Takes.{take_all, take_short, take_front, take_behind, length_take_le}
use Rattle.ts_policy.proofs.Lists.{In-append_left, In-append_right}

all_append : {X : Type 0} (P : X → Type 0) (xs ys : List X) → AllByRecursion P xs → AllByRecursion P ys → AllByRecursion P (xs ++ ys)
all_append P [] ys h k = k
all_append P (x ∷ xs) ys h k = (h.0, all_append P xs ys h.1 k)

all_front : {X : Type 0} (P : X → Type 0) (n : ℕ) (xs : List X) → AllByRecursion P xs → AllByRecursion P (take n xs)
all_front P zero xs h = tt
all_front P (suc n) [] h = tt
all_front P (suc n) (x ∷ xs) h = (h.0, all_front P n xs h.1)

-- ---- candidates can be tried

found_at : {X : Type 0} (xs : List X) (i : ℕ) → i < length xs → (x : X) × (slice_get xs i ≡ Some x)
found_at [] i h = absurd (omega (arith, h))
found_at (x ∷ xs) zero h = (x, refl)
found_at (x ∷ xs) (suc i) h = found_at xs i (omega (arith, h))

as_long : (certificates : List Certificate) (chain : List ℕ) → AllByRecursion (λ i. i < length certificates) chain → length (certificates_at certificates chain) ≡ length chain
as_long certificates [] h = refl
as_long certificates (i ∷ chain) h =
    let w = found_at certificates i h.0 in
    ap (λ o. length (with_certificate o (certificates_at certificates chain))) w.1 ∙ ap suc (as_long certificates chain h.1)

not_empty : (issues : ℕ → ℕ → Bool) (count : ℕ) (c : List ℕ) → IsCandidate issues count c → 1 ≤ length c
not_empty issues count [] h = absurd h.leaf
not_empty issues count (i ∷ c) h = omega arith

pub triable : (certificates : List Certificate) (c : List ℕ) → IsCandidate (issues certificates) (length certificates) c → IsTriable certificates c
triable certificates c h =
    let e = as_long certificates c h.within in
    let s = not_empty (issues certificates) (length certificates) c h in
    (omega (arith, e, s), omega (arith, e, h.few))

-- ---- the candidates of one length among all

split : (rows : List (List ℕ)) (n m : ℕ) → n < m → (rest : List (List ℕ)) × (chains rows m ≡ chains rows n ++ (level rows n ++ rest))
unfolding chains
split rows n zero h = absurd (omega (arith, h))
split rows n (suc m) h =
    elim (eq-or-lt_of_le h) [
      | inl e ↦ (
        [],
        ap (λ k. chains rows k ++ level rows k) (let k : m ≡ n = omega (arith, e) in k) ∙ ap (λ t. chains rows n ++ t) (sym (append-nil (level rows n))),
      )
      | inr l ↦ let s = split rows n m (omega (arith, l)) in (
        s.0 ++ level rows m,
        ap (λ t. t ++ level rows m) s.1 ∙ (append_assoc (chains rows n) (level rows n ++ s.0) (level rows m) ∙ ap (λ t. chains rows n ++ t) (append_assoc (level rows n) s.0 (level rows m))),
      )
    ]

take_two : {X : Type 0} (n : ℕ) (xs ys : List X) → (zs : List X) × (take n (xs ++ ys) ≡ take n xs ++ zs)
take_two n [] ys = (take n ys, ap (λ t. t ++ take n ys) (sym (take_all n [] (omega arith))))
take_two zero (x ∷ xs) ys = ([], refl)
take_two (suc n) (x ∷ xs) ys = let r = take_two n xs ys in (r.0, ap (λ t. x ∷ t) r.1)

-- what comes first among some comes first among all, where nothing before them is valid
pub first_among : (s : Search) (number : ℕ) (chain : List ℕ) (policies : List Label)
    (before tried after all : List (List ℕ)) → NoneOf s before → all ≡ before ++ (tried ++ after)
    → IsFirstChain s tried number chain policies → IsFirstChain s all number chain policies
first_among s number chain policies before tried after all none e h = record {
  before = before ++ h.before;
  after = h.after ++ after;
  tried_are = e ∙ (ap (λ t. before ++ (t ++ after)) h.tried_are
      ∙ (ap (λ t. before ++ t) (append_assoc h.before (chain ∷ h.after) after)
      ∙ sym (append_assoc before h.before (chain ∷ (h.after ++ after)))));
  none_before = all_append _ before h.before none h.none_before;
  under = h.under;
}

module _ (s : Search) (rows : List (List ℕ)) (some : 0 < length s.certificates) (are_rows : AreRows (issues s.certificates) (length s.certificates) rows) where
  abbrev Candidates : List (List ℕ) → Type 0
  Candidates cs = AreCandidates (issues s.certificates) (length s.certificates) cs

  pub candidates : Candidates (chains rows 10)
  candidates = are_candidates (issues s.certificates) (length s.certificates) rows some are_rows

  -- each chain of a level can be tried
  pub level_triable : (n : ℕ) → n < 10 → AreTriable s.certificates (level rows n)
  level_triable n h =
      all_of (IsTriable s.certificates) (level rows n) (λ c i.
      let w = split rows n 10 h in
      let P : List (List ℕ) → Type 0 = λ cs. In c cs in
      triable s.certificates c (in_all (IsCandidate (issues s.certificates) (length s.certificates)) (chains rows 10) c candidates.only
      (subst P (sym w.1) (In-append_right c (chains rows n) (level rows n ++ w.0) (In-append_left c (level rows n) w.0 i)))))

  pub front_triable : (n k : ℕ) → n < 10 → AreTriable s.certificates (take k (level rows n))
  front_triable n k h = all_front (IsTriable s.certificates) k (level rows n) (level_triable n h)

  -- those that are tried in all, where so many are left for a level
  tried_all : (n left : ℕ) → n < 10 → left + length (chains rows n) ≡ 4096 → (after : List (List ℕ)) × (take most (chains rows 10) ≡ chains rows n ++ (take left (level rows n) ++ after))
  tried_all n left h e =
      let w = split rows n 10 h in
      let r = take_two left (level rows n) w.0 in
      (r.0, ap (take most) w.1 ∙ (take_behind left most (chains rows n) (level rows n ++ w.0) (omega (arith, e)) ∙ ap (λ t. chains rows n ++ t) r.1))

  pub found : (n left number : ℕ) (chain : List ℕ) (policies : List Label) → n < 10
      → left + length (chains rows n) ≡ 4096 → NoneOf s (chains rows n)
      → IsFirstChain s (take left (level rows n)) number chain policies
      → IsFirstChain s (take most (chains rows 10)) number chain policies
  found n left number chain policies h e none f =
      let r = tried_all n left h e in
      first_among s number chain policies (chains rows n) (take left (level rows n)) r.0 (take most (chains rows 10)) none r.1 f

  pub limit : (n left : ℕ) → n < 10 → left + length (chains rows n) ≡ 4096
      → NoneOf s (chains rows n) → left < length (level rows n)
      → NoneOf s (take left (level rows n)) → (most < length (chains rows 10))
      × NoneOf s (take most (chains rows 10))
  limit n left h e none l front =
      let w = split rows n 10 h in
      let P : List (List ℕ) → Type 0 = λ cs. NoneOf s cs in
      let whole = ap length w.1 ∙ (length-append (chains rows n) (level rows n ++ w.0) ∙ ap (λ k. length (chains rows n) + k) (length-append (level rows n) w.0)) in
      let tried = ap (take most) w.1
      ∙ (take_behind left most (chains rows n) (level rows n ++ w.0) (omega (arith, e))
      ∙ ap (λ t. chains rows n ++ t)
      (take-append-le left (level rows n) w.0 (omega (arith, l)))) in
      (omega (arith, whole, e, l), subst P (sym tried) (all_append _ (chains rows n) (take left (level rows n)) none front))

  -- the next level
  pub next_none : (n : ℕ) → NoneOf s (chains rows n) → NoneOf s (level rows n) → NoneOf s (chains rows (suc n))
  unfolding chains
  next_none n none more = all_append _ (chains rows n) (level rows n) none more

  pub next_left : (n left : ℕ) → left + length (chains rows n) ≡ 4096 → length (level rows n) ≤ left → (left - length (level rows n)) + length (chains rows (suc n)) ≡ 4096
  unfolding chains
  next_left n left e l = let k = length-append (chains rows n) (level rows n) in omega (arith, e, l, k)

  pub next_level : (n : ℕ) → flat_map (longer rows) (level rows n) ≡ level rows (suc n)
  unfolding level
  next_level n = refl

  -- before the first level
  pub none_yet : NoneOf s (chains rows 0)
  unfolding chains
  none_yet = tt

  pub all_left : 4096 + length (chains rows 0) ≡ 4096
  unfolding chains
  all_left = refl

  pub level_0 : (0 ∷ []) ∷ [] ≡ level rows 0
  unfolding level
  level_0 = refl

  -- ---- the answers

  answer_of : (answer : SearchAnswer) → Answers s (chains rows 10) answer → IsSearchAnswer s answer
  answer_of answer h = record { candidates = chains rows 10; are_candidates = candidates; answers = h }

  pub end_answer : (n left : ℕ) → n ≡ 10 → left + length (chains rows n) ≡ 4096 → NoneOf s (chains rows n) → IsSearchAnswer s NoPath
  end_answer n left e l none =
      let P : ℕ → Type 0 = λ k. left + length (chains rows k) ≡ 4096 in
      let Q : ℕ → Type 0 = λ k. NoneOf s (chains rows k) in
      answer_of NoPath (omega (arith, subst P e l), subst Q e none)

  -- of the chains that are tried
  pub cut : (n left : ℕ) (cs : List (List ℕ)) → cs ≡ take (left + 1) (level rows n) → take left cs ≡ take left (level rows n)
  cut n left cs e = ap (take left) e ∙ take_front (left + 1) left (level rows n) (omega arith)

  pub cut_triable : (n left : ℕ) (cs : List (List ℕ)) → n < 10 → cs ≡ take (left + 1) (level rows n) → AreTriable s.certificates (take left cs)
  cut_triable n left cs h e = subst (AreTriable s.certificates) (sym (cut n left cs e)) (front_triable n left h)

  pub whole : (n left : ℕ) (cs : List (List ℕ)) → cs ≡ take (left + 1) (level rows n) → length cs ≤ left → cs ≡ level rows n
  whole n left cs e h = e ∙ take_short (left + 1) left (level rows n) refl (let k = ap length e in omega (arith, k, h))

  pub whole_triable : (n left : ℕ) (cs : List (List ℕ)) → n < 10 → cs ≡ take (left + 1) (level rows n) → length cs ≤ left → AreTriable s.certificates cs
  whole_triable n left cs h e l = subst (AreTriable s.certificates) (sym (whole n left cs e l)) (level_triable n h)

  pub limit_answer : (n left : ℕ) (cs tried : List (List ℕ)) (found_one : Option SearchAnswer)
      → n < 10 → cs ≡ take (left + 1) (level rows n) → left + length (chains rows n) ≡ 4096
      → NoneOf s (chains rows n) → left < length cs → tried ≡ take left cs
      → FirstOf s tried found_one → IsSearchAnswer s (unwrap_or found_one SearchLimit)
  limit_answer n left cs tried None h e l none more t f =
      let k = ap length e in
      let m = length_take_le (left + 1) (level rows n) in
      answer_of SearchLimit (limit n left h l none (omega (arith, k, m, more)) (subst (NoneOf s) (t ∙ cut n left cs e) f))
  limit_answer n left cs tried (Some (Found number chain policies)) h e l none more t f =
      let P : List (List ℕ) → Type 0 = λ ts. IsFirstChain s ts number chain.items (map (λ p. p.content.now) policies.items) in
      answer_of (Found number chain policies) (found n left number chain.items (map (λ p. p.content.now) policies.items) h l none (subst P (t ∙ cut n left cs e) f))
  limit_answer n left cs tried (Some NoPath) h e l none more t f = absurd f
  limit_answer n left cs tried (Some SearchLimit) h e l none more t f = absurd f

  pub found_answer : (n left : ℕ) (cs : List (List ℕ)) (answer : SearchAnswer) → n < 10
      → cs ≡ take (left + 1) (level rows n) → left + length (chains rows n) ≡ 4096
      → NoneOf s (chains rows n) → length cs ≤ left → FirstOf s cs (Some answer)
      → IsSearchAnswer s answer
  found_answer n left cs (Found number chain policies) h e l none few f =
      let P : List (List ℕ) → Type 0 = λ ts. IsFirstChain s ts number chain.items (map (λ p. p.content.now) policies.items) in
      let w = whole n left cs e few in
      let k = ap length w in
      answer_of (Found number chain policies)
      (found n left number chain.items (map (λ p. p.content.now) policies.items) h l none
      (subst P (w ∙ sym (take_all left (level rows n) (omega (arith, k, few)))) f))
  found_answer n left cs NoPath h e l none few f = absurd f
  found_answer n left cs SearchLimit h e l none few f = absurd f
