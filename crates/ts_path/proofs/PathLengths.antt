-- The condition on path lengths is what pathLenConstraints ask of the certificates that follow.
use Rattle.std.proofs.Common.{◌≡◌, ◌↔◌, ℕ, suc, ◌+◌, ◌-◌, ◌<◌, ◌≤◌, min, nat_lt, not, ◌||◌, cond, Bool, true, false, if◌then◌else◌}
use Rattle.std.proofs.Common.{List, [], ◌∷◌, ◌++◌, length, Option, Some, None, IsTrue, refl, sym, ap, ◌∙◌, arith}
use Rattle.std.specs.List.{filter}
use Rattle.std.proofs.lemmas.Bool.{false≢true}
use Rattle.std.proofs.lemmas.Bool.Decides.{Decides-ltb}
use Rattle.ts_cert.specs.Certificate.{Certificate}
use Rattle.ts_path.specs.Chain.{ChainQuestion, Link, Stands, chained, is_empty, is_last}
use Rattle.ts_path.specs.Names.{is_self_issued}
use Rattle.ts_path.specs.Counters.{counted, all_counted, with_bound, bounds, least_of, counter}
use Rattle.ts_path.specs.Extensions.{path_length_of}
use Rattle.ts_path.specs.Asked.{ValidationInputs}
use Rattle.ts_path.specs.State.{PathState, counters_at, state_at}
use Rattle.ts_path.specs.Conditions.{may_go_on, Meets}
use Rattle.ts_path.specs.Verdict.{HoldsAt}
use Rattle.ts_path.specs.PathLength.{not_self_issued, intermediates, FollowersFit, FollowsWithin}
use Rattle.ts_path.proofs.Positions.{head_is, tail_is, within}
use Rattle.ts_reason.specs.Conditions.{path_length}

-- ---- what a counter leaves

both_above : (a b : ℕ) → 0 < min a b → (0 < a) × (0 < b)
both_above a b h = (omega arith, omega arith)

least_above : (a b : ℕ) → 0 < a → 0 < b → 0 < min a b
least_above a b h k = omega arith

-- each bound above leaves something
abbrev AllLeave : (Certificate → Option ℕ) → ℕ → List Certificate → Type 0
AllLeave bound p above = (nearer farther : List Certificate) (d : Certificate) (r : ℕ) → above ≡ nearer ++ d ∷ farther → bound d ≡ Some r → p + all_counted nearer < r

no_split : (nearer farther : List Certificate) (d : Certificate) → [] ≡ nearer ++ d ∷ farther → ⊥
no_split [] farther d e = cc e
no_split (c ∷ nearer) farther d e = cc e

bound_leaves : (first p : ℕ) (b : Option ℕ) (others : List ℕ) → 0 < least_of first (with_bound b p others) → ((r : ℕ) → b ≡ Some r → p < r) × (0 < least_of first others)
bound_leaves first p None others h = (λ r e. cc e, h)
bound_leaves first p (Some s) others h =
    let both = both_above (s - p) (least_of first others) h in
    (λ r e. let same : s ≡ r = cc e in omega (arith, both.0, same), both.1)

bound_left : (first p : ℕ) (b : Option ℕ) (others : List ℕ) → ((r : ℕ) → b ≡ Some r → p < r) → 0 < least_of first others → 0 < least_of first (with_bound b p others)
bound_left first p None others here rest = rest
bound_left first p (Some s) others here rest = let h = here s refl in least_above (s - p) (least_of first others) (omega (arith, h)) rest

one_more_leaves : (bound : Certificate → Option ℕ) (p : ℕ) (c : Certificate) (above : List Certificate) → ((r : ℕ) → bound c ≡ Some r → p < r)
    → AllLeave bound (p + counted c) above → AllLeave bound p (c ∷ above)
one_more_leaves bound p c above here rest [] farther d r e is = let h = here r (ap bound (head_is c d above farther e) ∙ is) in omega (arith, h)
one_more_leaves bound p c above here rest (x ∷ nearer) farther d r e is =
    let h = rest nearer farther d r (tail_is c x above (nearer ++ d ∷ farther) e) is in
    omega (arith, h, ap counted (head_is c x above (nearer ++ d ∷ farther) e))

all_leave : (bound : Certificate → Option ℕ) (first p : ℕ) (above : List Certificate) → 0 < least_of first (bounds bound p above) → AllLeave bound p above
all_leave bound first p [] h = λ nearer farther d r e is. absurd (no_split nearer farther d e)
all_leave bound first p (c ∷ above) h =
    let both = bound_leaves first p (bound c) (bounds bound (p + counted c) above) h in
    one_more_leaves bound p c above both.0 (all_leave bound first (p + counted c) above both.1)

all_left : (bound : Certificate → Option ℕ) (first p : ℕ) (above : List Certificate) → 0 < first → AllLeave bound p above → 0 < least_of first (bounds bound p above)
all_left bound first p [] some all = some
all_left bound first p (c ∷ above) some all =
    bound_left first p (bound c) (bounds bound (p + counted c) above)
    (λ r is. let h = all [] above c r refl is in omega (arith, h))
    (all_left bound first (p + counted c) above some
    (λ nearer farther d r e is. let h = all (c ∷ nearer) farther d r (ap (λ (cs : List Certificate). c ∷ cs) e) is in omega (arith, h)))

-- ---- certificates that count

counts_as : (c : Certificate) (b : Bool) → is_self_issued c ≡ b → counted c ≡ (if b then 0 else 1)
counts_as c b e = ap (λ (x : Bool). if x then 0 else 1) e

one_at_most : (c : Certificate) (b : Bool) → is_self_issued c ≡ b → counted c ≤ 1
one_at_most c true e = let h = counts_as c true e in omega (arith, h)
one_at_most c false e = let h = counts_as c false e in omega (arith, h)

all_at_most : (cs : List Certificate) → all_counted cs ≤ length cs
all_at_most [] = omega arith
all_at_most (c ∷ cs) = let rest = all_at_most cs in omega (arith, rest, one_at_most c (is_self_issued c) refl)

one_counts : (b : Bool) (c : Certificate) (rest : List Certificate) (n : ℕ) → length rest ≡ n → length (cond (not b) (c ∷ rest) rest) ≡ (if b then 0 else 1) + n
one_counts true c rest n e = omega (arith, e)
one_counts false c rest n e = omega (arith, e)

-- those that count are those that are not self-issued
all_count : (cs : List Certificate) → not_self_issued cs ≡ all_counted cs
all_count [] = refl
all_count (c ∷ cs) = one_counts (is_self_issued c) c (filter (λ d. not (is_self_issued d)) cs) (all_counted cs) (all_count cs)

-- a counter that starts above what counts is above zero where each bound leaves something
counter_leaves : (bound : Certificate → Option ℕ) (n : ℕ) (above : List Certificate) → length above < n → (0 < counter bound n above) ↔ AllLeave bound 0 above
unfolding counter
counter_leaves bound n above low = (
  all_leave bound (n - all_counted above) 0 above,
  all_left bound (n - all_counted above) 0 above (omega (arith, low, all_at_most above)),
)

-- a certificate that counts follows within the path lengths where each leaves something
within_lengths : (n : ℕ) (above : List Certificate) (c : Certificate) → length above < n → is_self_issued c ≡ false
    → (0 < counter (λ d. path_length_of d.tbsCertificate) n above) ↔ FollowsWithin above c
within_lengths n above c low other =
    let one : counted c ≡ 1 = counts_as c false other in
    let both = counter_leaves (λ d. path_length_of d.tbsCertificate) n above low in (
      λ h nearer farther d r e is. let k = both.0 h nearer farther d r e is in omega (arith, k, one, all_count (c ∷ nearer)),
      λ all. both.1 (λ nearer farther d r e is. let k = all nearer farther d r e is in omega (arith, k, one, all_count (c ∷ nearer))),
    )

above_zero : (b : Bool) (n : ℕ) → b ≡ false → (b || nat_lt 0 n) ≡ true → 0 < n
above_zero b n e h = (Decides-ltb 0 n).0 (ap (λ (x : Bool). x || nat_lt 0 n) (sym e) ∙ h)

or_above_zero : (b : Bool) (n : ℕ) → b ≡ false → 0 < n → (b || nat_lt 0 n) ≡ true
or_above_zero b n e h = ap (λ (x : Bool). x || nat_lt 0 n) e ∙ (Decides-ltb 0 n).1 h

or_first : (b c : Bool) → b ≡ true → (b || c) ≡ true
or_first b c e = ap (λ (x : Bool). x || c) e

-- ---- along the chain

chained_both : (nearer farther rest : List Certificate) → chained (nearer ++ farther) rest ≡ chained farther (chained nearer rest)
chained_both [] farther rest = refl
chained_both (c ∷ nearer) farther rest = chained_both nearer farther (c ∷ rest)

count_chained : (nearer : List Certificate) (c x : Certificate) (rest : List Certificate)
    → all_counted (intermediates (chained nearer (c ∷ x ∷ rest))) ≡ all_counted nearer + all_counted (intermediates (c ∷ x ∷ rest))
count_chained [] c x rest = omega arith
count_chained (y ∷ nearer) c x rest = let e = count_chained nearer y c (x ∷ rest) in omega (arith, e)

-- where at most so many follow each, a certificate follows each within its path length
follows_each : (chain above : List Certificate) (c : Certificate) (below : List Certificate) → ((i : ℕ) (l : Link) → Stands chain i l → FollowersFit l)
    → chain ≡ chained above (c ∷ below) → is_empty below ≡ false → FollowsWithin above c
follows_each chain above c [] fit e some = absurd (false≢true (sym some))
follows_each chain above c (x ∷ below) fit e some = λ nearer farther d r split is.
    let m : Link = record { above = farther; certificate = d; below = chained nearer (c ∷ x ∷ below) } in
    let s : Stands chain (suc (length farther)) m = record {
      chain_is = e ∙ (ap (λ (cs : List Certificate). chained cs (c ∷ x ∷ below)) split ∙ chained_both nearer (d ∷ farther) (c ∷ x ∷ below));
      position_is = refl;
    } in
    let h = fit (suc (length farther)) m s r is in
    omega (arith, h, count_chained nearer c x below, all_count (c ∷ nearer), all_count (intermediates (chained nearer (c ∷ x ∷ below))))

-- the certificates of the chain that are neither the last nor self-issued follow within the path
-- lengths
abbrev AllFollow : List Certificate → Type 0
AllFollow chain = (i : ℕ) (l : Link) → Stands chain i l → is_last l ≡ false → is_self_issued l.certificate ≡ false → FollowsWithin l.above l.certificate

one_more_fits : (c : Certificate) (b : Bool) (n r : ℕ) → is_self_issued c ≡ b → n ≤ r → (b ≡ false → counted c + n ≤ r) → counted c + n ≤ r
one_more_fits c true n r e low other = let h = counts_as c true e in omega (arith, h)
one_more_fits c false n r e low other = other refl

-- `mid` stands between the certificate that states the path length and the rest
rest_fits : (chain : List Certificate) → AllFollow chain → (d : Certificate) (above : List Certificate) (r : ℕ) → path_length_of d.tbsCertificate ≡ Some r
    → (mid rest : List Certificate) → chain ≡ chained (mid ++ d ∷ above) rest → all_counted mid ≤ r → all_counted mid + all_counted (intermediates rest) ≤ r
rest_fits chain all d above r is mid [] e low = omega arith
rest_fits chain all d above r is mid (c ∷ []) e low = omega arith
rest_fits chain all d above r is mid (c ∷ x ∷ rest) e low =
    let l : Link = record { above = mid ++ d ∷ above; certificate = c; below = x ∷ rest } in
    let s : Stands chain (suc (length (mid ++ d ∷ above))) l = record { chain_is = e; position_is = refl } in
    let more = one_more_fits c (is_self_issued c) (all_counted mid) r refl low
    (λ other. let k = all (suc (length (mid ++ d ∷ above))) l s refl other mid above d r refl is in omega (arith, k, all_count (c ∷ mid))) in
    let h = rest_fits chain all d above r is (c ∷ mid) (x ∷ rest) e more in
    omega (arith, h)

followers_fit : (chain : List Certificate) → AllFollow chain → (i : ℕ) (l : Link) → Stands chain i l → FollowersFit l
followers_fit chain all i l s r is = let h = rest_fits chain all l.certificate l.above r is [] l.below s.chain_is (omega arith) in omega (arith, h, all_count (intermediates l.below))

-- ---- the condition

pub goes_on : (a : ValidationInputs) (chain : List Certificate) (i : ℕ) (l : Link) → Stands chain i l → is_self_issued l.certificate ≡ false
    → IsTrue (may_go_on (state_at a (length chain) l.above) l.certificate) ↔ FollowsWithin l.above l.certificate
unfolding state_at counters_at
goes_on a chain i l s other =
    let low : length l.above < length chain = omega (arith, s.position_is, (within chain i l s).1) in
    let both = within_lengths (length chain) l.above l.certificate low other in
    let n = counter (λ d. path_length_of d.tbsCertificate) (length chain) l.above in
    (λ is. both.0 (above_zero (is_self_issued l.certificate) n other is), λ all. or_above_zero (is_self_issued l.certificate) n other (both.1 all))

pub self_issued_goes_on : (s : PathState) (c : Certificate) → is_self_issued c ≡ true → IsTrue (may_go_on s c)
self_issued_goes_on s c is = or_first (is_self_issued c) (nat_lt 0 s.counters.max_path_length) is

may_in_any_case : (a : ValidationInputs) (chain : List Certificate) (i : ℕ) (l : Link) → Stands chain i l → (b : Bool) → is_self_issued l.certificate ≡ b
    → (b ≡ false → FollowsWithin l.above l.certificate) → IsTrue (may_go_on (state_at a (length chain) l.above) l.certificate)
may_in_any_case a chain i l s true is all = self_issued_goes_on (state_at a (length chain) l.above) l.certificate is
may_in_any_case a chain i l s false is all = (goes_on a chain i l s is).1 (all refl)

pub holds_everywhere : (q : ChainQuestion) → ((i : ℕ) → HoldsAt path_length q i) ↔ ((i : ℕ) (l : Link) → Stands q.chain i l → FollowersFit l)
unfolding HoldsAt Meets
holds_everywhere q = (
  λ holds. followers_fit q.chain (λ i l s more other. (goes_on q.asked q.chain i l s other).0 (holds i l s more)),
  λ fit i l s more. may_in_any_case q.asked q.chain i l s (is_self_issued l.certificate) refl (λ _. follows_each q.chain l.above l.certificate l.below fit s.chain_is more),
)
