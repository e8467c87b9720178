-- The passes list by list find the first pair that revokes, and the union of the masks, as the passes pair by pair do.
use Rattle.std.proofs.Common.{◌≡◌, ℕ, suc, ◌+◌, ◌<◌, Bool, true, false, cond, not, ◌&&◌, nat_lt, List, [], ◌∷◌, ◌++◌, filter, Option, Some, None, refl, sym, ◌∙◌, ap, true≢false, if◌then◌else◌, arith}
use Rattle.std.specs.Prelude.{map, flat_map, option_map}
use Rattle.std.specs.List.{position_from}
use Rattle.std.proofs.lemmas.Bool.Decides.{Decides-ltb}
use Rattle.ts_ext.specs.declared.reason_set.ReasonSet.{ReasonSet}
use Rattle.ts_ext.specs.NamedBits.{no_reasons}
use Rattle.ts_ext.specs.Points.{Point}
use Rattle.ts_crl.specs.List.{CertificateList}
use Rattle.ts_crl.specs.Profile.{scope_of}
use Rattle.ts_revoke.specs.declared.found.Found.{Found}
use Rattle.ts_revoke.specs.declared.verdict.Status.{Status}
use Rattle.ts_revoke.specs.declared.verdict.Status.TheVariants.{Undetermined}
use Rattle.ts_revoke.specs.inside.ByList.{is_reached, reached_mask, reached_reasons, at_place}
use Rattle.ts_revoke.specs.inside.ByList.{earlier, found_by, reasons_by, found_after, reasons_after}
use Rattle.ts_revoke.specs.inside.ByList.{is_taken, revoked_at, reasons_at, end_of, or_revoked}
use Rattle.ts_revoke.specs.inside.ByList.{status_after, by_list}
use Rattle.ts_revoke.specs.Decision.{revoking, or_reason, first_revoking, decided, of_pass}
use Rattle.ts_revoke.specs.Listed.{listed}
use Rattle.ts_revoke.specs.Pairs.{Pair, union_of, adding}
use Rattle.ts_revoke.specs.Question.{StatusQuestion}
use Rattle.ts_revoke.specs.Reasons.{union, is_subset}
use Rattle.ts_revoke.specs.Status.{pair_of, pairs_among, pairs_at, status_of}
use Rattle.ts_revoke.specs.Usable.{serves, is_named, mask_of, is_usable, is_own, all_points, issuer_point}
use Rattle.ts_revoke.proofs.Sets.{union-assoc, union-comm, none-union, union-none}

-- ---- the pairs of one point

-- what a list gives at a point where these reasons are covered
abbrev pub rev_at : StatusQuestion → Point → ReasonSet → CertificateList → Option ℕ
rev_at q p covered l = if is_usable q p l && not (is_subset (mask_of p (scope_of l)) covered) then revoking (listed q l) else None

abbrev pub set_at : StatusQuestion → Point → ReasonSet → CertificateList → ReasonSet
set_at q p covered l = if is_usable q p l && not (is_subset (mask_of p (scope_of l)) covered) then mask_of p (scope_of l) else no_reasons

abbrev pub revs : StatusQuestion → Point → ReasonSet → List CertificateList → Option ℕ
revs q p covered [] = None
revs q p covered (l ∷ ls) = or_reason (rev_at q p covered l) (revs q p covered ls)

abbrev pub sets : StatusQuestion → Point → ReasonSet → List CertificateList → ReasonSet
sets q p covered [] = no_reasons
sets q p covered (l ∷ ls) = union (set_at q p covered l) (sets q p covered ls)

-- a filter of a filter, at its first element
first_of : (u a : Bool) (x : Pair) (kept : List Pair)
    → first_revoking (if u then (if a then x ∷ kept else kept) else kept) ≡ or_reason
    (if u && a then revoking x.listed else None) (first_revoking kept)
first_of true true x kept = refl
first_of true false x kept = refl
first_of false a x kept = refl

set_of_first : (u a : Bool) (x : Pair) (kept : List Pair) → union_of (if u then (if a then x ∷ kept else kept) else kept) ≡ union (if u && a then x.mask else no_reasons) (union_of kept)
set_of_first true true x kept = refl
set_of_first true false x kept = sym (none-union (union_of kept))
set_of_first false a x kept = sym (none-union (union_of kept))

-- filtering what was filtered and mapped
kept_first : (q : StatusQuestion) (p : Point) (covered : ReasonSet) (l : CertificateList) (ls : List CertificateList) (u : Bool)
    → adding covered (map (pair_of q p) (cond u (l ∷ filter (is_usable q p) ls) (filter (is_usable q p) ls)))
    ≡ (if u then (if not (is_subset (mask_of p (scope_of l)) covered) then pair_of q p l
    ∷ adding covered (pairs_among q p ls) else adding covered (pairs_among q p ls)) else adding
    covered (pairs_among q p ls))
kept_first q p covered l ls true = refl
kept_first q p covered l ls false = refl

pub first-among : (q : StatusQuestion) (p : Point) (covered : ReasonSet) (ls : List CertificateList) → first_revoking (adding covered (pairs_among q p ls)) ≡ revs q p covered ls
first-among q p covered [] = refl
first-among q p covered (l ∷ ls) =
    ap first_revoking (kept_first q p covered l ls (is_usable q p l))
    ∙ first_of (is_usable q p l) (not (is_subset (mask_of p (scope_of l)) covered)) (pair_of q p l) (adding covered (pairs_among q p ls))
    ∙ ap (or_reason (rev_at q p covered l)) (first-among q p covered ls)

pub union-among : (q : StatusQuestion) (p : Point) (covered : ReasonSet) (ls : List CertificateList) → union_of (adding covered (pairs_among q p ls)) ≡ sets q p covered ls
union-among q p covered [] = refl
union-among q p covered (l ∷ ls) =
    ap union_of (kept_first q p covered l ls (is_usable q p l))
    ∙ set_of_first (is_usable q p l) (not (is_subset (mask_of p (scope_of l)) covered)) (pair_of q p l) (adding covered (pairs_among q p ls))
    ∙ ap (union (set_at q p covered l)) (union-among q p covered ls)

-- ---- pass 2

and-comm : (a b : Bool) → (a && b) ≡ (b && a)
and-comm true true = refl
and-comm true false = refl
and-comm false true = refl
and-comm false false = refl

revoked_at-is : (q : StatusQuestion) (p : Point) (covered : ReasonSet) (l : CertificateList) → revoked_at q p covered l ≡ rev_at q p covered l
unfolding revoked_at is_taken
revoked_at-is q p covered l = ap (λ b. if b then revoking (listed q l) else None) (and-comm (not (is_subset (mask_of p (scope_of l)) covered)) (is_usable q p l))

reasons_at-is : (q : StatusQuestion) (p : Point) (covered : ReasonSet) (l : CertificateList) → reasons_at q p covered l ≡ set_at q p covered l
unfolding reasons_at is_taken
reasons_at-is q p covered l = ap (λ b. if b then mask_of p (scope_of l) else no_reasons) (and-comm (not (is_subset (mask_of p (scope_of l)) covered)) (is_usable q p l))

or_decided : (r s : Option ℕ) (reasons : ReasonSet) → or_revoked r (decided s reasons Undetermined) ≡ decided (or_reason r s) reasons Undetermined
or_decided (Some reason) s reasons = refl
or_decided None s reasons = refl

status_after-is : (q : StatusQuestion) (p : Point) (covered reasons : ReasonSet)
    (ls : List CertificateList)
    → status_after q p covered reasons ls ≡ decided (revs q p covered ls)
    (union reasons (sets q p covered ls)) Undetermined
status_after-is q p covered reasons [] = ap end_of (sym (union-none reasons))
status_after-is q p covered reasons (l ∷ ls) =
    ap (or_revoked (revoked_at q p covered l)) (status_after-is q p covered (union reasons (reasons_at q p covered l)) ls)
    ∙ or_decided (revoked_at q p covered l) (revs q p covered ls) (union (union reasons (reasons_at q p covered l)) (sets q p covered ls))
    ∙ ap (λ r. decided (or_reason r (revs q p covered ls)) (union (union reasons (reasons_at q p covered l)) (sets q p covered ls)) Undetermined) (revoked_at-is q p covered l)
    ∙ ap (λ s. decided (or_reason (rev_at q p covered l) (revs q p covered ls)) s Undetermined)
    (union-assoc reasons (reasons_at q p covered l) (sets q p covered ls) ∙ ap (λ s. union reasons (union s (sets q p covered ls))) (reasons_at-is q p covered l))

-- list by list pass 2 says what it says pair by pair
pub pass_two : (q : StatusQuestion) (p : Point) (covered : ReasonSet) → status_after q p covered covered q.lists ≡ of_pass covered (adding covered (pairs_at q p)) Undetermined
pass_two q p covered =
    status_after-is q p covered covered q.lists
    ∙ ap (λ r. decided r (union covered (sets q p covered q.lists)) Undetermined) (sym (first-among q p covered q.lists))
    ∙ ap (λ s. decided (first_revoking (adding covered (pairs_at q p))) (union covered s) Undetermined) (sym (union-among q p covered q.lists))

-- ---- pass 1: the first that revokes

first-append : (xs ys : List Pair) → first_revoking (xs ++ ys) ≡ or_reason (first_revoking xs) (first_revoking ys)
first-append [] ys = refl
first-append (x ∷ xs) ys = ap (or_reason (revoking x.listed)) (first-append xs ys) ∙ or-assoc (revoking x.listed) (first_revoking xs) (first_revoking ys)
  where
    or-assoc : (a b c : Option ℕ) → or_reason a (or_reason b c) ≡ or_reason (or_reason a b) c
    or-assoc None b c = refl
    or-assoc (Some x) b c = refl

union-append : (xs ys : List Pair) → union_of (xs ++ ys) ≡ union (union_of xs) (union_of ys)
union-append [] ys = sym (none-union (union_of ys))
union-append (x ∷ xs) ys = ap (union x.mask) (union-append xs ys) ∙ sym (union-assoc x.mask (union_of xs) (union_of ys))

adding-append : (covered : ReasonSet) (xs ys : List Pair) → adding covered (xs ++ ys) ≡ adding covered xs ++ adding covered ys
adding-append covered [] ys = refl
adding-append covered (x ∷ xs) ys = by_test (adding-append covered xs ys) (not (is_subset x.mask covered))
  where
    by_test : adding covered (xs ++ ys) ≡ adding covered xs ++ adding covered ys → (b : Bool)
        → cond b (x ∷ adding covered (xs ++ ys)) (adding covered (xs ++ ys)) ≡ cond b (x ∷ adding covered xs) (adding covered xs) ++ adding covered ys
    by_test e true = ap (λ zs. x ∷ zs) e
    by_test e false = e

-- all pairs of pass 1, by the points as they are
abbrev pub own_pairs : StatusQuestion → List Point → List Pair
own_pairs q points = adding no_reasons (flat_map (pairs_at q) (filter is_own points))

-- what a list gives at a point of pass 1
abbrev pub own_rev : StatusQuestion → Point → CertificateList → Option ℕ
own_rev q p l = if serves q l && is_reached (scope_of l) p then revoking (listed q l) else None

abbrev pub own_set : StatusQuestion → Point → CertificateList → ReasonSet
own_set q p l = if serves q l then reached_mask (scope_of l) p else no_reasons

abbrev pub own_revs : StatusQuestion → Point → List CertificateList → Option ℕ
own_revs q p [] = None
own_revs q p (l ∷ ls) = or_reason (own_rev q p l) (own_revs q p ls)

abbrev pub own_sets : StatusQuestion → Point → List CertificateList → ReasonSet
own_sets q p [] = no_reasons
own_sets q p (l ∷ ls) = union (own_set q p l) (own_sets q p ls)

-- at an own point these are the pairs' own
own_rev-is : (q : StatusQuestion) (p : Point) (l : CertificateList) → is_own p ≡ true → own_rev q p l ≡ rev_at q p no_reasons l
unfolding is_reached
own_rev-is q p l own = ap (λ b. if b then revoking (listed q l) else None) (tests (serves q l) (is_own p) (is_named p (scope_of l)) (not (is_subset (mask_of p (scope_of l)) no_reasons)) own)
  where
    tests : (s o n w : Bool) → o ≡ true → (s && (o && (w && n))) ≡ ((s && n) && w)
    tests s false n w e = absurd (true≢false (sym e))
    tests true true true true e = refl
    tests true true true false e = refl
    tests true true false true e = refl
    tests true true false false e = refl
    tests false true true w e = refl
    tests false true false w e = refl

own_set-is : (q : StatusQuestion) (p : Point) (l : CertificateList) → is_own p ≡ true → own_set q p l ≡ set_at q p no_reasons l
unfolding is_reached
own_set-is q p l own = tests (serves q l) (is_own p) (is_named p (scope_of l)) (not (is_subset (mask_of p (scope_of l)) no_reasons)) (mask_of p (scope_of l)) own
  where
    tests : (s o n w : Bool) (m : ReasonSet) → o ≡ true → (if s then (if o && (w && n) then m else no_reasons) else no_reasons) ≡ (if (s && n) && w then m else no_reasons)
    tests s false n w m e = absurd (true≢false (sym e))
    tests true true true true m e = refl
    tests true true true false m e = refl
    tests true true false true m e = refl
    tests true true false false m e = refl
    tests false true true w m e = refl
    tests false true false w m e = refl

own_revs-is : (q : StatusQuestion) (p : Point) (ls : List CertificateList) → is_own p ≡ true → own_revs q p ls ≡ revs q p no_reasons ls
own_revs-is q p [] own = refl
own_revs-is q p (l ∷ ls) own = ap (λ r. or_reason r (own_revs q p ls)) (own_rev-is q p l own) ∙ ap (or_reason (rev_at q p no_reasons l)) (own_revs-is q p ls own)

own_sets-is : (q : StatusQuestion) (p : Point) (ls : List CertificateList) → is_own p ≡ true → own_sets q p ls ≡ sets q p no_reasons ls
own_sets-is q p [] own = refl
own_sets-is q p (l ∷ ls) own = ap (λ r. union r (own_sets q p ls)) (own_set-is q p l own) ∙ ap (union (set_at q p no_reasons l)) (own_sets-is q p ls own)

-- at any other point there is nothing
no_rev : (q : StatusQuestion) (p : Point) (ls : List CertificateList) → is_own p ≡ false → own_revs q p ls ≡ None
unfolding is_reached
no_rev q p [] other = refl
no_rev q p (l ∷ ls) other =
    ap (λ r. or_reason r (own_revs q p ls)) (none (serves q l) (is_own p) (not (is_subset (mask_of p (scope_of l)) no_reasons) && is_named p (scope_of l)) (revoking (listed q l)) other)
    ∙ no_rev q p ls other
  where
    none : (s o n : Bool) (r : Option ℕ) → o ≡ false → (if s && (o && n) then r else None) ≡ None
    none s true n r e = absurd (true≢false e)
    none true false n r e = refl
    none false false n r e = refl

no_set : (q : StatusQuestion) (p : Point) (ls : List CertificateList) → is_own p ≡ false → own_sets q p ls ≡ no_reasons
unfolding is_reached
no_set q p [] other = refl
no_set q p (l ∷ ls) other =
    ap (λ r. union r (own_sets q p ls)) (none (serves q l) (is_own p) (not (is_subset (mask_of p (scope_of l)) no_reasons) && is_named p (scope_of l)) (mask_of p (scope_of l)) other)
    ∙ none-union (own_sets q p ls) ∙ no_set q p ls other
  where
    none : (s o n : Bool) (m : ReasonSet) → o ≡ false → (if s then (if o && n then m else no_reasons) else no_reasons) ≡ no_reasons
    none s true n m e = absurd (true≢false e)
    none true false n m e = refl
    none false false n m e = refl

-- point by point
abbrev pub point_revs : StatusQuestion → List CertificateList → List Point → Option ℕ
point_revs q ls [] = None
point_revs q ls (p ∷ ps) = or_reason (own_revs q p ls) (point_revs q ls ps)

abbrev pub point_sets : StatusQuestion → List CertificateList → List Point → ReasonSet
point_sets q ls [] = no_reasons
point_sets q ls (p ∷ ps) = union (own_sets q p ls) (point_sets q ls ps)

pub first-own : (q : StatusQuestion) (ps : List Point) → first_revoking (own_pairs q ps) ≡ point_revs q q.lists ps
first-own q [] = refl
first-own q (p ∷ ps) = by_own (first-own q ps) (is_own p) refl
  where
    by_own : first_revoking (own_pairs q ps) ≡ point_revs q q.lists ps → (b : Bool) → is_own p ≡ b
        → first_revoking (adding no_reasons (flat_map (pairs_at q) (cond b (p ∷ filter is_own ps) (filter is_own ps)))) ≡ or_reason (own_revs q p q.lists) (point_revs q q.lists ps)
    by_own rest true own =
        ap first_revoking (adding-append no_reasons (pairs_at q p) (flat_map (pairs_at q) (filter is_own ps)))
        ∙ first-append (adding no_reasons (pairs_at q p)) (own_pairs q ps)
        ∙ ap (λ r. or_reason r (first_revoking (own_pairs q ps))) (first-among q p no_reasons q.lists ∙ sym (own_revs-is q p q.lists own))
        ∙ ap (or_reason (own_revs q p q.lists)) rest
    by_own rest false other = rest ∙ sym (ap (λ r. or_reason r (point_revs q q.lists ps)) (no_rev q p q.lists other))

pub union-own : (q : StatusQuestion) (ps : List Point) → union_of (own_pairs q ps) ≡ point_sets q q.lists ps
union-own q [] = refl
union-own q (p ∷ ps) = by_own (union-own q ps) (is_own p) refl
  where
    by_own : union_of (own_pairs q ps) ≡ point_sets q q.lists ps → (b : Bool) → is_own p ≡ b
        → union_of (adding no_reasons (flat_map (pairs_at q) (cond b (p ∷ filter is_own ps) (filter is_own ps)))) ≡ union (own_sets q p q.lists) (point_sets q q.lists ps)
    by_own rest true own =
        ap union_of (adding-append no_reasons (pairs_at q p) (flat_map (pairs_at q) (filter is_own ps)))
        ∙ union-append (adding no_reasons (pairs_at q p)) (own_pairs q ps)
        ∙ ap (λ r. union r (union_of (own_pairs q ps))) (union-among q p no_reasons q.lists ∙ sym (own_sets-is q p q.lists own))
        ∙ ap (union (own_sets q p q.lists)) rest
    by_own rest false other = rest ∙ sym (ap (λ r. union r (point_sets q q.lists ps)) (no_set q p q.lists other) ∙ none-union (point_sets q q.lists ps))

-- ---- the least place

abbrev pub shift : Option Found → Option Found
shift None = None
shift (Some f) = Some (record { place = suc f.place; reason = f.reason })

-- the best of lists, from the last on
abbrev pub best : StatusQuestion → List Point → List CertificateList → Option Found
best q ps [] = None
best q ps (l ∷ ls) = earlier (found_by q ps l) (best q ps ls)

abbrev pub in_front : Option ℕ → Option Found → Option Found
in_front None f = f
in_front (Some reason) f = Some (record { place = 0; reason = reason })

position-suc : {X : Type 0} (test : X → Bool) (i : ℕ) (xs : List X) → position_from test (suc i) xs ≡ option_map (λ n. suc n) (position_from test i xs)
position-suc test i [] = refl
position-suc {X} test i (x ∷ xs) = by_test (λ j. position-suc test j xs) (test x)
  where
    by_test : ((j : ℕ) → position_from test (suc j) xs ≡ option_map (λ n. suc n) (position_from test j xs)) → (b : Bool)
        → cond b (Some (suc i)) (position_from test (suc i + 1) xs) ≡ option_map (λ n. suc n) (cond b (Some i) (position_from test (i + 1) xs))
    by_test rest true = refl
    by_test rest false = let e : suc i + 1 ≡ suc (i + 1) = omega arith in ap (λ j. position_from test j xs) e ∙ rest (i + 1)

shift-earlier : (a b : Option Found) → shift (earlier a b) ≡ earlier (shift a) (shift b)
unfolding earlier
shift-earlier None b = refl
shift-earlier (Some a) None = refl
shift-earlier (Some a) (Some b) = by_test (nat_lt b.place a.place) refl
  where
    by_test : (t : Bool) → nat_lt b.place a.place ≡ t
        → shift (if nat_lt b.place a.place then Some b else Some a)
        ≡ (if nat_lt (suc b.place) (suc a.place) then Some (record { place = suc b.place; reason = b.reason }) else Some (record { place = suc a.place; reason = a.reason }))
    by_test true e =
        let h : nat_lt (suc b.place) (suc a.place) ≡ true = (Decides-ltb (suc b.place) (suc a.place)).1 (let l : b.place < a.place = (Decides-ltb b.place a.place).0 e in omega arith) in
        rw (e, h) refl
    by_test false e =
        let h : nat_lt (suc b.place) (suc a.place) ≡ false =
        not_true _ (λ t. let l : suc b.place < suc a.place =
        (Decides-ltb (suc b.place) (suc a.place)).0 t in let m : b.place < a.place =
        omega arith in true≢false (sym ((Decides-ltb b.place a.place).1 m) ∙ e)) in
        rw (e, h) refl
      where
        not_true : (t : Bool) → (t ≡ true → ⊥) → t ≡ false
        not_true true f = absurd (f refl)
        not_true false f = refl

not_below_zero : (n : ℕ) → nat_lt n 0 ≡ false
not_below_zero n = by_test (nat_lt n 0) refl
  where
    by_test : (t : Bool) → nat_lt n 0 ≡ t → t ≡ false
    by_test true e = let l : n < 0 = (Decides-ltb n 0).0 e in absurd (omega arith)
    by_test false e = refl

zero_below : (n : ℕ) → nat_lt 0 (suc n) ≡ true
zero_below n = (Decides-ltb 0 (suc n)).1 (omega arith)

-- nothing comes before the first place
first_place : (c : ℕ) (f : Option Found) → earlier (Some (record { place = 0; reason = c })) f ≡ Some (record { place = 0; reason = c })
unfolding earlier
first_place c None = refl
first_place c (Some f) = rw (not_below_zero f.place) refl

-- one list more, in front of the others, and one point more in front of the others
one_more : (s r : Bool) (place reason others : Option ℕ) (rest : Option Found)
    → earlier (if s then at_place (cond r (Some 0) (option_map (λ n. suc n) place)) reason else None) (in_front others (shift rest))
    ≡ in_front (or_reason (if s && r then reason else None) others) (shift (earlier (if s then at_place place reason else None) rest))
unfolding earlier
one_more false r place reason others rest = refl
one_more true true None None others rest = refl
one_more true true (Some k) None others rest = refl
one_more true true place (Some c) others rest = first_place c (in_front others (shift rest))
one_more true false None reason others rest = refl
one_more true false (Some k) None others rest = refl
one_more true false (Some k) (Some c) (Some d) rest = rw (zero_below k) refl
one_more true false (Some k) (Some c) None rest = sym (shift-earlier (Some (record { place = k; reason = c })) rest)

pub best-step : (q : StatusQuestion) (p : Point) (ps : List Point) (ls : List CertificateList) → best q (p ∷ ps) ls ≡ in_front (own_revs q p ls) (shift (best q ps ls))
unfolding found_by
best-step q p ps [] = refl
best-step q p ps (l ∷ ls) =
    let s = serves q l in
    let r = is_reached (scope_of l) p in
    let place = position_from (is_reached (scope_of l)) 0 ps in
    ap (λ f. earlier f (best q (p ∷ ps) ls)) (ap (λ (n : Option ℕ). if s then at_place (cond r (Some 0) n) (revoking (listed q l)) else None) (position-suc (is_reached (scope_of l)) 0 ps))
    ∙ ap (earlier (if s then at_place (cond r (Some 0) (option_map (λ n. suc n) place)) (revoking (listed q l)) else None)) (best-step q p ps ls)
    ∙ one_more s r place (revoking (listed q l)) (own_revs q p ls) (best q ps ls)

no_place : (s : Bool) (reason : Option ℕ) → (if s then at_place None reason else None) ≡ None
no_place true reason = refl
no_place false reason = refl

best-none : (q : StatusQuestion) (ls : List CertificateList) → best q [] ls ≡ None
unfolding found_by earlier
best-none q [] = refl
best-none q (l ∷ ls) = ap (λ f. earlier f (best q [] ls)) (no_place (serves q l) (revoking (listed q l))) ∙ best-none q ls

pub best-reason : (q : StatusQuestion) (ps : List Point) (ls : List CertificateList) → option_map (λ (f : Found). f.reason) (best q ps ls) ≡ point_revs q ls ps
best-reason q [] ls = ap (option_map (λ (f : Found). f.reason)) (best-none q ls)
best-reason q (p ∷ ps) ls =
    ap (option_map (λ (f : Found). f.reason)) (best-step q p ps ls) ∙ reason-front (own_revs q p ls) (best q ps ls) ∙ ap (or_reason (own_revs q p ls)) (best-reason q ps ls)
  where
    reason-front : (r : Option ℕ) (f : Option Found) → option_map (λ (g : Found). g.reason) (in_front r (shift f)) ≡ or_reason r (option_map (λ (g : Found). g.reason) f)
    reason-front (Some c) f = refl
    reason-front None None = refl
    reason-front None (Some f) = refl

-- from the first list on it is the same
earlier-none : (a : Option Found) → earlier a None ≡ a
unfolding earlier
earlier-none None = refl
earlier-none (Some a) = refl

lesser : (f g : Found) → Found
lesser f g = if nat_lt g.place f.place then g else f

earlier-assoc : (a b c : Option Found) → earlier (earlier a b) c ≡ earlier a (earlier b c)
unfolding earlier
earlier-assoc None b c = refl
earlier-assoc (Some a) None c = refl
earlier-assoc (Some a) (Some b) None = earlier-none (if nat_lt b.place a.place then Some b else Some a)
earlier-assoc (Some a) (Some b) (Some c) = by_tests (nat_lt b.place a.place) (nat_lt c.place b.place) refl refl
  where
    not_true : (t : Bool) → (t ≡ true → ⊥) → t ≡ false
    not_true true f = absurd (f refl)
    not_true false f = refl

    by_tests : (t u : Bool) → nat_lt b.place a.place ≡ t → nat_lt c.place b.place ≡ u
        → earlier (if t then Some b else Some a) (Some c) ≡ earlier (Some a) (if u then Some c else Some b)
    by_tests true true e f =
        let h : nat_lt c.place a.place ≡ true =
        (Decides-ltb c.place a.place).1
        (let l : b.place < a.place = (Decides-ltb b.place a.place).0 e in
        let m : c.place < b.place = (Decides-ltb c.place b.place).0 f in omega arith) in
        rw (f, h) refl
    by_tests true false e f = rw (f, e) refl
    by_tests false true e f = refl
    by_tests false false e f =
        let h : nat_lt c.place a.place ≡ false =
        not_true _ (λ t.
        let l : c.place < a.place = (Decides-ltb c.place a.place).0 t in
        let n : b.place < a.place → ⊥ = λ k. true≢false (sym ((Decides-ltb b.place a.place).1 k) ∙ e) in
        let m : c.place < b.place → ⊥ = λ k. true≢false (sym ((Decides-ltb c.place b.place).1 k) ∙ f) in
        omega (arith, l, n, m)) in
        rw (e, h) refl

pub found_after-is : (q : StatusQuestion) (ps : List Point) (acc : Option Found) (ls : List CertificateList) → found_after q ps acc ls ≡ earlier acc (best q ps ls)
found_after-is q ps acc [] = sym (earlier-none acc)
found_after-is q ps acc (l ∷ ls) = found_after-is q ps (earlier acc (found_by q ps l)) ls ∙ earlier-assoc acc (found_by q ps l) (best q ps ls)

pub pass_one_found : (q : StatusQuestion) (ps : List Point) → option_map (λ (f : Found). f.reason) (found_after q ps None q.lists) ≡ first_revoking (own_pairs q ps)
unfolding earlier
pass_one_found q ps =
    ap (option_map (λ (f : Found). f.reason)) (found_after-is q ps None q.lists) ∙ best-reason q ps q.lists ∙ sym (first-own q ps)

-- ---- pass 1: the union

abbrev pub spread : StatusQuestion → List Point → List CertificateList → ReasonSet
spread q ps [] = no_reasons
spread q ps (l ∷ ls) = union (reasons_by q ps l) (spread q ps ls)

interchange : (a b c d : ReasonSet) → union (union a b) (union c d) ≡ union (union a c) (union b d)
interchange a b c d =
    union-assoc a b (union c d)
    ∙ ap (union a) (sym (union-assoc b c d) ∙ ap (λ s. union s d) (union-comm b c) ∙ union-assoc c b d)
    ∙ sym (union-assoc a c (union b d))

spread-step : (q : StatusQuestion) (p : Point) (ps : List Point) (ls : List CertificateList) → spread q (p ∷ ps) ls ≡ union (own_sets q p ls) (spread q ps ls)
unfolding reasons_by
spread-step q p ps [] = sym (none-union no_reasons)
spread-step q p ps (l ∷ ls) =
    ap (λ s. union s (spread q (p ∷ ps) ls)) (split (serves q l) (reached_mask (scope_of l) p) (reached_reasons (scope_of l) ps))
    ∙ ap (union (union (own_set q p l) (reasons_by q ps l))) (spread-step q p ps ls)
    ∙ interchange (own_set q p l) (reasons_by q ps l) (own_sets q p ls) (spread q ps ls)
  where
    split : (s : Bool) (m n : ReasonSet) → (if s then union m n else no_reasons) ≡ union (if s then m else no_reasons) (if s then n else no_reasons)
    split true m n = refl
    split false m n = sym (none-union no_reasons)

spread-none : (q : StatusQuestion) (ls : List CertificateList) → spread q [] ls ≡ no_reasons
unfolding reasons_by
spread-none q [] = refl
spread-none q (l ∷ ls) = ap (λ s. union s (spread q [] ls)) (same (serves q l)) ∙ none-union (spread q [] ls) ∙ spread-none q ls
  where
    same : (s : Bool) → (if s then no_reasons else no_reasons) ≡ no_reasons
    same true = refl
    same false = refl

spread-is : (q : StatusQuestion) (ps : List Point) (ls : List CertificateList) → spread q ps ls ≡ point_sets q ls ps
spread-is q [] ls = spread-none q ls
spread-is q (p ∷ ps) ls = spread-step q p ps ls ∙ ap (union (own_sets q p ls)) (spread-is q ps ls)

reasons_after-is : (q : StatusQuestion) (ps : List Point) (acc : ReasonSet) (ls : List CertificateList) → reasons_after q ps acc ls ≡ union acc (spread q ps ls)
reasons_after-is q ps acc [] = sym (union-none acc)
reasons_after-is q ps acc (l ∷ ls) = reasons_after-is q ps (union acc (reasons_by q ps l)) ls ∙ union-assoc acc (reasons_by q ps l) (spread q ps ls)

pub pass_one_union : (q : StatusQuestion) (ps : List Point) → reasons_after q ps no_reasons q.lists ≡ union_of (own_pairs q ps)
pass_one_union q ps = reasons_after-is q ps no_reasons q.lists ∙ none-union (spread q ps q.lists) ∙ spread-is q ps q.lists ∙ sym (union-own q ps)

-- ---- both passes

pub whole : (q : StatusQuestion) → by_list q ≡ status_of q
whole q =
    let points = all_points q.certificate in
    let p = issuer_point q.certificate in
    let firsts = own_pairs q points in
    let reasons = reasons_after q points no_reasons q.lists in
    let after : ReasonSet → Status = λ s. status_after q p s s q.lists in
    let covered = union_of firsts in
    ap (λ (r : Option ℕ). decided r reasons (after reasons)) (pass_one_found q points)
    ∙ ap (λ (s : ReasonSet). decided (first_revoking firsts) s (after s)) (pass_one_union q points)
    ∙ ap (λ (s : Status). decided (first_revoking firsts) covered s) (pass_two q p covered)
    ∙ ap (λ (s : ReasonSet). decided (first_revoking firsts) s (of_pass covered (adding covered (pairs_at q p)) Undetermined)) (sym (none-union covered))
