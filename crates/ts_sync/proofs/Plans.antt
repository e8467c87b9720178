-- What is held after a plan.
use Rattle.std.proofs.Common.{◌≡◌, ◌∙◌, ◌↔◌, ◌++◌, ◌∷◌, ◌||◌, ◌&&◌, ℕ, zero, suc, Bool, true, false, not, List, [], map, take, refl, sym, ap}
use Rattle.std.specs.List.{list_any}
use Rattle.std.specs.Str.{bytes_eq}
use Rattle.ts_sync.specs.declared.planning.StepKind.{StepKind}
use Rattle.ts_sync.specs.declared.planning.StepKind.TheVariants.{Add, Load, Drop, Withdraw}
use Rattle.ts_sync.specs.declared.planning.PlanStep.{PlanStep}
use Rattle.ts_sync.specs.Plan.{AreSame, KeptIds, absent, after, has, plan, step, taken_by}
use Rattle.ts_sync.proofs.Ids.{has_absent, has_append, has_without, none_absent}

-- ---- steps of one kind

after_both : (k : KeptIds) (ss ts : List PlanStep) → after k (ss ++ ts) ≡ after (after k ss) ts
after_both k [] ts = refl
after_both k (s ∷ ss) ts = after_both (taken_by s.kind s.id k) ss ts

or_or : (a b c : Bool) → ((a || (b || false)) || c) ≡ (a || (b || c))
or_or true b c = refl
or_or false true c = refl
or_or false false c = refl

and_and : (a b c : Bool) → ((a && not b) && not c) ≡ (a && not (b || c))
and_and true true c = refl
and_and true false c = refl
and_and false b c = refl

or_none : (a : Bool) → a ≡ (a || false)
or_none true = refl
or_none false = refl

and_all : (a : Bool) → a ≡ (a && not false)
and_all true = refl
and_all false = refl

adds : (k : KeptIds) (ids : List (List ℕ)) (id : List ℕ) → has (after k (map (step Add) ids)).anchors id ≡ (has k.anchors id || has ids id)
adds k [] id = or_none (has k.anchors id)
adds k (x ∷ ids) id =
    adds (taken_by Add x k) ids id
    ∙ ap (λ b. b || has ids id) (has_append k.anchors (x ∷ []) id)
    ∙ or_or (has k.anchors id) (bytes_eq id x) (has ids id)

loads : (k : KeptIds) (ids : List (List ℕ)) (id : List ℕ) → has (after k (map (step Load) ids)).crls id ≡ (has k.crls id || has ids id)
loads k [] id = or_none (has k.crls id)
loads k (x ∷ ids) id =
    loads (taken_by Load x k) ids id
    ∙ ap (λ b. b || has ids id) (has_append k.crls (x ∷ []) id)
    ∙ or_or (has k.crls id) (bytes_eq id x) (has ids id)

drops : (k : KeptIds) (ids : List (List ℕ)) (id : List ℕ) → has (after k (map (step Drop) ids)).crls id ≡ (has k.crls id && not (has ids id))
drops k [] id = and_all (has k.crls id)
drops k (x ∷ ids) id =
    drops (taken_by Drop x k) ids id
    ∙ ap (λ b. b && not (has ids id)) (has_without x k.crls id)
    ∙ and_and (has k.crls id) (bytes_eq id x) (has ids id)

withdraws : (k : KeptIds) (ids : List (List ℕ)) (id : List ℕ) → has (after k (map (step Withdraw) ids)).anchors id ≡ (has k.anchors id && not (has ids id))
withdraws k [] id = and_all (has k.anchors id)
withdraws k (x ∷ ids) id =
    withdraws (taken_by Withdraw x k) ids id
    ∙ ap (λ b. b && not (has ids id)) (has_without x k.anchors id)
    ∙ and_and (has k.anchors id) (bytes_eq id x) (has ids id)

add_crls : (k : KeptIds) (ids : List (List ℕ)) → (after k (map (step Add) ids)).crls ≡ k.crls
add_crls k [] = refl
add_crls k (x ∷ ids) = add_crls (taken_by Add x k) ids

load_anchors : (k : KeptIds) (ids : List (List ℕ)) → (after k (map (step Load) ids)).anchors ≡ k.anchors
load_anchors k [] = refl
load_anchors k (x ∷ ids) = load_anchors (taken_by Load x k) ids

drop_anchors : (k : KeptIds) (ids : List (List ℕ)) → (after k (map (step Drop) ids)).anchors ≡ k.anchors
drop_anchors k [] = refl
drop_anchors k (x ∷ ids) = drop_anchors (taken_by Drop x k) ids

withdraw_crls : (k : KeptIds) (ids : List (List ℕ)) → (after k (map (step Withdraw) ids)).crls ≡ k.crls
withdraw_crls k [] = refl
withdraw_crls k (x ∷ ids) = withdraw_crls (taken_by Withdraw x k) ids

-- ---- all of a plan

-- what was held or is new, and not what is left over
reached : (held wanted : Bool) → ((held || (wanted && not held)) && not (held && not wanted)) ≡ wanted
reached true true = refl
reached true false = refl
reached false true = refl
reached false false = refl

module _ (held wanted : KeptIds) where
  abbrev added : List (List ℕ)
  added = absent held.anchors wanted.anchors

  abbrev loaded : List (List ℕ)
  loaded = absent held.crls wanted.crls

  abbrev dropped : List (List ℕ)
  dropped = absent wanted.crls held.crls

  abbrev withdrawn : List (List ℕ)
  withdrawn = absent wanted.anchors held.anchors

  abbrev first : KeptIds
  first = after held (map (step Add) added)

  abbrev second : KeptIds
  second = after first (map (step Load) loaded)

  abbrev third : KeptIds
  third = after second (map (step Drop) dropped)

  abbrev last : KeptIds
  last = after third (map (step Withdraw) withdrawn)

  all_steps : after held (plan held wanted) ≡ last
  all_steps =
      after_both held (map (step Add) added) (map (step Load) loaded ++ (map (step Drop) dropped ++ map (step Withdraw) withdrawn))
      ∙ after_both first (map (step Load) loaded) (map (step Drop) dropped ++ map (step Withdraw) withdrawn)
      ∙ after_both second (map (step Drop) dropped) (map (step Withdraw) withdrawn)

  pub reach_anchors : AreSame (after held (plan held wanted)).anchors wanted.anchors
  reach_anchors id =
      ap (λ (k : KeptIds). has k.anchors id) all_steps
      ∙ withdraws third withdrawn id
      ∙ ap (λ (l : List (List ℕ)). has l id && not (has withdrawn id)) (drop_anchors second dropped ∙ load_anchors first loaded)
      ∙ ap (λ b. b && not (has withdrawn id)) (adds held added id)
      ∙ ap (λ b. (has held.anchors id || b) && not (has withdrawn id)) (has_absent wanted.anchors held.anchors id)
      ∙ ap (λ b. (has held.anchors id || (has wanted.anchors id && not (has held.anchors id))) && not b) (has_absent held.anchors wanted.anchors id)
      ∙ reached (has held.anchors id) (has wanted.anchors id)

  pub reach_crls : AreSame (after held (plan held wanted)).crls wanted.crls
  reach_crls id =
      ap (λ (k : KeptIds). has k.crls id) all_steps
      ∙ ap (λ (l : List (List ℕ)). has l id) (withdraw_crls third withdrawn)
      ∙ drops second dropped id
      ∙ ap (λ b. b && not (has dropped id)) (loads first loaded id)
      ∙ ap (λ (l : List (List ℕ)). (has l id || has loaded id) && not (has dropped id)) (add_crls held added)
      ∙ ap (λ b. (has held.crls id || b) && not (has dropped id)) (has_absent wanted.crls held.crls id)
      ∙ ap (λ b. (has held.crls id || (has wanted.crls id && not (has held.crls id))) && not b) (has_absent held.crls wanted.crls id)
      ∙ reached (has held.crls id) (has wanted.crls id)

-- ---- the beginning of a plan

-- a step takes an id away from the anchors, or from the CRLs
abbrev withdrawn_by : List ℕ → StepKind → List ℕ → Bool
withdrawn_by id Withdraw other = bytes_eq id other
withdrawn_by id kind other = false

abbrev dropped_by : List ℕ → StepKind → List ℕ → Bool
dropped_by id Drop other = bytes_eq id other
dropped_by id kind other = false

abbrev withdraws_it : List ℕ → PlanStep → Bool
withdraws_it id s = withdrawn_by id s.kind s.id

abbrev drops_it : List ℕ → PlanStep → Bool
drops_it id s = dropped_by id s.kind s.id

or_left : (a b : Bool) → (a || b) ≡ false → a ≡ false
or_left true b is = is
or_left false b is = refl

or_right : (a b : Bool) → (a || b) ≡ false → b ≡ false
or_right true b is = absurd (cc)
or_right false b is = is

none_taken : (f : PlanStep → Bool) (n : ℕ) (ss : List PlanStep) → list_any f ss ≡ false → list_any f (take n ss) ≡ false
none_taken f zero ss none = refl
none_taken f (suc n) [] none = refl
none_taken f (suc n) (s ∷ ss) none = ap (λ b. b || list_any f (take n ss)) (or_left (f s) (list_any f ss) none) ∙ none_taken f n ss (or_right (f s) (list_any f ss) none)

-- what no step takes away stays
stays_after_one : (kind : StepKind) (other : List ℕ) (k : KeptIds) (id : List ℕ) → has k.anchors id ≡ true → withdrawn_by id kind other ≡ false → has (taken_by kind other k).anchors id ≡ true
stays_after_one Add other k id held none = has_append k.anchors (other ∷ []) id ∙ ap (λ b. b || (bytes_eq id other || false)) held
stays_after_one Load other k id held none = held
stays_after_one Drop other k id held none = held
stays_after_one Withdraw other k id held none = has_without other k.anchors id ∙ (λ i. held i && not (none i))

crl_after_one : (kind : StepKind) (other : List ℕ) (k : KeptIds) (id : List ℕ) → has k.crls id ≡ true → dropped_by id kind other ≡ false → has (taken_by kind other k).crls id ≡ true
crl_after_one Add other k id held none = held
crl_after_one Load other k id held none = has_append k.crls (other ∷ []) id ∙ ap (λ b. b || (bytes_eq id other || false)) held
crl_after_one Drop other k id held none = has_without other k.crls id ∙ (λ i. held i && not (none i))
crl_after_one Withdraw other k id held none = held

anchor_stays : (ss : List PlanStep) (k : KeptIds) (id : List ℕ) → has k.anchors id ≡ true → list_any (withdraws_it id) ss ≡ false → has (after k ss).anchors id ≡ true
anchor_stays [] k id held none = held
anchor_stays (s ∷ ss) k id held none =
    anchor_stays ss (taken_by s.kind s.id k) id
    (stays_after_one s.kind s.id k id held
    (or_left (withdraws_it id s) (list_any (withdraws_it id) ss) none))
    (or_right (withdraws_it id s) (list_any (withdraws_it id) ss) none)

crl_stays : (ss : List PlanStep) (k : KeptIds) (id : List ℕ) → has k.crls id ≡ true → list_any (drops_it id) ss ≡ false → has (after k ss).crls id ≡ true
crl_stays [] k id held none = held
crl_stays (s ∷ ss) k id held none =
    crl_stays ss (taken_by s.kind s.id k) id
    (crl_after_one s.kind s.id k id held (or_left (drops_it id s) (list_any (drops_it id) ss) none))
    (or_right (drops_it id s) (list_any (drops_it id) ss) none)

any_both : (f : PlanStep → Bool) (ss ts : List PlanStep) → list_any f ss ≡ false → list_any f ts ≡ false → list_any f (ss ++ ts) ≡ false
any_both f [] ts none others = others
any_both f (s ∷ ss) ts none others = ap (λ b. b || list_any f (ss ++ ts)) (or_left (f s) (list_any f ss) none) ∙ any_both f ss ts (or_right (f s) (list_any f ss) none) others

-- steps of a kind that never meets a test, and of one that meets it by the id
never : (f : PlanStep → Bool) (kind : StepKind) → ((id : List ℕ) → f (step kind id) ≡ false) → (ids : List (List ℕ)) → list_any f (map (step kind) ids) ≡ false
never f kind none [] = refl
never f kind none (x ∷ ids) = ap (λ b. b || list_any f (map (step kind) ids)) (none x) ∙ never f kind none ids

by_id : (f : PlanStep → Bool) (kind : StepKind) (id : List ℕ) → ((other : List ℕ) → f (step kind other) ≡ bytes_eq id other) → (ids : List (List ℕ)) → list_any f (map (step kind) ids) ≡ has ids id
by_id f kind id is [] = refl
by_id f kind id is (x ∷ ids) = (λ i. is x i || by_id f kind id is ids i)

-- an id that is wanted is not left over
not_left : (ids others : List (List ℕ)) (id : List ℕ) → has others id ≡ true → has (absent others ids) id ≡ false
not_left ids others id wanted = has_absent ids others id ∙ ap (λ b. has ids id && not b) wanted ∙ and_false (has ids id)
  where
    and_false : (a : Bool) → (a && false) ≡ false
    and_false true = refl
    and_false false = refl

pub keep_anchors : (held wanted : KeptIds) (n : ℕ) (id : List ℕ) → has held.anchors id ≡ true → has wanted.anchors id ≡ true → has (after held (take n (plan held wanted))).anchors id ≡ true
keep_anchors held wanted n id is wants =
    let f = withdraws_it id in
    let last = by_id f Withdraw id (λ other. refl) (absent wanted.anchors held.anchors) ∙ not_left held.anchors wanted.anchors id wants in
    let third = any_both f (map (step Drop) (absent wanted.crls held.crls))
    (map (step Withdraw) (absent wanted.anchors held.anchors))
    (never f Drop (λ other. refl) (absent wanted.crls held.crls)) last in
    let second = any_both f (map (step Load) (absent held.crls wanted.crls))
    (map (step Drop) (absent wanted.crls held.crls)
    ++ map (step Withdraw) (absent wanted.anchors held.anchors))
    (never f Load (λ other. refl) (absent held.crls wanted.crls)) third in
    let first = any_both f (map (step Add) (absent held.anchors wanted.anchors))
    (map (step Load) (absent held.crls wanted.crls)
    ++ (map (step Drop) (absent wanted.crls held.crls)
    ++ map (step Withdraw) (absent wanted.anchors held.anchors)))
    (never f Add (λ other. refl) (absent held.anchors wanted.anchors)) second in
    anchor_stays (take n (plan held wanted)) held id is (none_taken f n (plan held wanted) first)

pub keep_crls : (held wanted : KeptIds) (n : ℕ) (id : List ℕ) → has held.crls id ≡ true → has wanted.crls id ≡ true → has (after held (take n (plan held wanted))).crls id ≡ true
keep_crls held wanted n id is wants =
    let f = drops_it id in
    let last = never f Withdraw (λ other. refl) (absent wanted.anchors held.anchors) in
    let dropped = by_id f Drop id (λ other. refl) (absent wanted.crls held.crls) ∙ not_left held.crls wanted.crls id wants in
    let third = any_both f (map (step Drop) (absent wanted.crls held.crls)) (map (step Withdraw) (absent wanted.anchors held.anchors)) dropped last in
    let second = any_both f (map (step Load) (absent held.crls wanted.crls))
    (map (step Drop) (absent wanted.crls held.crls)
    ++ map (step Withdraw) (absent wanted.anchors held.anchors))
    (never f Load (λ other. refl) (absent held.crls wanted.crls)) third in
    let first = any_both f (map (step Add) (absent held.anchors wanted.anchors))
    (map (step Load) (absent held.crls wanted.crls)
    ++ (map (step Drop) (absent wanted.crls held.crls)
    ++ map (step Withdraw) (absent wanted.anchors held.anchors)))
    (never f Add (λ other. refl) (absent held.anchors wanted.anchors)) second in
    crl_stays (take n (plan held wanted)) held id is (none_taken f n (plan held wanted) first)

-- ---- a plan without steps

both_none : {A : Type 0} (xs ys : List A) → xs ++ ys ≡ [] → (xs ≡ []) × (ys ≡ [])
both_none [] ys is = (refl, is)
both_none (x ∷ xs) ys is = absurd (cc)

none_mapped : (kind : StepKind) (ids : List (List ℕ)) → map (step kind) ids ≡ [] → ids ≡ []
none_mapped kind [] is = refl
none_mapped kind (x ∷ ids) is = absurd (cc)

-- neither has what the other hasn't
as_many : (a b : Bool) → (b && not a) ≡ false → (a && not b) ≡ false → a ≡ b
as_many true true x y = refl
as_many true false x y = absurd (cc)
as_many false true x y = absurd (cc)
as_many false false x y = refl

same_ids : (ids others : List (List ℕ)) → absent ids others ≡ [] → absent others ids ≡ [] → AreSame ids others
same_ids ids others none nothing id =
    as_many (has ids id) (has others id)
    (sym (has_absent others ids id) ∙ ap (λ (l : List (List ℕ)). has l id) none)
    (sym (has_absent ids others id) ∙ ap (λ (l : List (List ℕ)). has l id) nothing)

pub rest : (held wanted : KeptIds) → (plan held wanted ≡ []) ↔ (AreSame held.anchors wanted.anchors × AreSame held.crls wanted.crls)
rest held wanted = (
  λ none.
      let a = both_none (map (step Add) (absent held.anchors wanted.anchors))
      (map (step Load) (absent held.crls wanted.crls)
      ++ (map (step Drop) (absent wanted.crls held.crls)
      ++ map (step Withdraw) (absent wanted.anchors held.anchors))) none in
      let l = both_none (map (step Load) (absent held.crls wanted.crls)) (map (step Drop) (absent wanted.crls held.crls) ++ map (step Withdraw) (absent wanted.anchors held.anchors)) a.1 in
      let d = both_none (map (step Drop) (absent wanted.crls held.crls)) (map (step Withdraw) (absent wanted.anchors held.anchors)) l.1 in (
        same_ids held.anchors wanted.anchors (none_mapped Add (absent held.anchors wanted.anchors) a.0) (none_mapped Withdraw (absent wanted.anchors held.anchors) d.1),
        same_ids held.crls wanted.crls (none_mapped Load (absent held.crls wanted.crls) l.0) (none_mapped Drop (absent wanted.crls held.crls) d.0),
      ),
  λ same i.
      map (step Add) (none_absent wanted.anchors held.anchors (λ id is. same.0 id ∙ is) i)
      ++ (map (step Load) (none_absent wanted.crls held.crls (λ id is. same.1 id ∙ is) i)
      ++ (map (step Drop) (none_absent held.crls wanted.crls (λ id is. sym (same.1 id) ∙ is) i)
      ++ map (step Withdraw) (none_absent held.anchors wanted.anchors (λ id is. sym (same.0 id) ∙ is) i))),
)
