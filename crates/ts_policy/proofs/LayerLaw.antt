-- The walks through the layers are the paths.
use Rattle.std.proofs.Common.{◌≡◌, ◌≢◌, ◌↔◌, ℕ, Bool, true, false, not, ◌&&◌, ◌||◌, cond, nat_lt, List, [], ◌∷◌, ◌++◌, map, filter, refl, sym, ap, ◌∙◌, subst, inl, inr, ◌⊎◌, MatchBool}
use Rattle.ts_policy.specs.Labels.{Label, Path, any_policy, same, In, has, anys}
use Rattle.ts_policy.specs.Paths.{CertPolicies, policies_stated, is_mapped, targets, end_of, expected_after, any_counts, MayFollow, Taken, Added, Mapped, MapsNoAny}
use Rattle.ts_policy.specs.Accepted.{IsFirstLabel, IsFirstOf}
use Rattle.ts_policy.specs.inside.Layers.{Layer, has_label, IsWalk, IsEnd, Leads, Grounded, fills}
use Rattle.ts_policy.specs.inside.Layers.{is_asked, wanted, unwanted, next_layer, new_links}
use Rattle.ts_policy.specs.inside.Layers.{mapped_layer, expectations_by, HoldPaths, AreExpectations}
use Rattle.ts_policy.specs.inside.Layers.{tops, above_alive, firsts, depth}
use Rattle.ts_policy.proofs.Same.{same-eq, eq-from_same, same-ne}
use Rattle.ts_policy.proofs.Lists.{In-append_left, In-append_right, In-append_cases, In-map}
use Rattle.ts_policy.proofs.Lists.{In-from_map, In-filter, In-from_filter, passes, passer, In-has}
use Rattle.ts_policy.proofs.Lists.{In-from_has, both, decide, clash, if_true, if_false, along}
use Rattle.ts_policy.proofs.Lists.{moved}
use Rattle.ts_policy.proofs.TreeLaw.{expected-mapped, expected-other, is_mapped-from, is_mapped-to, anys-end}

or_true : (a b : Bool) → b ≡ true → (a || b) ≡ true
or_true true b h = refl
or_true false b h = h

label_from : (l : Layer) (p : Label) → has_label l p ≡ true → (q : Label) × In (p, q) l
label_from l p h =
    let r = passer (λ x. same x.0 p) l h in
    let P : Label → Type 0 = λ a. In (a, r.0.1) l in
    (r.0.1, subst P (eq-from_same r.0.0 p r.2) r.1)

label_to : (l : Layer) (p q : Label) → In (p, q) l → has_label l p ≡ true
label_to l p q h = passes (λ x. same x.0 p) (p, q) l h (same-eq p p refl)

-- each label of the last layer ends a walk, and each walk ends in one
pub reach : (ls : List Layer) → Grounded ls → (q : Label) → IsEnd ls q → (w : List Label) × IsWalk ls w × (end_of w ≡ q)
reach [] g q h = ([], refl, sym h)
reach (l ∷ ls) g q h =
    let x = label_from l q h in
    let r = reach ls g.1 x.0 (g.0 q x.0 x.1).0 in
    let P : Label → Type 0 = λ e. In (q, e) l in
    (q ∷ r.0, (subst P (sym r.2) x.1, r.1), refl)

pub ends : (ls : List Layer) (w : List Label) → IsWalk ls w → IsEnd ls (end_of w)
ends [] w h = ap end_of h
ends (l ∷ ls) [] h = absurd h
ends (l ∷ ls) (p ∷ w) h = label_to l p (end_of w) h.0

walk_any : (ls : List Layer) → Grounded ls → (w : List Label) → IsWalk ls w → end_of w ≡ any_policy → w ≡ anys (depth ls)
walk_any [] g w h e = h
walk_any (l ∷ ls) g [] h e = absurd h
walk_any (l ∷ ls) g (p ∷ w) h e =
    ap (λ q. q ∷ w) e ∙ ap (λ v. any_policy ∷ v) (walk_any ls g.1 w h.1 ((g.0 p (end_of w) h.0).1 e))

module _ (c : CertPolicies) (expects : Label → List Label) (S : Path → Type 0) (ls : List Layer) (pairs : Layer) (ps : List Label)
    (same_stated : (p : Label) → has ps p ≡ has (policies_stated c) p)
    (holds : HoldPaths S ls) (are : AreExpectations expects ls pairs) (any_from : (q : Label) → In any_policy (expects q) → q ≡ any_policy) (any_to : In any_policy (expects any_policy)) where
  abbrev on : Bool
  on = fills c

  abbrev new : Layer
  new = next_layer pairs ps on

  abbrev unasked : Label → Bool
  unasked p = not (same p any_policy) && not (has_label pairs p)

  is_stated : (p : Label) → has ps p ≡ true → In p (policies_stated c)
  is_stated p h = In-from_has p (policies_stated c) (sym (same_stated p) ∙ h)

  stated_is : (p : Label) → In p (policies_stated c) → has ps p ≡ true
  stated_is p i = same_stated p ∙ In-has p (policies_stated c) i

  -- why there is a link
  abbrev Link : Label → Label → Type 0
  Link p q = (In (p, q) pairs × (is_asked on ps (p, q) ≡ true)) ⊎ ((has_label pairs any_policy ≡ true) × In p ps × (unasked p ≡ true) × (q ≡ any_policy))

  abbrev beside : Label → Label × Label
  beside p = (p, any_policy)

  link-from : (p q : Label) → In (p, q) new → Link p q
  link-from p q h =
      elim (In-append_cases (p, q) (wanted pairs ps on) (unwanted pairs ps) h) [
        | inl a ↦ inl (In-from_filter (λ x. is_asked on ps x) (p, q) pairs a)
        | inr b ↦ elim (decide (has_label pairs any_policy)) [
          | inr f ↦ absurd (along (p, q) _ [] (if_false (has_label pairs any_policy) _ _ f) b)
          | inl t ↦
              let r = In-from_map (λ p. beside p) (p, q) (filter (λ p. unasked p) ps) (along (p, q) _ _ (if_true (has_label pairs any_policy) _ _ t) b) in
              let s = In-from_filter (λ p. unasked p) r.0 ps r.1 in
              let e : r.0 ≡ p = ap (λ x. x.0) r.2 in
              inr (t, moved r.0 p _ e s.0, ap (λ x. unasked x) (sym e) ∙ s.1, ap (λ x. x.1) (sym r.2))
        ]
      ]

  link-to : (p q : Label) → Link p q → In (p, q) new
  link-to p q (inl a) =
      In-append_left (p, q) (wanted pairs ps on) _ (In-filter (λ x. is_asked on ps x) (p, q) pairs a.0 a.1)
  link-to p q (inr b) =
      let i = In-map (λ p. beside p) p _ (In-filter (λ p. unasked p) p ps b.1 b.2) in
      let j = along _ _ _ (sym (if_true (has_label pairs any_policy) _ [] b.0)) i in
      let P : Label → Type 0 = λ q. In (p, q) new in
      subst P (sym b.3) (In-append_right _ (wanted pairs ps on) _ j)

  any_wanted : IsEnd ls any_policy → has_label pairs any_policy ≡ true
  any_wanted h = label_to pairs any_policy any_policy ((are any_policy any_policy).1 (h, any_to))

  wanted_any : has_label pairs any_policy ≡ true → IsEnd ls any_policy
  wanted_any h =
      let x = label_from pairs any_policy h in
      let r = (are any_policy x.0).0 x.1 in
      let P : Label → Type 0 = λ q. IsEnd ls q in
      subst P (any_from x.0 r.1) r.0

  no_want : (p : Label) → has_label pairs p ≡ true → (v : Path) × S v × In p (expects (end_of v))
  no_want p h =
      let r = label_from pairs p h in
      let a = (are p r.0).0 r.1 in
      let w = reach ls holds.grounded r.0 a.0 in
      let P : Label → Type 0 = λ q. In p (expects q) in
      (w.0, (holds.walks w.0).0 w.1, subst P (sym w.2) a.1)

  follow-from : (w : Path) (p : Label) → S w → Link p (end_of w) → MayFollow c expects S w p
  follow-from w p s (inl a) =
      let e = (are p (end_of w)).0 a.0 in
      elim (decide on) [
        | inl t ↦ let r = both (has (policies_stated c) any_policy) (any_counts c) t in inr (inr (In-from_has any_policy _ r.0, r.1, e.1))
        | inr f ↦
            let r = both (not (same p any_policy)) (has ps p) (ap (λ b. b || (not (same p any_policy) && has ps p)) (sym f) ∙ a.1) in
            inl (is_stated p r.1, (λ e. clash (not (same p any_policy)) r.0 (ap not (same-eq p any_policy e))), e.1)
      ]
  follow-from w p s (inr b) =
      let r = both (not (same p any_policy)) (not (has_label pairs p)) b.2 in
      inr (inl (
        is_stated p (In-has p ps b.1),
        (λ e. clash (not (same p any_policy)) r.0 (ap not (same-eq p any_policy e))),
        b.3,
        λ v t i.
            let q = (are p (end_of v)).1 (ends ls v ((holds.walks v).1 t), i) in
            clash (not (has_label pairs p)) r.1 (ap not (label_to pairs p (end_of v) q)),
      ))

  link_of : (w : Path) (p : Label) → S w → MayFollow c expects S w p → Link p (end_of w)
  link_of w p s (inl a) =
      let i = (are p (end_of w)).1 (ends ls w ((holds.walks w).1 s), a.2) in
      let t : is_asked on ps (p, end_of w) ≡ true = or_true on _ (ap (λ b. not b && has ps p) (same-ne p any_policy a.1) ∙ stated_is p a.0) in
      inl (i, t)
  link_of w p s (inr (inl b)) =
      let P : Label → Type 0 = λ q. IsEnd ls q in
      let top : IsEnd ls any_policy = subst P b.2 (ends ls w ((holds.walks w).1 s)) in
      let none : has_label pairs p ≡ false =
      elim (decide (has_label pairs p)) [ inr f ↦ f | inl t ↦ (let r = no_want p t in absurd (b.3 r.0 r.1 r.2)) ] in
      inr (any_wanted top, In-from_has p ps (stated_is p b.0), ap (λ x. not x && not (has_label pairs p)) (same-ne p any_policy b.1) ∙ ap not none, b.2)
  link_of w p s (inr (inr d)) =
      let i = (are p (end_of w)).1 (ends ls w ((holds.walks w).1 s), d.2) in
      let t : on ≡ true = ap (λ b. b && any_counts c) (In-has any_policy (policies_stated c) d.0) ∙ d.1 in
      inl (i, ap (λ b. b || (not (same p any_policy) && has ps p)) t)

  new_walks : (w : Path) → IsWalk (new ∷ ls) w ↔ Taken c expects S w
  new_walks [] = (λ h. h, λ h. h)
  new_walks (p ∷ w) = (
    λ h. let s = (holds.walks w).0 h.1 in (s, follow-from w p s (link-from p (end_of w) h.0)),
    λ h. (link-to p (end_of w) (link_of w p h.0 h.1), (holds.walks w).1 h.0),
  )

  new_leads : Leads new ls
  new_leads p q h =
      elim (link-from p q h) [
        | inl a ↦ let r = (are p q).0 a.0 in (r.0, λ e. any_from q (moved p any_policy _ e r.1))
        | inr b ↦
            let P : Label → Type 0 = λ q. IsEnd ls q in
            (subst P (sym b.3) (wanted_any b.0), λ e. b.3)
      ]

  pub next_holds : HoldPaths (Taken c expects S) (new ∷ ls)
  next_holds = record { walks = new_walks; grounded = (new_leads, holds.grounded) }

-- the mapping step

module _ (c : CertPolicies) (fine : MapsNoAny c) (k : ℕ) (T : List Label → Type 0) (l : Layer) (ls : List Layer) (long : depth ls ≡ k) (holds : HoldPaths T (l ∷ ls)) where
  abbrev N : Layer
  N = new_links l c.mappings

  up_any : (w : List Label) → IsWalk ls w → end_of w ≡ any_policy → w ≡ anys k
  up_any w h e = walk_any ls holds.grounded.1 w h e ∙ ap anys long

  -- a label of the layer ends a path of T
  path_of : (p : Label) → has_label l p ≡ true → (v : List Label) × T v × (end_of v ≡ p)
  path_of p h = let r = reach (l ∷ ls) holds.grounded p h in (r.0, (holds.walks r.0).0 r.1, r.2)

  label_of : (v : List Label) → T v → has_label l (end_of v) ≡ true
  label_of v t = ends (l ∷ ls) v ((holds.walks v).1 t)

  new-from : (p q : Label) → In (p, q) N → (has_label l any_policy ≡ true) × (is_mapped c p ≡ true) × (has_label l p ≡ false) × (q ≡ any_policy)
  new-from p q h =
      elim (decide (has_label l any_policy)) [
        | inr f ↦ absurd (along (p, q) _ [] (if_false (has_label l any_policy) _ _ f) h)
        | inl t ↦
            let r = In-from_map (λ m. let y : Label × Label = (m.0, any_policy) in y) (p, q)
            (filter (λ m. not (has_label l m.0)) c.mappings)
            (along (p, q) _ _ (if_true (has_label l any_policy) _ _ t) h) in
            let s = In-from_filter (λ m. not (has_label l m.0)) r.0 c.mappings r.1 in
            let e : r.0.0 ≡ p = ap (λ x. x.0) r.2 in
            let absent : has_label l p ≡ false = elim (decide (has_label l p)) [ inr f ↦ f | inl y ↦ absurd (clash (not (has_label l r.0.0)) s.1 (ap (λ x. not (has_label l x)) e ∙ ap not y)) ] in
            (t, ap (is_mapped c) (sym e) ∙ is_mapped-to c r.0 s.0, absent, ap (λ x. x.1) (sym r.2))
      ]

  new-to : (p : Label) → has_label l any_policy ≡ true → is_mapped c p ≡ true → has_label l p ≡ false → In (p, any_policy) N
  new-to p t m f =
      let r = is_mapped-from c p m in
      let i = In-map (λ m. let y : Label × Label = (m.0, any_policy) in y) r.0 _ (In-filter (λ m. not (has_label l m.0)) r.0 c.mappings r.1 (ap (λ x. not (has_label l x)) r.2 ∙ ap not f)) in
      let P : Label → Type 0 = λ p. In (p, any_policy) N in
      subst P r.2 (along _ _ _ (sym (if_true (has_label l any_policy) _ [] t)) i)

  abbrev Grown : List Label → Type 0
  Grown w = T w ⊎ Added c k T w

  grown_walks : (w : List Label) → IsWalk ((l ++ N) ∷ ls) w ↔ Grown w
  grown_walks [] = (λ h. absurd h, λ h. elim h [ inl t ↦ (holds.walks []).1 t | inr a ↦ a ])
  grown_walks (p ∷ w) = (
    λ h. elim (In-append_cases (p, end_of w) l N h.0) [
      | inl a ↦ inl ((holds.walks (p ∷ w)).0 (a, h.1))
      | inr b ↦
          let r = new-from p (end_of w) b in
          let x = label_from l any_policy r.0 in
          let P : Label → Type 0 = λ q. In (any_policy, q) l in
          let top : In (any_policy, end_of w) l = subst P ((holds.grounded.0 any_policy x.0 x.1).1 refl ∙ sym r.3) x.1 in
          inr (up_any w h.1 r.3, r.1, (holds.walks (any_policy ∷ w)).0 (top, h.1), λ v t e. clash (has_label l p) (ap (has_label l) (sym e) ∙ label_of v t) r.2)
    ],
    λ h. elim h [
      | inl t ↦ let r = (holds.walks (p ∷ w)).1 t in (In-append_left (p, end_of w) l N r.0, r.1)
      | inr a ↦
          let top = (holds.walks (any_policy ∷ w)).1 a.2 in
          let e : end_of w ≡ any_policy = (holds.grounded.0 any_policy (end_of w) top.0).1 refl in
          let absent : has_label l p ≡ false = elim (decide (has_label l p)) [ inr f ↦ f | inl y ↦ (let r = path_of p y in absurd (a.3 r.0 r.1 r.2)) ] in
          let i = new-to p (label_to l any_policy (end_of w) top.0) a.1 absent in
          let P : Label → Type 0 = λ q. In (p, q) (l ++ N) in
          (subst P (sym e) (In-append_right (p, any_policy) l N i), top.1)
    ],
  )

  grown_leads : Leads (l ++ N) ls
  grown_leads p q h =
      elim (In-append_cases (p, q) l N h) [
        | inl a ↦ holds.grounded.0 p q a
        | inr b ↦
            let r = new-from p q b in
            let x = label_from l any_policy r.0 in
            let up = holds.grounded.0 any_policy x.0 x.1 in
            let P : Label → Type 0 = λ q. IsEnd ls q in
            (subst P (up.1 refl ∙ sym r.3) up.0, λ e. r.3)
      ]

  abbrev Left : List Label → Type 0
  Left w = T w × (is_mapped c (end_of w) ≡ false)

  abbrev kept : Layer
  kept = filter (λ x. not (is_mapped c x.0)) l

  left_walks : (w : List Label) → IsWalk (kept ∷ ls) w ↔ Left w
  left_walks [] = (λ h. absurd h, λ h. (holds.walks []).1 h.0)
  left_walks (p ∷ w) = (
    λ h.
        let r = In-from_filter (λ x. not (is_mapped c x.0)) (p, end_of w) l h.0 in
        ((holds.walks (p ∷ w)).0 (r.0, h.1), elim (decide (is_mapped c p)) [ inr f ↦ f | inl t ↦ absurd (clash (not (is_mapped c p)) r.1 (ap not t)) ]),
    λ h. let r = (holds.walks (p ∷ w)).1 h.0 in (In-filter (λ x. not (is_mapped c x.0)) (p, end_of w) l r.0 (ap not h.1), r.1),
  )

  pub mapped_holds : HoldPaths (Mapped c k T) (mapped_layer c l ∷ ls)
  mapped_holds =
      elim (nat_lt 0 c.policy_mapping) as (λ b. HoldPaths (λ w. MatchBool b (Grown w) (Left w)) (cond b (l ++ N) kept ∷ ls)) [
        | true ↦ record { walks = grown_walks; grounded = (grown_leads, holds.grounded.1) }
        | false ↦ record { walks = left_walks; grounded = (λ p q h. holds.grounded.0 p q (In-from_filter (λ x. not (is_mapped c x.0)) (p, q) l h).0, holds.grounded.1) }
      ]

-- what the labels of the latest layer expect
pub expectations_are : (c : CertPolicies) → MapsNoAny c → (l : Layer) (ls : List Layer) (es froms : List Label) → ((p : Label) → has es p ≡ has_label l p) → ((p : Label) → has froms p ≡ is_mapped c p)
    → AreExpectations (expected_after c) (l ∷ ls) (expectations_by es c.mappings froms)
expectations_are c fine l ls es froms h m p q =
    let turn : Label × Label → Label × Label = λ x. (x.1, x.0) in
    let twice : Label → Label × Label = λ x. (x, x) in
    let mapped : Layer = map turn (filter (λ x. has es x.0) c.mappings) in
    let others : Layer = map twice (filter (λ x. not (has froms x)) es) in (
      (λ i. elim (In-append_cases (p, q) mapped others i) [
        | inl a ↦
            let r = In-from_map turn (p, q) (filter (λ x. has es x.0) c.mappings) a in
            let s = In-from_filter (λ x. has es x.0) r.0 c.mappings r.1 in
            let e0 : r.0.0 ≡ q = ap (λ x. x.1) r.2 in
            let e1 : r.0.1 ≡ p = ap (λ x. x.0) r.2 in
            let t : is_mapped c q ≡ true = ap (is_mapped c) (sym e0) ∙ is_mapped-to c r.0 s.0 in
            let i : In r.0.1 (targets c q) = In-map (λ x. x.1) r.0 (filter (λ x. same x.0 q) c.mappings) (In-filter (λ x. same x.0 q) r.0 c.mappings s.0 (same-eq r.0.0 q e0)) in
            (sym (h q) ∙ ap (has es) (sym e0) ∙ s.1, along p _ _ (sym (expected-mapped c fine q t)) (moved r.0.1 p (targets c q) e1 i))
        | inr b ↦
            let r = In-from_map twice (p, q) (filter (λ x. not (has froms x)) es) b in
            let s = In-from_filter (λ x. not (has froms x)) r.0 es r.1 in
            let e0 : r.0 ≡ q = ap (λ x. x.1) r.2 in
            let e1 : r.0 ≡ p = ap (λ x. x.0) r.2 in
            let f : is_mapped c q ≡ false = elim (decide (is_mapped c q)) [ inr f ↦ f | inl t ↦ absurd (clash (not (has froms r.0)) s.1 (ap not (ap (has froms) e0 ∙ m q ∙ t))) ] in
            (sym (h q) ∙ In-has q es (moved r.0 q es e0 s.0), along p _ _ (sym (expected-other c fine q f)) (inl (sym e0 ∙ e1)))
      ]),
      (λ i.
          let there : has es q ≡ true = h q ∙ i.0 in
          elim (decide (is_mapped c q)) [
            | inl t ↦
                let a = along p _ _ (expected-mapped c fine q t) i.1 in
                let r = In-from_map (λ x. x.1) p (filter (λ x. same x.0 q) c.mappings) a in
                let s = In-from_filter (λ x. same x.0 q) r.0 c.mappings r.1 in
                let e : r.0.0 ≡ q = eq-from_same r.0.0 q s.1 in
                let k = In-map turn r.0 (filter (λ x. has es x.0) c.mappings) (In-filter (λ x. has es x.0) r.0 c.mappings s.0 (ap (has es) e ∙ there)) in
                let pair : Label → Label → Label × Label = λ x y. (x, y) in
                In-append_left (p, q) mapped others (moved (turn r.0) (p, q) mapped (ap (pair r.0.1) e ∙ ap (λ x. pair x q) r.2) k)
            | inr f ↦ elim (along p _ _ (expected-other c fine q f) i.1) [
              | inl e ↦
                  let k = In-map twice q (filter (λ x. not (has froms x)) es) (In-filter (λ x. not (has froms x)) q es (In-from_has q es there) (ap not (m q ∙ f))) in
                  let pair : Label → Label → Label × Label = λ x y. (x, y) in
                  In-append_right (p, q) mapped others (moved (twice q) (p, q) others (ap (λ x. pair x q) e) k)
              | inr n ↦ absurd n
            ]
          ]),
    )

-- the first labels

abbrev HasFirst : List Layer → List Label → Label → Type 0
HasFirst ls alive p = (w : List Label) × IsWalk ls w × In (end_of w) alive × IsFirstLabel p w

abbrev tests_top : List Label → Label × Label → Bool
tests_top alive x = has alive x.0 && ((same x.1 any_policy) && not (same x.0 any_policy))

firsts_sound : (ls : List Layer) → Grounded ls → (alive : List Label) (p : Label) → In p (firsts ls alive) → HasFirst ls alive p
firsts_sound [] g alive p h = absurd h
firsts_sound (l ∷ ls) g alive p h =
    elim (In-append_cases p (tops l alive) (firsts ls (above_alive l alive)) h) [
      | inl a ↦
          let r = In-from_map (λ x. x.0) p (filter (λ x. tests_top alive x) l) a in
          let s = In-from_filter (λ x. tests_top alive x) r.0 l r.1 in
          let t = both (has alive r.0.0) _ s.1 in
          let u = both (same r.0.1 any_policy) (not (same r.0.0 any_policy)) t.1 in
          let top : r.0.1 ≡ any_policy = eq-from_same r.0.1 any_policy u.0 in
          let w = reach ls g.1 r.0.1 (g.0 r.0.0 r.0.1 s.0).0 in
          let P : Label → Type 0 = λ q. In (r.0.0, q) l in
          let Q : Label → Type 0 = λ p. HasFirst (l ∷ ls) alive p in
          subst Q r.2 (
            r.0.0 ∷ w.0,
            (subst P (sym w.2) s.0, w.1),
            In-from_has r.0.0 alive t.0,
            (
              (λ e. clash (not (same r.0.0 any_policy)) u.1 (ap not (same-eq r.0.0 any_policy e))),
              ([], depth ls, ap (λ v. r.0.0 ∷ v) (walk_any ls g.1 w.0 w.1 (w.2 ∙ top))),
            ),
          )
      | inr b ↦
          let r = firsts_sound ls g.1 (above_alive l alive) p b in
          let x = In-from_map (λ x. x.1) (end_of r.0) (filter (λ x. has alive x.0) l) r.2 in
          let y = In-from_filter (λ x. has alive x.0) x.0 l x.1 in
          let P : Label → Type 0 = λ q. In (x.0.0, q) l in
          (x.0.0 ∷ r.0, (subst P x.2 y.0, r.1), In-from_has x.0.0 alive y.1, (r.3.0, (x.0.0 ∷ r.3.1.0, r.3.1.1, ap (λ v. x.0.0 ∷ v) r.3.1.2)))
    ]

nil_cons : (p : Label) (w : List Label) → [] ≡ p ∷ w → ⊥
nil_cons p w e = cc

abbrev below : List Label → List Label
below [] = []
below (p ∷ w) = w

firsts_complete : (ls : List Layer) (alive : List Label) (p : Label) (k : ℕ) (v w : List Label) → p ≢ any_policy → IsWalk ls w → In (end_of w) alive → w ≡ v ++ (p ∷ anys k) → In p (firsts ls alive)
firsts_complete [] alive p k [] w apart h i e = absurd (nil_cons p (anys k) (sym h ∙ e))
firsts_complete [] alive p k (q ∷ v) w apart h i e = absurd (nil_cons q (v ++ (p ∷ anys k)) (sym h ∙ e))
firsts_complete (l ∷ ls) alive p k v [] apart h i e = absurd h
firsts_complete (l ∷ ls) alive p k [] (q ∷ w) apart h i e =
    let eq : q ≡ p = ap end_of e in
    let rest : end_of w ≡ any_policy = ap (λ x. end_of (below x)) e ∙ anys-end k in
    let t : tests_top alive (q, end_of w) ≡ true =
    ap (λ b. b && ((same (end_of w) any_policy) && not (same q any_policy))) (In-has q alive i)
    ∙ ap (λ b. b && not (same q any_policy)) (same-eq (end_of w) any_policy rest)
    ∙ ap not (same-ne q any_policy (λ z. apart (sym eq ∙ z))) in
    In-append_left p (tops l alive) _ (moved q p (tops l alive) eq (In-map (λ x. x.0) (q, end_of w) _ (In-filter (λ x. tests_top alive x) (q, end_of w) l h.0 t)))
firsts_complete (l ∷ ls) alive p k (r ∷ v) (q ∷ w) apart h i e =
    let j = In-map (λ x. x.1) (q, end_of w) _ (In-filter (λ x. has alive x.0) (q, end_of w) l h.0 (In-has q alive i)) in
    In-append_right p (tops l alive) _ (firsts_complete ls (above_alive l alive) p k v w apart h.1 j (ap below e))

-- what the layers say of the accepted policies
pub firsts_are : (T : List Label → Type 0) (l : Layer) (ls : List Layer) → HoldPaths T (l ∷ ls)
    → (alive : List Label) → ((p : Label) → has alive p ≡ has_label l p) → (p : Label)
    → In p (firsts (l ∷ ls) alive) ↔ IsFirstOf T p
firsts_are T l ls holds alive h p = (
  λ i. let r = firsts_sound (l ∷ ls) holds.grounded alive p i in (r.0, (holds.walks r.0).0 r.1, r.3),
  λ i.
      let w = (holds.walks i.0).1 i.1 in
      firsts_complete (l ∷ ls) alive p i.2.1.1 i.2.1.0 i.0 i.2.0 w (In-from_has (end_of i.0) alive (h (end_of i.0) ∙ ends (l ∷ ls) i.0 w)) i.2.1.2,
)

pub free_is : (T : List Label → Type 0) (l : Layer) (ls : List Layer) → HoldPaths T (l ∷ ls) → (has_label l any_policy ≡ true) ↔ T (anys (depth (l ∷ ls)))
free_is T l ls holds = (
  λ h.
      let r = reach (l ∷ ls) holds.grounded any_policy h in
      let P : List Label → Type 0 = T in
      subst P (walk_any (l ∷ ls) holds.grounded r.0 r.1 r.2) ((holds.walks r.0).0 r.1),
  λ t. ends (l ∷ ls) (anys (depth (l ∷ ls))) ((holds.walks _).1 t),
)
