-- The nodes of the tree at the depth of the last certificate are the paths.
use Rattle.std.proofs.Common.{◌≡◌, ◌≢◌, ◌<◌, ◌≤◌, ◌↔◌, ℕ, zero, suc, Bool, true, false, not, ◌&&◌}
use Rattle.std.proofs.Common.{◌||◌, cond, nat_lt, List, [], ◌∷◌, ◌++◌, map, filter, flat_map, refl}
use Rattle.std.proofs.Common.{sym, ap, ◌∙◌, subst, inl, inr, ◌⊎◌, IsTrue, true≢false, None, Some}
use Rattle.std.proofs.Common.{lt_irrefl, le_refl, le_of_lt, arith, MatchBool, append_assoc, ◌+◌}
use Rattle.std.proofs.Common.{◌-◌, ltb-true, ltb-false}
use Rattle.std.specs.List.{list_any}
use Rattle.ts_policy.specs.Labels.{Label, any_policy, same, In, has, anys}
use Rattle.ts_policy.specs.Paths.{CertPolicies, policies_stated, is_mapped, targets, end_of}
use Rattle.ts_policy.specs.Paths.{expected_after, expected, any_counts, MayFollow, Taken, Added}
use Rattle.ts_policy.specs.Paths.{Mapped, count, InS, InT, MapsNoAny, NoneMapsAny}
use Rattle.ts_policy.specs.Tree.{Node, label, root, child, is_long, nodes_at, same_name}
use Rattle.ts_policy.specs.Tree.{is_child_of, placed, missing, pruned, placed_all, filled, grown}
use Rattle.ts_policy.specs.Tree.{taken, retargeted, added, mapped, tree_S, tree_T, names_at}
use Rattle.ts_policy.proofs.Same.{same-eq, eq-from_same, same-ne, ne-from_same}
use Rattle.ts_policy.proofs.Lists.{In-append_left, In-append_right, In-append_cases, In-map}
use Rattle.ts_policy.proofs.Lists.{In-from_map, In-filter, In-from_filter, In-flat_map}
use Rattle.ts_policy.proofs.Lists.{In-from_flat_map, passes, passer, In-has, In-from_has, both}
use Rattle.ts_policy.proofs.Lists.{decide, clash, if_true, if_false, along, moved}

-- names

same_name-eq : (w v : List Label) → same_name w v ≡ true → w ≡ v
same_name-eq [] [] h = refl
same_name-eq [] (q ∷ v) h = absurd (true≢false (sym h))
same_name-eq (p ∷ w) [] h = absurd (true≢false (sym h))
same_name-eq (p ∷ w) (q ∷ v) h =
    let r = both (same p q) (same_name w v) h in
    ap (λ x. x ∷ w) (eq-from_same p q r.0) ∙ ap (λ x. q ∷ x) (same_name-eq w v r.1)

same_name-refl : (w : List Label) → same_name w w ≡ true
same_name-refl [] = refl
same_name-refl (p ∷ w) = ap (λ b. b && same_name w w) (same-eq p p refl) ∙ same_name-refl w

one_length : (d e : ℕ) (w : List Label) → is_long d w ≡ true → is_long e w ≡ true → d ≡ e
one_length zero zero w h k = refl
one_length zero (suc e) [] h k = absurd (true≢false (sym k))
one_length zero (suc e) (p ∷ w) h k = absurd (true≢false (sym h))
one_length (suc d) zero [] h k = absurd (true≢false (sym h))
one_length (suc d) zero (p ∷ w) h k = absurd (true≢false (sym k))
one_length (suc d) (suc e) [] h k = absurd (true≢false (sym h))
one_length (suc d) (suc e) (p ∷ w) h k = ap suc (one_length d e w h k)

shorter : (d e : ℕ) (w : List Label) → d < e → is_long e w ≡ true → is_long d w ≡ false
shorter d e w lt h =
    elim (decide (is_long d w)) [ inl t ↦ absurd (let q = one_length d e w t h in let P : ℕ → Type 0 = λ x. x < e in lt_irrefl e (subst P q lt)) | inr f ↦ f ]

anys-long : (k : ℕ) → is_long k (anys k) ≡ true
anys-long zero = refl
anys-long (suc k) = anys-long k

pub anys-end : (k : ℕ) → end_of (anys k) ≡ any_policy
anys-end zero = refl
anys-end (suc k) = refl

long_at : (k : ℕ) (v w : List Label) → v ≡ w → is_long k v ≡ true → is_long k w ≡ true
long_at k v w e h = ap (is_long k) (sym e) ∙ h

-- pruning

pruned-from : (d : ℕ) (tree : List Node) (n : Node) → In n (pruned d tree) → In n tree
pruned-from zero tree n h = h
pruned-from (suc d) tree n h =
    (In-from_filter (λ n. not (is_long d n.name) || list_any (λ m. is_child_of n.name m.name) tree) n tree (pruned-from d _ n h)).0

survives : (d e : ℕ) (tree : List Node) (n : Node) → d ≤ e → is_long e n.name ≡ true → In n tree → In n (pruned d tree)
survives zero e tree n le h i = i
survives (suc d) e tree n le h i =
    let lt : d < e = omega arith in
    let stays : (not (is_long d n.name) || list_any (λ m. is_child_of n.name m.name) tree) ≡ true = ap (λ b. not b || list_any (λ m. is_child_of n.name m.name) tree) (shorter d e n.name lt h) in
    survives d e _ n (le_of_lt lt) h (In-filter (λ n. not (is_long d n.name) || list_any (λ m. is_child_of n.name m.name) tree) n tree i stays)

or_right : (a b : Bool) → b ≡ true → (a || b) ≡ true
or_right true b h = refl
or_right false b h = h

-- a node with a child stays
parent_survives : (k : ℕ) (p : Label) (tree : List Node) (n m : Node) → In n tree → n.name ≡ p ∷ m.name → is_long k m.name ≡ true → In m tree → In m (pruned (suc k) tree)
parent_survives k p tree n m i e h j =
    let is_child : is_child_of m.name n.name ≡ true = ap (is_child_of m.name) e ∙ same_name-refl m.name in
    let stays : (not (is_long k m.name) || list_any (λ x. is_child_of m.name x.name) tree) ≡ true = or_right (not (is_long k m.name)) _ (passes (λ x. is_child_of m.name x.name) n tree i is_child) in
    survives k k _ m (le_refl k) h (In-filter (λ n. not (is_long k n.name) || list_any (λ x. is_child_of n.name x.name) tree) m tree j stays)

-- S, of paths of k labels that expect so, and a tree whose nodes at depth k are these paths
pub record Stands (k : ℕ) (S : List Label → Type 0) (expects : Label → List Label) (tree : List Node) : Type 0 where
  pub sound : (n : Node) → In n tree → is_long k n.name ≡ true → S n.name × (n.expected ≡ expects (label n))
  pub complete : (w : List Label) → S w → (n : Node) × In n tree × (n.name ≡ w)
  pub long : (w : List Label) → S w → is_long k w ≡ true
  pub within : (n : Node) → In n tree → (d : ℕ) → is_long d n.name ≡ true → d ≤ k
  -- only anyPolicy expects anyPolicy, and what ends in it has nothing else
  pub any_from : (q : Label) → In any_policy (expects q) → q ≡ any_policy
  pub only_any : (w : List Label) → S w → end_of w ≡ any_policy → w ≡ anys k

-- one level up
pub record Upper (k : ℕ) (tree : List Node) : Type 0 where
  pub parent : (n : Node) → In n tree → is_long (suc k) n.name ≡ true → (p : Label) × (m : Node) × In m tree × (is_long k m.name ≡ true) × (n.name ≡ p ∷ m.name)
  pub only_any : (n : Node) → In n tree → is_long k n.name ≡ true → label n ≡ any_policy → n.name ≡ anys k

-- why the node m of the layer above has a child p
abbrev Why : CertPolicies → List Node → Node → Label → Type 0
Why c above m p =
    (In p (policies_stated c) × (p ≢ any_policy) × In p m.expected)
    ⊎ ((In p (policies_stated c) × (p ≢ any_policy) × (label m ≡ any_policy) × (list_any (λ n. has n.expected p) above ≡ false))
    ⊎ (In any_policy (policies_stated c) × IsTrue (any_counts c) × In p m.expected))

abbrev GrownFrom : CertPolicies → List Node → Node → Type 0
GrownFrom c above n = (p : Label) × (m : Node) × In m above × (child p m ≡ n) × Why c above m p

placed-from : (c : CertPolicies) (above : List Node) (n : Node) (p : Label) → In p (policies_stated c) → In n (placed above p) → GrownFrom c above n
placed-from c above n p st h =
    elim (decide (same p any_policy)) [
      | inl t ↦ absurd (along n _ [] (if_true (same p any_policy) _ _ t) h)
      | inr f ↦
          let h1 = along n _ _ (if_false (same p any_policy) _ _ f) h in
          let apart : p ≢ any_policy = ne-from_same p any_policy f in
          elim (decide (list_any (λ n. has n.expected p) above)) [
            | inl t ↦
                let r = In-from_map (child p) n (filter (λ n. has n.expected p) above) (along n _ _ (if_true (list_any (λ n. has n.expected p) above) _ _ t) h1) in
                let q = In-from_filter (λ n. has n.expected p) r.0 above r.1 in
                (p, r.0, q.0, r.2, inl (st, apart, In-from_has p r.0.expected q.1))
            | inr f ↦
                let r = In-from_map (child p) n (filter (λ n. same (label n) any_policy) above) (along n _ _ (if_false (list_any (λ n. has n.expected p) above) _ _ f) h1) in
                let q = In-from_filter (λ n. same (label n) any_policy) r.0 above r.1 in
                (p, r.0, q.0, r.2, inr (inl (st, apart, eq-from_same _ _ q.1, f)))
          ]
    ]

grown-from : (c : CertPolicies) (above : List Node) (n : Node) → In n (grown c above) → GrownFrom c above n
grown-from c above n h =
    elim (In-append_cases n (placed_all c above) (filled c above (placed_all c above)) h) [
      | inl a ↦ let r = In-from_flat_map (placed above) n (policies_stated c) a in placed-from c above n r.0 r.1 r.2
      | inr b ↦ elim (decide (has (policies_stated c) any_policy && any_counts c)) [
        | inl t ↦
            let tests = both (has (policies_stated c) any_policy) (any_counts c) t in
            let children = placed_all c above in
            let r = In-from_flat_map (missing children) n above (along n _ _ (if_true (has (policies_stated c) any_policy && any_counts c) _ _ t) b) in
            let q = In-from_map (λ p. child p r.0) n _ r.2 in
            let s = In-from_filter (λ p. not (list_any (λ m. same_name (p ∷ r.0.name) m.name) children)) q.0 r.0.expected q.1 in
            (q.0, r.0, r.1, q.2, inr (inr (In-from_has any_policy (policies_stated c) tests.0, tests.1, s.0)))
        | inr f ↦ absurd (along n _ [] (if_false (has (policies_stated c) any_policy && any_counts c) _ _ f) b)
      ]
    ]

-- a child that there is reason for is there, by name
grown-to : (c : CertPolicies) (above : List Node) (m : Node) (p : Label) → In m above → Why c above m p → (n : Node) × In n (grown c above) × (n.name ≡ p ∷ m.name)
grown-to c above m p i (inl a) =
    let e1 = if_false (same p any_policy) [] _ (same-ne p any_policy a.1) in
    let e2 = if_true (list_any (λ n. has n.expected p) above)
    (map (child p) (filter (λ n. has n.expected p) above))
    (map (child p) (filter (λ n. same (label n) any_policy) above))
    (passes (λ n. has n.expected p) m above i (In-has p m.expected a.2)) in
    let x = In-map (child p) m _ (In-filter (λ n. has n.expected p) m above i (In-has p m.expected a.2)) in
    (child p m, In-append_left _ (placed_all c above) _ (In-flat_map (placed above) p _ (policies_stated c) a.0 (along _ _ _ (sym (e1 ∙ e2)) x)), refl)
grown-to c above m p i (inr (inl b)) =
    let e1 = if_false (same p any_policy) [] _ (same-ne p any_policy b.1) in
    let e2 = if_false (list_any (λ n. has n.expected p) above) (map (child p) (filter (λ n. has n.expected p) above)) (map (child p) (filter (λ n. same (label n) any_policy) above)) b.3 in
    let x = In-map (child p) m _ (In-filter (λ n. same (label n) any_policy) m above i (same-eq _ _ b.2)) in
    (child p m, In-append_left _ (placed_all c above) _ (In-flat_map (placed above) p _ (policies_stated c) b.0 (along _ _ _ (sym (e1 ∙ e2)) x)), refl)
grown-to c above m p i (inr (inr d)) =
    let children = placed_all c above in
    elim (decide (list_any (λ x. same_name (p ∷ m.name) x.name) children)) [
      | inl t ↦
          let r = passer (λ x. same_name (p ∷ m.name) x.name) children t in
          (r.0, In-append_left _ children _ r.1, sym (same_name-eq (p ∷ m.name) r.0.name r.2))
      | inr f ↦
          let x = In-map (λ p. child p m) p _ (In-filter (λ p. not (list_any (λ x. same_name (p ∷ m.name) x.name) children)) p m.expected d.2 (ap not f)) in
          let on : (has (policies_stated c) any_policy && any_counts c) ≡ true = ap (λ b. b && any_counts c) (In-has any_policy (policies_stated c) d.0) ∙ d.1 in
          let y = In-flat_map (missing children) m _ above i x in
          (child p m, In-append_right _ children _ (along _ _ _ (sym (if_true (has (policies_stated c) any_policy && any_counts c) _ _ on)) y), refl)
    ]

-- 6.1.3 (d)

taken_cases : (c : CertPolicies) (k : ℕ) (tree : List Node) →
    ((taken c k tree ≡ []) × (policies_stated c ≡ [])) ⊎ (taken c k tree ≡ pruned (suc k) (tree ++ grown c (nodes_at k tree)))
taken_cases c k tree =
    elim c.policies as (λ o.
    ((elim o as (λ _. List Node) [ None ↦ [] | Some ps ↦ pruned (suc k) (tree ++ grown c (nodes_at k tree)) ] ≡ []) × (elim o as (λ _. List Label) [ None ↦ [] | Some ps ↦ ps ] ≡ []))
    ⊎ (elim o as (λ _. List Node) [ None ↦ [] | Some ps ↦ pruned (suc k) (tree ++ grown c (nodes_at k tree)) ] ≡ pruned (suc k) (tree ++ grown c (nodes_at k tree))))
    [ None ↦ inl (refl, refl) | Some ps ↦ inr refl ]

module _ (c : CertPolicies) (k : ℕ) (S : List Label → Type 0) (expects : Label → List Label) (tree : List Node) (stands : Stands k S expects tree) where
  abbrev above : List Node
  above = nodes_at k tree

  in_above : (n : Node) → In n above → In n tree × (is_long k n.name ≡ true)
  in_above n h = In-from_filter (λ n. is_long k n.name) n tree h

  -- the reason in the tree is one on paths, and back
  follows-from : (m : Node) (p : Label) → In m above → Why c above m p → MayFollow c expects S m.name p
  follows-from m p i (inl a) = let q = in_above m i in inl (a.0, a.1, along p _ _ (stands.sound m q.0 q.1).1 a.2)
  follows-from m p i (inr (inl b)) =
      inr (inl (
        b.0,
        b.1,
        b.2,
        λ v s e.
            let n = stands.complete v s in
            let at : is_long k n.0.name ≡ true = long_at k v n.0.name (sym n.2) (stands.long v s) in
            let wants : In p n.0.expected = along p _ _ (ap (λ x. expects (end_of x)) (sym n.2) ∙ sym (stands.sound n.0 n.1 at).1) e in
            clash _ (passes (λ n. has n.expected p) n.0 above (In-filter (λ n. is_long k n.name) n.0 tree n.1 at) (In-has p n.0.expected wants)) b.3,
      ))
  follows-from m p i (inr (inr d)) = let q = in_above m i in inr (inr (d.0, d.1, along p _ _ (stands.sound m q.0 q.1).1 d.2))

  why-from : (m : Node) (p : Label) → In m above → MayFollow c expects S m.name p → Why c above m p
  why-from m p i (inl a) = let q = in_above m i in inl (a.0, a.1, along p _ _ (sym (stands.sound m q.0 q.1).1) a.2)
  why-from m p i (inr (inl b)) =
      elim (decide (list_any (λ n. has n.expected p) above)) [
        | inr f ↦ inr (inl (b.0, b.1, b.2, f))
        | inl t ↦
            let r = passer (λ n. has n.expected p) above t in
            let q = in_above r.0 r.1 in
            let s = stands.sound r.0 q.0 q.1 in
            absurd (b.3 r.0.name s.0 (along p _ _ s.1 (In-from_has p r.0.expected r.2)))
      ]
  why-from m p i (inr (inr d)) = let q = in_above m i in inr (inr (d.0, d.1, along p _ _ (sym (stands.sound m q.0 q.1).1) d.2))

  abbrev Tk : List Label → Type 0
  Tk = Taken c expects S

  -- the nodes before pruning
  abbrev full : List Node
  full = tree ++ grown c above

  -- one at depth k + 1 is new
  new_node : (n : Node) → In n full → is_long (suc k) n.name ≡ true → GrownFrom c above n
  new_node n h l =
      elim (In-append_cases n tree (grown c above) h) [
        | inl a ↦ absurd (let le = stands.within n a (suc k) l in omega arith)
        | inr b ↦ grown-from c above n b
      ]

  old_node : (n : Node) → In n full → is_long k n.name ≡ true → In n tree
  old_node n h l =
      elim (In-append_cases n tree (grown c above) h) [
        | inl a ↦ a
        | inr b ↦
            let g = grown-from c above n b in
            let deep : is_long (suc k) n.name ≡ true = ap (λ x. is_long (suc k) x.name) (sym g.3) ∙ (in_above g.1 g.2).1 in
            absurd (let e = one_length k (suc k) n.name l deep in omega arith)
      ]

  full_within : (n : Node) → In n full → (d : ℕ) → is_long d n.name ≡ true → d ≤ suc k
  full_within n h d l =
      elim (In-append_cases n tree (grown c above) h) [
        | inl a ↦ let le = stands.within n a d l in omega arith
        | inr b ↦
            let g = grown-from c above n b in
            let deep : is_long (suc k) n.name ≡ true = ap (λ x. is_long (suc k) x.name) (sym g.3) ∙ (in_above g.1 g.2).1 in
            let e = one_length d (suc k) n.name l deep in omega arith
      ]

  full_sound : (n : Node) → In n full → is_long (suc k) n.name ≡ true → Tk n.name × (n.expected ≡ label n ∷ [])
  full_sound n h l =
      let g = new_node n h l in
      let q = in_above g.1 g.2 in
      let P : Node → Type 0 = λ x. Tk x.name × (x.expected ≡ label x ∷ []) in
      subst P g.3 (((stands.sound g.1 q.0 q.1).0, follows-from g.1 g.0 g.2 g.4), refl)

  full_complete : (w : List Label) → Tk w → (n : Node) × In n full × (n.name ≡ w)
  full_complete [] h = absurd h
  full_complete (p ∷ w) h =
      let m = stands.complete w h.0 in
      let at : is_long k m.0.name ≡ true = long_at k w m.0.name (sym m.2) (stands.long w h.0) in
      let i : In m.0 above = In-filter (λ n. is_long k n.name) m.0 tree m.1 at in
      let M : List Label → Type 0 = λ v. MayFollow c expects S v p in
      let g = grown-to c above m.0 p i (why-from m.0 p i (subst M (sym m.2) h.1)) in
      (g.0, In-append_right g.0 tree (grown c above) g.1, g.2 ∙ ap (λ v. p ∷ v) m.2)

  taken_long : (w : List Label) → Tk w → is_long (suc k) w ≡ true
  taken_long [] h = absurd h
  taken_long (p ∷ w) h = stands.long w h.0

  taken_only_any : (w : List Label) → Tk w → end_of w ≡ any_policy → w ≡ anys (suc k)
  taken_only_any [] h e = absurd h
  taken_only_any (p ∷ w) h e =
      let rest : In p (expects (end_of w)) → p ∷ w ≡ anys (suc k) = λ i.
      ap (λ q. q ∷ w) e ∙ ap (λ v. any_policy ∷ v) (stands.only_any w h.0 (stands.any_from (end_of w) (moved p any_policy _ e i))) in
      elim h.1 [
        | inl a ↦ rest a.2
        | inr x ↦ elim x [ inl b ↦ absurd (b.1 e) | inr d ↦ rest d.2 ]
      ]

  full_stands : Stands (suc k) Tk (λ p. p ∷ []) (pruned (suc k) full)
  full_stands = record {
    sound = λ n h l. full_sound n (pruned-from (suc k) full n h) l;
    complete = λ w h. let r = full_complete w h in
        (r.0, survives (suc k) (suc k) full r.0 (le_refl (suc k)) (long_at (suc k) w r.0.name (sym r.2) (taken_long w h)) r.1, r.2);
    long = taken_long;
    within = λ n h d l. full_within n (pruned-from (suc k) full n h) d l;
    any_from = λ q h. elim h [ inl e ↦ e | inr n ↦ absurd n ];
    only_any = taken_only_any;
  }

  full_upper : Upper k (pruned (suc k) full)
  full_upper = record {
    parent = λ n h l.
        let i = pruned-from (suc k) full n h in
        let g = new_node n i l in
        let q = in_above g.1 g.2 in
        let e : n.name ≡ g.0 ∷ g.1.name = ap (λ x. x.name) (sym g.3) in
        (g.0, g.1, parent_survives k g.0 full n g.1 i e q.1 (In-append_left g.1 tree (grown c above) q.0), q.1, e);
    only_any = λ n h l e.
        let i = old_node n (pruned-from (suc k) full n h) l in
        stands.only_any n.name (stands.sound n i l).0 e;
  }

  none_taken : policies_stated c ≡ [] → (w : List Label) → Tk w → ⊥
  none_taken e [] h = h
  none_taken e (p ∷ w) h =
      elim h.1 [
        | inl a ↦ along p _ [] e a.0
        | inr x ↦ elim x [ inl b ↦ along p _ [] e b.0 | inr d ↦ along any_policy _ [] e d.0 ]
      ]

  abbrev AfterTaken : List Node → Type 0
  AfterTaken t = Stands (suc k) Tk (λ p. p ∷ []) t × Upper k t

  pub taken_stands : AfterTaken (taken c k tree)
  taken_stands =
      elim (taken_cases c k tree) [
        | inr e ↦ subst AfterTaken (sym e) (full_stands, full_upper)
        | inl e ↦ subst AfterTaken (sym e.0) (
          record {
            sound = λ n h l. absurd h;
            complete = λ w h. absurd (none_taken e.1 w h);
            long = taken_long;
            within = λ n h d l. absurd h;
            any_from = λ q h. elim h [ inl e ↦ e | inr n ↦ absurd n ];
            only_any = taken_only_any;
          },
          record { parent = λ n h l. absurd h; only_any = λ n h l e. absurd h },
        )
      ]

-- 6.1.4 (b)

abbrev rest_of : List Label → List Label
rest_of [] = []
rest_of (p ∷ w) = w

pub is_mapped-from : (c : CertPolicies) (p : Label) → is_mapped c p ≡ true → (m : Label × Label) × In m c.mappings × (m.0 ≡ p)
is_mapped-from c p h = let r = passer (λ m. same m.0 p) c.mappings h in (r.0, r.1, eq-from_same r.0.0 p r.2)

pub is_mapped-to : (c : CertPolicies) (m : Label × Label) → In m c.mappings → is_mapped c m.0 ≡ true
is_mapped-to c m h = passes (λ x. same x.0 m.0) m c.mappings h (same-eq m.0 m.0 refl)

module _ (c : CertPolicies) (fine : MapsNoAny c) where
  pub mapped_apart : (p : Label) → is_mapped c p ≡ true → p ≢ any_policy
  mapped_apart p h e = let r = is_mapped-from c p h in (fine r.0.0 r.0.1 r.1).0 (r.2 ∙ e)

  targets_apart : (p : Label) → In any_policy (targets c p) → ⊥
  targets_apart p h =
      let r = In-from_map (λ m. m.1) any_policy (filter (λ m. same m.0 p) c.mappings) h in
      let q = In-from_filter (λ m. same m.0 p) r.0 c.mappings r.1 in
      (fine r.0.0 r.0.1 q.0).1 r.2

  -- what is expected: the targets of what is mapped, else the label
  pub expected-mapped : (p : Label) → is_mapped c p ≡ true → expected_after c p ≡ targets c p
  expected-mapped p h =
      if_false (same p any_policy) (any_policy ∷ []) _ (same-ne p any_policy (mapped_apart p h)) ∙ if_true (is_mapped c p) (targets c p) (p ∷ []) h

  pub expected-other : (p : Label) → is_mapped c p ≡ false → expected_after c p ≡ p ∷ []
  expected-other p h =
      elim (decide (same p any_policy)) [
        | inl t ↦ if_true (same p any_policy) (any_policy ∷ []) _ t ∙ ap (λ q. q ∷ []) (sym (eq-from_same p any_policy t))
        | inr f ↦ if_false (same p any_policy) (any_policy ∷ []) _ f ∙ if_false (is_mapped c p) (targets c p) (p ∷ []) h
      ]

  pub any_policy-from_expected : (q : Label) → In any_policy (expected_after c q) → q ≡ any_policy
  any_policy-from_expected q h =
      elim (decide (is_mapped c q)) [
        | inl t ↦ absurd (targets_apart q (along any_policy _ _ (expected-mapped q t) h))
        | inr f ↦ elim (along any_policy _ _ (expected-other q f) h) [ inl e ↦ e | inr n ↦ absurd n ]
      ]

  module _ (k : ℕ) (T : List Label → Type 0) (tree : List Node) (stands : Stands (suc k) T (λ p. p ∷ []) tree) (upper : Upper k tree) where
    abbrev here : List Node
    here = nodes_at (suc k) tree

    node_here : (w : List Label) → T w → (n : Node) × In n here × (n.name ≡ w)
    node_here w t =
        let r = stands.complete w t in
        (r.0, In-filter (λ n. is_long (suc k) n.name) r.0 tree r.1 (long_at (suc k) w r.0.name (sym r.2) (stands.long w t)), r.2)

    path_here : (n : Node) → In n here → T n.name
    path_here n h = let q = In-from_filter (λ n. is_long (suc k) n.name) n tree h in (stands.sound n q.0 q.1).0

    any_node : (n : Node) → In n tree → is_long k n.name ≡ true → label n ≡ any_policy → n.name ≡ anys k
    any_node = upper.only_any

    -- where mapping is allowed
    abbrev grows : List Node
    grows = map (retargeted c (suc k)) tree ++ flat_map (λ m. added c k tree m.0) c.mappings

    abbrev M : List Label → Type 0
    M w = T w ⊎ Added c k T w

    retargeted-name : (n : Node) → (retargeted c (suc k) n).name ≡ n.name
    retargeted-name n =
        elim (is_long (suc k) n.name
        && is_mapped c (label n)) as (λ b.
        (cond b (let m : Node = record { name = n.name; expected = targets c (label n) } in m)
        n).name ≡ n.name) [ true ↦ refl | false ↦ refl ]

    retargeted-expected : (n : Node) → is_long (suc k) n.name ≡ true → n.expected ≡ label n ∷ [] → (retargeted c (suc k) n).expected ≡ expected_after c (label n)
    retargeted-expected n l e =
        elim (decide (is_mapped c (label n))) [
          | inl t ↦ ap (λ x. x.expected)
              (if_true (is_long (suc k) n.name && is_mapped c (label n))
              (let m : Node = record { name = n.name; expected = targets c (label n) } in m) n
              (ap (λ b. b && is_mapped c (label n)) l ∙ t)) ∙ sym (expected-mapped (label n) t)
          | inr f ↦ ap (λ x. x.expected)
              (if_false (is_long (suc k) n.name && is_mapped c (label n))
              (let m : Node = record { name = n.name; expected = targets c (label n) } in m) n
              (ap (λ b. b && is_mapped c (label n)) l ∙ f)) ∙ e ∙ sym (expected-other (label n) f)
        ]

    abbrev beside : Label → Node → Node
    beside p n = record { name = p ∷ n.name; expected = targets c p }

    abbrev IsAdded : Label → Node → Type 0
    IsAdded p n = (list_any (λ n. same (label n) p) here ≡ false) × (list_any (λ n. same (label n) any_policy) here ≡ true) × ((m : Node) × In m tree × (m.name ≡ anys k) × (beside p m ≡ n))

    added-from : (p : Label) (n : Node) → In n (added c k tree p) → IsAdded p n
    added-from p n h =
        elim (decide (list_any (λ n. same (label n) p) here)) [
          | inl t ↦ absurd (along n _ [] (if_true (list_any (λ n. same (label n) p) here) _ _ t) h)
          | inr f ↦ elim (decide (list_any (λ n. same (label n) any_policy) here)) [
            | inl t ↦
                let i = along n _ _ (if_false (list_any (λ n. same (label n) p) here) _ _ f ∙ if_true (list_any (λ n. same (label n) any_policy) here) _ _ t) h in
                let r = In-from_map (beside p) n (filter (λ n. same (label n) any_policy) (nodes_at k tree)) i in
                let q = In-from_filter (λ n. same (label n) any_policy) r.0 (nodes_at k tree) r.1 in
                let s = In-from_filter (λ n. is_long k n.name) r.0 tree q.0 in
                (f, t, (r.0, s.0, any_node r.0 s.0 s.1 (eq-from_same (label r.0) any_policy q.1), r.2))
            | inr g ↦ absurd (along n _ [] (if_false (list_any (λ n. same (label n) p) here) _ _ f ∙ if_false (list_any (λ n. same (label n) any_policy) here) _ _ g) h)
          ]
        ]

    grows_within : (n : Node) → In n grows → (d : ℕ) → is_long d n.name ≡ true → d ≤ suc k
    grows_within n h d l =
        elim (In-append_cases n (map (retargeted c (suc k)) tree) (flat_map (λ m. added c k tree m.0) c.mappings) h) [
          | inl a ↦
              let r = In-from_map (retargeted c (suc k)) n tree a in
              let e : n.name ≡ r.0.name = ap (λ x. x.name) (sym r.2) ∙ retargeted-name r.0 in
              stands.within r.0 r.1 d (long_at d n.name r.0.name e l)
          | inr b ↦
              let r = In-from_flat_map (λ m. added c k tree m.0) n c.mappings b in
              let s = added-from r.0.0 n r.2 in
              let e : n.name ≡ r.0.0 ∷ anys k = ap (λ x. x.name) (sym s.2.3) ∙ ap (λ v. r.0.0 ∷ v) s.2.2 in
              let same_depth = one_length d (suc k) n.name l (long_at (suc k) (r.0.0 ∷ anys k) n.name (sym e) (anys-long k)) in
              omega arith
        ]

    grows_sound : (n : Node) → In n grows → is_long (suc k) n.name ≡ true → M n.name × (n.expected ≡ expected_after c (label n))
    grows_sound n h l =
        elim (In-append_cases n (map (retargeted c (suc k)) tree) (flat_map (λ m. added c k tree m.0) c.mappings) h) [
          | inl a ↦
              let r = In-from_map (retargeted c (suc k)) n tree a in
              let e : n.name ≡ r.0.name = ap (λ x. x.name) (sym r.2) ∙ retargeted-name r.0 in
              let at : is_long (suc k) r.0.name ≡ true = long_at (suc k) n.name r.0.name e l in
              let s = stands.sound r.0 r.1 at in
              let P : List Label → Type 0 = λ v. T v in
              (inl (subst P (sym e) s.0), ap (λ x. x.expected) (sym r.2) ∙ retargeted-expected r.0 at s.1 ∙ ap (λ v. expected_after c (end_of v)) (sym e))
          | inr b ↦
              let r = In-from_flat_map (λ m. added c k tree m.0) n c.mappings b in
              let s = added-from r.0.0 n r.2 in
              let is_m = is_mapped-to c r.0 r.1 in
              let top = passer (λ n. same (label n) any_policy) here s.1 in
              let top_path = path_here top.0 top.1 in
              let all = stands.only_any top.0.name top_path (eq-from_same (label top.0) any_policy top.2) in
              let P : List Label → Type 0 = λ v. T v in
              let Q : Node → Type 0 = λ x. M x.name × (x.expected ≡ expected_after c (label x)) in
              subst Q s.2.3 (
                inr (
                  s.2.2,
                  is_m,
                  subst P (all ∙ ap (λ v. any_policy ∷ v) (sym s.2.2)) top_path,
                  λ v t e.
                      let x = node_here v t in
                      clash _ (passes (λ n. same (label n) r.0.0) x.0 here x.1 (same-eq (label x.0) r.0.0 (ap end_of x.2 ∙ e))) s.0,
                ),
                sym (expected-mapped r.0.0 is_m),
              )
        ]

    grows_complete : (w : List Label) → M w → (n : Node) × In n grows × (n.name ≡ w)
    grows_complete w (inl t) =
        let r = stands.complete w t in
        (retargeted c (suc k) r.0, In-append_left _ (map (retargeted c (suc k)) tree) _ (In-map (retargeted c (suc k)) r.0 tree r.1), retargeted-name r.0 ∙ r.2)
    grows_complete [] (inr h) = absurd h
    grows_complete (p ∷ w) (inr h) =
        let m = is_mapped-from c p h.1 in
        let none : list_any (λ n. same (label n) m.0.0) here ≡ false =
        elim (decide (list_any (λ n. same (label n) m.0.0) here)) [
          | inr f ↦ f
          | inl t ↦
              let x = passer (λ n. same (label n) m.0.0) here t in
              absurd (h.3 x.0.name (path_here x.0 x.1) (eq-from_same (label x.0) m.0.0 x.2 ∙ m.2))
        ] in
        let top = node_here (any_policy ∷ w) h.2 in
        let one : list_any (λ n. same (label n) any_policy) here ≡ true = passes (λ n. same (label n) any_policy) top.0 here top.1 (same-eq (label top.0) any_policy (ap end_of top.2)) in
        let q = In-from_filter (λ n. is_long (suc k) n.name) top.0 tree top.1 in
        let up = upper.parent top.0 q.0 q.1 in
        let up_name : up.1.name ≡ w = ap (λ v. rest_of v) (sym up.4 ∙ top.2) in
        let up_any : label up.1 ≡ any_policy = ap end_of (up_name ∙ h.0) ∙ anys-end k in
        let i = In-filter (λ n. same (label n) any_policy) up.1 (nodes_at k tree) (In-filter (λ n. is_long k n.name) up.1 tree up.2 up.3) (same-eq (label up.1) any_policy up_any) in
        let j = In-map (beside m.0.0) up.1 (filter (λ n. same (label n) any_policy) (nodes_at k tree)) i in
        let in_added : In (beside m.0.0 up.1) (added c k tree m.0.0) =
        along _ _ _ (sym (if_false (list_any (λ n. same (label n) m.0.0) here) [] _ none
        ∙ if_true (list_any (λ n. same (label n) any_policy) here) _ [] one)) j in (
          beside m.0.0 up.1,
          In-append_right _ (map (retargeted c (suc k)) tree) _
              (In-flat_map (λ m. added c k tree m.0) m.0 _ c.mappings m.1 in_added),
          ap
              (λ x. x ∷ up.1.name) m.2 ∙ ap (λ v. p ∷ v) up_name,
        )

    grows_long : (w : List Label) → M w → is_long (suc k) w ≡ true
    grows_long w (inl t) = stands.long w t
    grows_long [] (inr h) = absurd h
    grows_long (p ∷ w) (inr h) = long_at k (anys k) w (sym h.0) (anys-long k)

    grows_only_any : (w : List Label) → M w → end_of w ≡ any_policy → w ≡ anys (suc k)
    grows_only_any w (inl t) e = stands.only_any w t e
    grows_only_any [] (inr h) e = absurd h
    grows_only_any (p ∷ w) (inr h) e = absurd (mapped_apart p h.1 e)

    grows_stands : Stands (suc k) M (expected_after c) grows
    grows_stands = record {
      sound = grows_sound;
      complete = grows_complete;
      long = grows_long;
      within = grows_within;
      any_from = any_policy-from_expected;
      only_any = grows_only_any;
    }

    -- where it is not
    abbrev stays : Node → Bool
    stays n = not (is_long (suc k) n.name && is_mapped c (label n))

    abbrev shrinks : List Node
    shrinks = pruned (suc k) (filter (λ n. stays n) tree)

    abbrev N : List Label → Type 0
    N w = T w × (is_mapped c (end_of w) ≡ false)

    shrinks_from : (n : Node) → In n shrinks → In n tree × (stays n ≡ true)
    shrinks_from n h = In-from_filter (λ n. stays n) n tree (pruned-from (suc k) _ n h)

    not_mapped : (n : Node) → is_long (suc k) n.name ≡ true → stays n ≡ true → is_mapped c (label n) ≡ false
    not_mapped n l h = elim (decide (is_mapped c (label n))) [
      | inr f ↦ f
      | inl t ↦ absurd (clash (stays n) h (ap (λ b. not (b && is_mapped c (label n))) l ∙ ap not t))
    ]

    shrinks_stands : Stands (suc k) N (expected_after c) shrinks
    shrinks_stands = record {
      sound = λ n h l.
          let r = shrinks_from n h in
          let s = stands.sound n r.0 l in
          let f = not_mapped n l r.1 in
          ((s.0, f), s.1 ∙ sym (expected-other (label n) f));
      complete = λ w h.
          let r = stands.complete w h.0 in
          let l : is_long (suc k) r.0.name ≡ true = long_at (suc k) w r.0.name (sym r.2) (stands.long w h.0) in
          let f : is_mapped c (label r.0) ≡ false = ap (λ v. is_mapped c (end_of v)) r.2 ∙ h.1 in
          let s : stays r.0 ≡ true = ap (λ b. not (b && is_mapped c (label r.0))) l ∙ ap not f in
          (r.0, survives (suc k) (suc k) _ r.0 (le_refl (suc k)) l (In-filter (λ n. stays n) r.0 tree r.1 s), r.2);
      long = λ w h. stands.long w h.0;
      within = λ n h. stands.within n (shrinks_from n h).0;
      any_from = any_policy-from_expected;
      only_any = λ w h. stands.only_any w h.0;
    }

    pub mapped_stands : Stands (suc k) (Mapped c k T) (expected_after c) (mapped c k tree)
    mapped_stands =
        elim (nat_lt 0 c.policy_mapping) as (λ b. Stands (suc k) (λ w. MatchBool b (M w) (N w)) (expected_after c) (cond b grows shrinks)) [
          | true ↦ grows_stands
          | false ↦ shrinks_stands
        ]

-- the law

start_stands : Stands zero (InS []) (expected []) (tree_S [])
start_stands = record {
  sound = λ n h l. elim h [ inl e ↦ (ap (λ x. x.name) (sym e), ap (λ x. x.expected) (sym e) ∙ ap (λ x. end_of x.name ∷ []) e) | inr f ↦ absurd f ];
  complete = λ w h. (root, inl refl, sym h);
  long = λ w h. ap (is_long zero) h;
  within = λ n h d l. elim h [ inl e ↦ (let q = one_length d zero n.name l (ap (λ x. is_long zero x.name) (sym e)) in omega arith) | inr f ↦ absurd f ];
  any_from = λ q h. elim h [ inl e ↦ e | inr f ↦ absurd f ];
  only_any = λ w h e. h;
}

stands_S : (cs : List CertPolicies) → NoneMapsAny cs → Stands (count cs) (InS cs) (expected cs) (tree_S cs)
stands_S [] fine = start_stands
stands_S (c ∷ cs) fine =
    let t = taken_stands c (count cs) (InS cs) (expected cs) (tree_S cs) (stands_S cs fine.1) in
    mapped_stands c fine.0 (count cs) (InT (c ∷ cs)) (tree_T (c ∷ cs)) t.0 t.1

names_are : (k : ℕ) (S : List Label → Type 0) (expects : Label → List Label) (tree : List Node) → Stands k S expects tree → (w : List Label) → In w (names_at k tree) ↔ S w
names_are k S expects tree stands w = (
  λ h.
      let r = In-from_map (λ n. n.name) w (nodes_at k tree) h in
      let q = In-from_filter (λ n. is_long k n.name) r.0 tree r.1 in
      subst S r.2 (stands.sound r.0 q.0 q.1).0,
  λ h.
      let r = stands.complete w h in
      let l : is_long k r.0.name ≡ true = long_at k w r.0.name (sym r.2) (stands.long w h) in
      moved r.0.name w _ r.2 (In-map (λ n. n.name) r.0 (nodes_at k tree) (In-filter (λ n. is_long k n.name) r.0 tree r.1 l)),
)

pub paths_mapped : (cs : List CertPolicies) → NoneMapsAny cs → (w : List Label) → In w (names_at (count cs) (tree_S cs)) ↔ InS cs w
paths_mapped cs fine = names_are (count cs) (InS cs) (expected cs) (tree_S cs) (stands_S cs fine)

pub paths_taken : (c : CertPolicies) (before : List CertPolicies) → NoneMapsAny before → (w : List Label) → In w (names_at (suc (count before)) (tree_T (c ∷ before))) ↔ InT (c ∷ before) w
paths_taken c before fine =
    names_are (suc (count before)) (InT (c ∷ before)) (λ p. p ∷ []) (tree_T (c ∷ before)) (taken_stands c (count before) (InS before) (expected before) (tree_S before) (stands_S before fine)).0

-- each node has a path through it: what pruning is for

abbrev pub OnPaths : (List Label → Type 0) → List Node → Type 0
OnPaths S tree = (n : Node) → In n tree → (v : List Label) × S (v ++ n.name)

child_name : (w v : List Label) → is_child_of w v ≡ true → (p : Label) × (v ≡ p ∷ w)
child_name w [] h = absurd (true≢false (sym h))
child_name w (p ∷ v) h = (p, ap (λ x. p ∷ x) (same_name-eq v w h))

below_or_at : (e d : ℕ) → e < suc d → (e < d) ⊎ (e ≡ d)
below_or_at e d lt = elim (decide (nat_lt e d)) [ inl t ↦ inl (ltb-true e d t) | inr f ↦ inr (let le = ltb-false e d f in omega arith) ]

pruned_has_child : (d : ℕ) (tree : List Node) (n : Node) (e : ℕ) → In n (pruned d tree) → e < d → is_long e n.name ≡ true → (p : Label) × (m : Node) × In m (pruned d tree) × (m.name ≡ p ∷ n.name)
pruned_has_child zero tree n e h lt l = absurd (omega (arith, lt))
pruned_has_child (suc d) tree n e h lt l =
    let stays : Node → Bool = λ n. not (is_long d n.name) || list_any (λ m. is_child_of n.name m.name) tree in
    elim (below_or_at e d lt) [
      | inl below ↦ pruned_has_child d (filter (λ n. stays n) tree) n e h below l
      | inr same_depth ↦
          let at : is_long d n.name ≡ true = ap (λ x. is_long x n.name) (sym same_depth) ∙ l in
          let kept = In-from_filter (λ n. stays n) n tree (pruned-from d (filter (λ n. stays n) tree) n h) in
          let has_child : list_any (λ m. is_child_of n.name m.name) tree ≡ true = ap (λ b. not b || list_any (λ m. is_child_of n.name m.name) tree) (sym at) ∙ kept.1 in
          let r = passer (λ m. is_child_of n.name m.name) tree has_child in
          let name = child_name n.name r.0.name r.2 in
          let deep : is_long (suc d) r.0.name ≡ true = long_at (suc d) (name.0 ∷ n.name) r.0.name (sym name.1) at in
          let child_stays : stays r.0 ≡ true = ap (λ b. not b || list_any (λ m. is_child_of r.0.name m.name) tree) (shorter d (suc d) r.0.name (lt_suc d) deep) in
          (name.0, r.0, survives d (suc d) (filter (λ n. stays n) tree) r.0 (le_of_lt (lt_suc d)) deep (In-filter (λ n. stays n) r.0 tree r.1 child_stays), name.1)
    ]
  where
    lt_suc : (d : ℕ) → d < suc d
    lt_suc d = omega arith

length_of : (w : List Label) → (d : ℕ) × (is_long d w ≡ true)
length_of [] = (zero, refl)
length_of (p ∷ w) = let r = length_of w in (suc r.0, r.1)

module _ (k : ℕ) (S : List Label → Type 0) (expects : Label → List Label) (tree : List Node) (stands : Stands (suc k) S expects (pruned (suc k) tree)) where
  climb : (j e : ℕ) (n : Node) → In n (pruned (suc k) tree) → is_long e n.name ≡ true → e + j ≡ suc k → (v : List Label) × S (v ++ n.name)
  climb zero e n h l is = ([], (stands.sound n h (ap (λ d. is_long d n.name) (sym (let q : e ≡ suc k = omega (arith, is) in q)) ∙ l)).0)
  climb (suc j) e n h l is =
      let c = pruned_has_child (suc k) tree n e h (omega (arith, is)) l in
      let r = climb j (suc e) c.1 c.2 (long_at (suc e) (c.0 ∷ n.name) c.1.name (sym c.3) l) (omega (arith, is)) in
      let e = ap (λ x. r.0 ++ x) c.3 ∙ sym (append_assoc r.0 (c.0 ∷ []) n.name) in
      (r.0 ++ (c.0 ∷ []), subst S e r.1)

  pub pruned_on_paths : OnPaths S (pruned (suc k) tree)
  pruned_on_paths n h =
      let d = length_of n.name in
      let le = stands.within n h d.0 d.1 in
      climb (suc k - d.0) d.0 n h d.1 (omega (arith, le))

pub taken_on_paths : (c : CertPolicies) (cs : List CertPolicies) → NoneMapsAny cs → OnPaths (InT (c ∷ cs)) (tree_T (c ∷ cs))
taken_on_paths c cs fine =
    let k = count cs in
    let s = (taken_stands c k (InS cs) (expected cs) (tree_S cs) (stands_S cs fine)).0 in
    elim (taken_cases c k (tree_S cs)) [
      | inl e ↦ λ n h. absurd (along n _ [] e.0 h)
      | inr e ↦
          let P : List Node → Type 0 = λ t. Stands (suc k) (InT (c ∷ cs)) (λ p. p ∷ []) t in
          let Q : List Node → Type 0 = λ t. OnPaths (InT (c ∷ cs)) t in
          subst Q (sym e) (pruned_on_paths k (InT (c ∷ cs)) (λ p. p ∷ []) _ (subst P e s))
    ]

module _ (c : CertPolicies) (fine : MapsNoAny c) (k : ℕ) (T : List Label → Type 0) (tree : List Node) (stands : Stands (suc k) T (λ p. p ∷ []) tree) (upper : Upper k tree) (on : OnPaths T tree) where
  grows_on : OnPaths (M c fine k T tree stands upper) (grows c fine k T tree stands upper)
  grows_on n h =
      elim (In-append_cases n (map (retargeted c (suc k)) tree) (flat_map (λ m. added c k tree m.0) c.mappings) h) [
        | inl a ↦
            let r = In-from_map (retargeted c (suc k)) n tree a in
            let v = on r.0 r.1 in
            let e : r.0.name ≡ n.name = sym (retargeted-name c fine k T tree stands upper r.0) ∙ ap (λ x. x.name) r.2 in
            (v.0, inl (subst T (ap (λ w. v.0 ++ w) e) v.1))
        | inr b ↦
            let r = In-from_flat_map (λ m. added c k tree m.0) n c.mappings b in
            let s = added-from c fine k T tree stands upper r.0.0 n r.2 in
            let e : n.name ≡ r.0.0 ∷ anys k = ap (λ x. x.name) (sym s.2.3) ∙ ap (λ v. r.0.0 ∷ v) s.2.2 in
            let l : is_long (suc k) n.name ≡ true = long_at (suc k) (r.0.0 ∷ anys k) n.name (sym e) (anys-long k) in
            ([], (grows_sound c fine k T tree stands upper n h l).0)
      ]

  mapped_on : OnPaths (Mapped c k T) (mapped c k tree)
  mapped_on =
      elim (nat_lt 0 c.policy_mapping) as (λ b. OnPaths
      (λ w. MatchBool b (M c fine k T tree stands upper w) (N c fine k T tree stands upper w))
      (cond b (grows c fine k T tree stands upper) (shrinks c fine k T tree stands upper))) [
        | true ↦ grows_on
        | false ↦ pruned_on_paths k (N c fine k T tree stands upper) (expected_after c) _ (shrinks_stands c fine k T tree stands upper)
      ]

pub mapped_on_paths : (cs : List CertPolicies) → NoneMapsAny cs → OnPaths (InS cs) (tree_S cs)
mapped_on_paths [] fine = λ n h. elim h [ inl e ↦ ([], ap (λ x. x.name) (sym e)) | inr f ↦ absurd f ]
mapped_on_paths (c ∷ cs) fine =
    let t = taken_stands c (count cs) (InS cs) (expected cs) (tree_S cs) (stands_S cs fine.1) in
    mapped_on c fine.0 (count cs) (InT (c ∷ cs)) (tree_T (c ∷ cs)) t.0 t.1 (taken_on_paths c cs fine.1)
