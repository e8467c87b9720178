-- The valid policy tree of RFC 5280 as 6.1.3 (d) and 6.1.4 (b) describe it: a list of nodes, each
-- named by its labels from itself up to the root, with the labels that it expects. Nothing but the
-- law on it speaks of this tree.
use Rattle.std.specs.Prelude.{ℕ, zero, suc, Bool, true, false, not, ◌&&◌, ◌||◌, nat_lt}
use Rattle.std.specs.Prelude.{if◌then◌else◌, List, [], ◌∷◌, ◌++◌, map, filter, Some, None, flat_map}
use Rattle.std.specs.List.{list_any}
use Rattle.ts_policy.specs.Labels.{Label, Path, any_policy, same, has}
use Rattle.ts_policy.specs.Paths.{CertPolicies, policies_stated, is_mapped, targets, end_of}
use Rattle.ts_policy.specs.Paths.{any_counts}
use Rattle.ts_policy.specs.Paths.{count}

-- a node: its valid_policy is the first label of its name, and its depth the number of labels; the
-- root has no label
pub record Node : Type 0 where
  pub name : Path
  -- expected_policy_set
  pub expected : List Label

-- valid_policy
abbrev pub label : Node → Label
label n = end_of n.name

-- the initial tree: one node, anyPolicy, which expects anyPolicy (6.1.2 (a))
abbrev pub root : Node
root = record { name = []; expected = any_policy ∷ [] }

-- a node below n that expects its own label
abbrev pub child : Label → Node → Node
child p n = record { name = p ∷ n.name; expected = p ∷ [] }

-- the path has this many labels
abbrev pub is_long : ℕ → Path → Bool
is_long zero [] = true
is_long zero (p ∷ w) = false
is_long (suc d) [] = false
is_long (suc d) (p ∷ w) = is_long d w

-- the nodes of depth d
abbrev pub nodes_at : ℕ → List Node → List Node
nodes_at d tree = filter (λ n. is_long d n.name) tree

-- two paths have the same labels
abbrev pub same_name : Path → Path → Bool
same_name [] [] = true
same_name [] (q ∷ v) = false
same_name (p ∷ w) [] = false
same_name (p ∷ w) (q ∷ v) = same p q && same_name w v

-- the path has one label more than w
abbrev pub is_child_of : Path → Path → Bool
is_child_of w [] = false
is_child_of w (p ∷ v) = same_name v w

-- (d)(1): the children that a stated policy other than anyPolicy adds to the nodes of depth i-1:
-- (i) below each that expects it, or (ii), where there is none, below anyPolicy
abbrev pub placed : List Node → Label → List Node
placed above p =
    if same p any_policy then []
    else if list_any (λ n. has n.expected p) above
    then map (child p) (filter (λ n. has n.expected p) above)
    else map (child p) (filter (λ n. same (label n) any_policy) above)

-- the same for all stated policies
abbrev pub placed_all : CertPolicies → List Node → List Node
placed_all c above = flat_map (placed above) (policies_stated c)

-- (d)(2): a child of n for each label that n expects and that is not among its children
abbrev pub missing : List Node → Node → List Node
missing children n =
    map (λ p. child p n) (filter (λ p. not
    (list_any (λ m. same_name (p ∷ n.name) m.name) children)) n.expected)

-- (d)(2), where anyPolicy is stated and counts
abbrev pub filled : CertPolicies → List Node → List Node → List Node
filled c above children = if has (policies_stated c) any_policy && any_counts c
    then flat_map (missing children) above else []

-- the new nodes of depth k + 1, from those of depth k
abbrev pub grown : CertPolicies → List Node → List Node
grown c above = placed_all c above ++ filled c above (placed_all c above)

-- (d)(3): nodes above depth d without a child go, the deepest first, until there is none
abbrev pub pruned : ℕ → List Node → List Node
pruned zero tree = tree
pruned (suc d) tree = pruned d
    (filter (λ n. not (is_long d n.name) || list_any (λ m. is_child_of n.name m.name) tree) tree)

-- 6.1.3 (d) and (e) at certificate k + 1
abbrev pub taken : CertPolicies → ℕ → List Node → List Node
taken c k tree = elim c.policies
    [ None ↦ [] | Some ps ↦ pruned (suc k) (tree ++ grown c (nodes_at k tree)) ]

-- 6.1.4 (b)(1): a node of depth d whose label is mapped expects the targets
abbrev pub retargeted : CertPolicies → ℕ → Node → Node
retargeted c d n = if is_long d n.name && is_mapped c (label n)
    then record { name = n.name; expected = targets c (label n) } else n

-- 6.1.4 (b)(1), where no node of depth k + 1 has the mapped label p but one has anyPolicy: a child
-- p, with the targets, of the node of depth k that has anyPolicy
abbrev pub added : CertPolicies → ℕ → List Node → Label → List Node
added c k tree p =
    if list_any (λ n. same (label n) p) (nodes_at (suc k) tree) then []
    else if list_any (λ n. same (label n) any_policy) (nodes_at (suc k) tree)
    then map (λ n. record { name = p ∷ n.name; expected = targets c p })
    (filter (λ n. same (label n) any_policy) (nodes_at k tree))
    else []

-- 6.1.4 (b) at certificate k + 1: (1) where policy_mapping is above 0, and else (2), by which nodes
-- of mapped labels go
abbrev pub mapped : CertPolicies → ℕ → List Node → List Node
mapped c k tree =
    if nat_lt 0 c.policy_mapping
    then map (retargeted c (suc k)) tree ++ flat_map (λ m. added c k tree m.0) c.mappings
    else pruned (suc k) (filter (λ n. not (is_long (suc k) n.name && is_mapped c (label n))) tree)

-- the tree after the mappings of the latest certificate
abbrev pub tree_S : List CertPolicies → List Node
tree_S [] = root ∷ []
tree_S (c ∷ before) = mapped c (count before) (taken c (count before) (tree_S before))

-- the tree before them
abbrev pub tree_T : List CertPolicies → List Node
tree_T [] = root ∷ []
tree_T (c ∷ before) = taken c (count before) (tree_S before)

-- the names of the nodes of depth d
abbrev pub names_at : ℕ → List Node → List Path
names_at d tree = map (λ n. n.name) (nodes_at d tree)
