-- How the sets of paths are kept: layers of labels, one for each certificate, the latest first. A
-- link (p, q) of a layer says that p may follow a path that ends in the label q of the layer above.
-- Above the first layer stands anyPolicy.
use Rattle.std.specs.Prelude.{◌≡◌, ℕ, zero, suc, Bool, true, false, not, ◌&&◌, ◌||◌, nat_lt}
use Rattle.std.specs.Prelude.{if◌then◌else◌, List, [], ◌∷◌, ◌++◌, map, filter, ◌↔◌}
use Rattle.std.specs.List.{list_any}
use Rattle.ts_policy.specs.Labels.{Label, Path, any_policy, same, In, has}
use Rattle.ts_policy.specs.Paths.{CertPolicies, policies_stated, any_counts, is_mapped, end_of}
use Rattle.ts_policy.specs.Accepted.{is_none}

-- the links of a certificate
abbrev pub Layer : Type 0
Layer = List (Label × Label)

-- p is a label of the layer
abbrev pub has_label : Layer → Label → Bool
has_label l p = list_any (λ x. same x.0 p) l

-- p is the first of a pair
abbrev pub is_from : List (Label × Label) → Label → Bool
is_from ms p = list_any (λ m. same m.0 p) ms

-- the path goes along links
abbrev pub IsWalk : List Layer → Path → Type 0
IsWalk [] w = w ≡ []
IsWalk (l ∷ ls) [] = ⊥
IsWalk (l ∷ ls) (p ∷ w) = In (p, end_of w) l × IsWalk ls w

-- the label is one of the latest layer
abbrev pub IsEnd : List Layer → Label → Type 0
IsEnd [] q = q ≡ any_policy
IsEnd (l ∷ ls) q = has_label l q ≡ true

-- each link leads to a label of the layer above, and only anyPolicy is above anyPolicy
abbrev pub Leads : Layer → List Layer → Type 0
Leads l ls = (p q : Label) → In (p, q) l → IsEnd ls q × (p ≡ any_policy → q ≡ any_policy)

-- so it is in each layer
abbrev pub Grounded : List Layer → Type 0
Grounded [] = Unit {0}
Grounded (l ∷ ls) = Leads l ls × Grounded ls

-- anyPolicy is stated and counts
abbrev pub fills : CertPolicies → Bool
fills c = has (policies_stated c) any_policy && any_counts c

-- an expectation (p, q), that q expects p, is met by what is stated, or by anyPolicy
abbrev pub is_asked : Bool → List Label → Label × Label → Bool
is_asked on ps x = on || (not (same x.0 any_policy) && has ps x.0)

-- the links by what is expected
abbrev pub wanted : Layer → List Label → Bool → Layer
wanted pairs ps on = filter (λ x. is_asked on ps x) pairs

-- the links by what nothing expects, from the labels that are expected
abbrev pub unwanted_by : List Label → List Label → Layer
unwanted_by es ps =
    if has es any_policy then map (λ p. (p, any_policy))
    (filter (λ p. not (same p any_policy) && not (has es p)) ps) else []

-- the same, from the expectations
abbrev pub unwanted : Layer → List Label → Layer
unwanted pairs ps =
    if has_label pairs any_policy then map (λ p. (p, any_policy))
    (filter (λ p. not (same p any_policy) && not (has_label pairs p)) ps) else []

-- the next layer
abbrev pub next_layer : Layer → List Label → Bool → Layer
next_layer pairs ps on = wanted pairs ps on ++ unwanted pairs ps

-- l is the layer of the certificate: its labels are asked by a list of what is stated
pub record IsNext (c : CertPolicies) (pairs : Layer) (l : Layer) : Type 0 where
  pub list : List Label
  pub alike : (p : Label) → has list p ≡ has (policies_stated c) p
  pub is : l ≡ next_layer pairs list (fills c)

-- the links to what is mapped and not there, from the labels that are there
abbrev pub added_by : List Label → List (Label × Label) → Layer
added_by es ms = if has es any_policy
    then map (λ m. (m.0, any_policy)) (filter (λ m. not (has es m.0)) ms) else []

-- the same, from the layer
abbrev pub new_links : Layer → List (Label × Label) → Layer
new_links l ms = if has_label l any_policy
    then map (λ m. (m.0, any_policy)) (filter (λ m. not (has_label l m.0)) ms) else []

-- the layer after the mappings
abbrev pub mapped_layer : CertPolicies → Layer → Layer
mapped_layer c l =
    if nat_lt 0 c.policy_mapping then l ++ new_links l c.mappings
    else filter (λ x. not (is_mapped c x.0)) l

-- what the labels of a layer expect, from the labels that are mapped
abbrev pub expectations_by : List Label → List (Label × Label) → List Label → Layer
expectations_by es ms froms = map (λ m. (m.1, m.0)) (filter (λ m. has es m.0) ms)
    ++ map (λ p. (p, p)) (filter (λ p. not (has froms p)) es)

-- the layers hold the paths S
pub record HoldPaths (S : Path → Type 0) (ls : List Layer) : Type 0 where
  pub walks : (w : Path) → IsWalk ls w ↔ S w
  pub grounded : Grounded ls

-- the pairs are what the labels of the latest layer expect
abbrev pub AreExpectations : (Label → List Label) → List Layer → Layer → Type 0
AreExpectations expects ls pairs = (p q : Label) → In (p, q) pairs ↔ (IsEnd ls q × In p (expects q))

-- the link leads from a label that is alive, which has a way down to the latest layer, and is not
-- anyPolicy, to anyPolicy
abbrev pub is_top : List Label → Label × Label → Bool
is_top alive x = has alive x.0 && (same x.1 any_policy && not (same x.0 any_policy))

-- the labels of such links
abbrev pub tops : Layer → List Label → List Label
tops l alive = map (λ x. x.0) (filter (λ x. is_top alive x) l)

-- the labels above those that are alive
abbrev pub above_alive : Layer → List Label → List Label
above_alive l alive = map (λ x. x.1) (filter (λ x. has alive x.0) l)

-- the first labels that are not anyPolicy
abbrev pub firsts : List Layer → List Label → List Label
firsts [] alive = []
firsts (l ∷ ls) alive = tops l alive ++ firsts ls (above_alive l alive)

-- the number of layers
abbrev pub depth : List Layer → ℕ
depth [] = zero
depth (l ∷ ls) = suc (depth ls)

-- the list with the last first, above what is there
abbrev pub newest : {X Y : Type 0} → (X → Y) → List Y → List X → List Y
newest f rest [] = rest
newest f rest (x ∷ xs) = newest f (f x ∷ rest) xs

-- no label is left
abbrev pub is_over : List Layer → Bool
is_over [] = false
is_over ([] ∷ ls) = true
is_over ((x ∷ l) ∷ ls) = false

-- of the first labels, and whether anyPolicy goes down to the end, what the user accepts
abbrev pub chosen : List Label → Bool → List Label → List Label
chosen found free user =
    if is_none user || has user any_policy then (if free then found ++ any_policy ∷ [] else found)
    else if free then user else filter (λ p. has found p) user
