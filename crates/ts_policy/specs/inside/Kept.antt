-- What a `Policies` keeps stands for what contracts see of it.
use Rattle.std.specs.Prelude.{◌≡◌, Bool, true, false, List, [], map}
use Rattle.ts_policy.specs.declared.policies.Policies.TheInside.{Inside}
use Rattle.ts_policy.specs.Labels.{Label, any_policy, In}
use Rattle.ts_policy.specs.Paths.{CertPolicies, expected, count}
use Rattle.ts_policy.specs.inside.Layers.{Layer, HoldPaths, AreExpectations, newest, depth}
use Rattle.ts_policy.specs.inside.Links.{link_in}
use Rattle.ts_policy.specs.Certificates.{policies_in}
use Rattle.ts_policy.specs.Seen.{Seen, InPaths}

-- the layers hold the paths of the certificates, and once the latest is mapped, the pairs are what
-- its labels expect
pub record Stand (cs : List CertPolicies) (mapped : Bool) (ls : List Layer)
    (pairs : Layer) : Type 0 where
  pub holds : HoldPaths (InPaths (record { certificates = cs; mapped = mapped })) ls
  pub long : depth ls ≡ count cs
  pub expectations_are : mapped ≡ true → AreExpectations (expected cs) ls pairs
  pub begun : mapped ≡ false → cs ≡ [] → ⊥
  pub any_from : mapped ≡ true → (q : Label) → In any_policy (expected cs q) → q ≡ any_policy

-- the certificates taken, and whether the latest is mapped
abbrev pub seen_as : Inside → Seen
seen_as a = record { certificates = newest policies_in [] a.taken.items; mapped = a.mapped }

-- the layers, seen as labels
abbrev pub kept_layers : Inside → List Layer
kept_layers a = newest (λ v. map link_in v.items) [] a.layers.items

-- they stand for the certificates
abbrev pub IsKept : Inside → Type 0
IsKept a = Stand (newest policies_in [] a.taken.items) a.mapped (kept_layers a)
    (map link_in a.expectations.items)
