-- What contracts see of `Policies`: the certificates that it took, and by them a set of paths.
use Rattle.std.specs.Prelude.{Bool, List, MatchBool}
use Rattle.ts_policy.specs.Labels.{Path}
use Rattle.ts_policy.specs.Paths.{CertPolicies, InS, InT}

-- the certificates taken, the latest first, and whether the mappings of the latest are applied
pub record Seen : Type 0 where
  pub certificates : List CertPolicies
  pub mapped : Bool

-- S(i) once the mappings are applied, and T(i) before
abbrev pub InPaths : Seen → Path → Type 0
InPaths s w = MatchBool s.mapped (InS s.certificates w) (InT s.certificates w)
