-- each certificate before issued another
use Rattle.std.proofs.Common.{ℕ, ◌<◌, map}
use Rattle.ts_cert.specs.CertView.{cert_in}
use Rattle.ts_verify.specs.Leaf.{IssuesNone}
use Rattle.ts_verify.proofs.leaf.leaf_place.Given as goal

abbrev pub invariant-loop-place : goal.invariant-loop-place
invariant-loop-place l = (k : ℕ) → k < l.place → ¬ (IssuesNone (map cert_in l.certificates) k)
