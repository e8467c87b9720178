-- the issuers among the places before
use Rattle.std.proofs.Common.{◌≡◌, map, filter}
use Rattle.std.specs.List.{range_with_len}
use Rattle.ts_cert.specs.CertView.{cert_in}
use Rattle.ts_search.specs.Candidates.{issues}
use Rattle.ts_search.proofs.issuers.issuers_of.Given as goal

abbrev pub invariant-loop-i : goal.invariant-loop-i
invariant-loop-i l = l.row.items ≡ filter (λ k. issues (map cert_in l.certificates) k l.place) (range_with_len 0 l.i)
