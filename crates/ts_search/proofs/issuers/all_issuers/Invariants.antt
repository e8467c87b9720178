-- the rows of the places before
use Rattle.std.proofs.Common.{◌≡◌, length, map}
use Rattle.std.specs.List.{range_with_len}
use Rattle.ts_cert.specs.CertView.{cert_in}
use Rattle.ts_search.specs.Candidates.{issues}
use Rattle.ts_search.specs.inside.Levels.{issuers}
use Rattle.ts_search.proofs.issuers.all_issuers.Given as goal

abbrev pub invariant-loop-place : goal.invariant-loop-place
invariant-loop-place l = map (λ row. row.items) l.rows.items ≡ map (issuers (issues (map cert_in l.certificates)) (length l.certificates)) (range_with_len 0 l.place)
