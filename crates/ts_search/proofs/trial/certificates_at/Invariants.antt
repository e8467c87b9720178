-- what is found, and what is at the places that are left, are all
use Rattle.std.proofs.Common.{◌≡◌, ◌++◌, map, drop}
use Rattle.ts_cert.specs.CertView.{cert_in}
use Rattle.ts_search.specs.Search.{certificates_at}
use Rattle.ts_search.proofs.trial.certificates_at.Given as goal

abbrev pub invariant-loop-place : goal.invariant-loop-place
invariant-loop-place l =
    map cert_in l.found.items ++ certificates_at (map cert_in l.certificates) (drop l.place-index l.chain) ≡ certificates_at (map cert_in l.certificates) l.chain
