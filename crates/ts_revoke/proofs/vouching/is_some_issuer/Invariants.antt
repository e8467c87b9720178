-- Some of the rest is one exactly where some of all is.
use Rattle.std.proofs.Common.{◌≡◌, map, drop}
use Rattle.std.specs.List.{list_any}
use Rattle.ts_cert.specs.CertView.{cert_in}
use Rattle.ts_crl.specs.ListView.{crl_in}
use Rattle.ts_revoke.specs.Vouched.{is_issuer}
use Rattle.ts_revoke.proofs.vouching.is_some_issuer.Given as goal

abbrev pub invariant-loop-issuer : goal.invariant-loop-issuer
invariant-loop-issuer l = list_any (is_issuer (crl_in l.crl)) (map cert_in (drop l.issuer-index l.issuers)) ≡ list_any (is_issuer (crl_in l.crl)) (map cert_in l.issuers)
