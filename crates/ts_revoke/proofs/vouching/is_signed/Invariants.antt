-- Some of the rest has signed exactly where some of all has.
use Rattle.std.proofs.Common.{◌≡◌, map, drop}
use Rattle.std.specs.List.{list_any}
use Rattle.ts_cert.specs.CertView.{cert_in}
use Rattle.ts_crl.specs.ListView.{crl_in}
use Rattle.ts_revoke.specs.Vouched.{has_signed}
use Rattle.ts_revoke.proofs.vouching.is_signed.Given as goal

abbrev pub invariant-loop-issuer : goal.invariant-loop-issuer
invariant-loop-issuer g l =
    list_any (has_signed (g.S.SignatureCheck.accepts l.check) (crl_in l.crl))
    (map cert_in (drop l.issuer-index l.issuers)) ≡ list_any
    (has_signed (g.S.SignatureCheck.accepts l.check) (crl_in l.crl)) (map cert_in l.issuers)
