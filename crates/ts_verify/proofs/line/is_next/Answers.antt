-- The place is none of those in the chain, and the names are compared.
use Rattle.std.proofs.Common.{◌∙◌, ap, map, not, sym}
use Rattle.ts_cert.specs.CertView.{cert_in}
use Rattle.ts_search.proofs.Rows.{test_is}
use Rattle.ts_verify.proofs.Named.{next_is, used_is}
use Rattle.ts_verify.proofs.line.is_next.Goals as goal

pub returns-then-not-contains : goal.returns-then-not-contains
returns-then-not-contains c =
    let certs = c.args.certificates.now in
    let test = test_is certs c.args.place c.args.top c.index-certificates-place.result c.index-certificates-top.result c.issues.result
    c.requires.place c.requires.top c.index-certificates-place.is c.index-certificates-top.is c.issues.ensures in
    sym (next_is (map cert_in certs) c.args.top c.args.used.now c.args.place c.issues.result
    (sym c.contains.ensures.value ∙ c.if-not-contains.true) test)

pub returns-else-not-contains : goal.returns-else-not-contains
returns-else-not-contains c =
    ap not c.if-not-contains.false
    ∙ sym (used_is (map cert_in c.args.certificates.now) c.args.top c.args.used.now c.args.place
    (sym c.contains.ensures.value ∙ c.if-not-contains.false))
