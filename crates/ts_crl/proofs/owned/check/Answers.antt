use Rattle.std.proofs.Common.{List, [], Option, arith, sym, subst}
use Rattle.std.specs.Prelude.{map, unwrap_or}
use Rattle.ts_digest.specs.Message.{IsDigestOf}
use Rattle.ts_crl.specs.Entries.{entries_of}
use Rattle.ts_crl.specs.EntryView.{revoked_in}
use Rattle.ts_crl.specs.inside.Endings.{AreListed}
use Rattle.ts_crl.specs.List.{CertificateList, RevokedCertificate, unlocated_entry}
use Rattle.ts_crl.specs.ListView.{located_list_in}
use Rattle.ts_crl.proofs.Checking.{was-read, out-of-memory}
use Rattle.ts_crl.proofs.Finds.{seen-twice}
use Rattle.ts_crl.proofs.Borrowing.{read-list, unfaulted}
use Rattle.ts_crl.proofs.owned.check.Goals as goal

pub returns-in_err-endings_of : goal.returns-in_err-endings_of
returns-in_err-endings_of c =
    let read = was-read c.first_extensions.result c.args.octets.now (located_list_in c.in-Ok.crl)
    (λ i. omega (arith, c.type_inv.octets i)) c.in-Ok.ensures (sym c.in_default.ensures) c.first_extensions.ensures in
    out-of-memory c.args.octets.now c.from_residual.result c.from_residual.ensures.1 (unfaulted c.first_extensions.result c.args.octets.now read)

pub returns : goal.returns
returns c =
    let read = was-read c.first_extensions.result c.args.octets.now (located_list_in c.in-Ok.crl)
    (λ i. omega (arith, c.type_inv.octets i)) c.in-Ok.ensures (sym c.in_default.ensures) c.first_extensions.ensures in
    let is = read-list c.first_extensions.result c.args.octets.now read in
    let D : CertificateList → Type 0 = λ list. IsDigestOf c.digest_of.result list.tbs in
    let E : CertificateList → Type 0 = λ list. AreListed c.in_ok-endings_of.field-0.sorted.items (entries_of list) in
    let endings = subst (λ (o : Option (List RevokedCertificate)). AreListed c.in_ok-endings_of.field-0.sorted.items (unwrap_or o []))
    (seen-twice revoked_in (map unlocated_entry) c.in-Ok.crl.revoked) c.in_ok-endings_of.ensures in
    (read, subst D (sym is) c.digest_of.ensures, subst E (sym is) endings)
