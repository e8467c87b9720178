use Rattle.std.proofs.Common.{ℕ, List, Result, Ok, subst, sym, ap, ◌≡◌, ◌∙◌}
use Rattle.std.specs.Result.{result_unwrap_or}
use Rattle.ts_digest.specs.Message.{IsDigestOf}
use Rattle.ts_crl.specs.Entries.{entries_of}
use Rattle.ts_crl.specs.inside.Endings.{AreListed}
use Rattle.ts_crl.specs.Fault.{ListFault}
use Rattle.ts_crl.specs.List.{CertificateList, unlocated_list}
use Rattle.ts_crl.specs.ListView.{located_list_in, crl_in}
use Rattle.ts_crl.specs.OwnedView.{list_of, no_list}
use Rattle.ts_crl.specs.Encoding.{IsCertificateList}
use Rattle.ts_crl.specs.Table.{crl_of}
use Rattle.ts_crl.proofs.Crls.{crl-found}
use Rattle.ts_crl.proofs.Borrowing.{borrowed-is, never-borrowed}
use Rattle.ts_crl.proofs.owned.OwnedCrl.view.Goals as goal

pub unreachable-requires : goal.unreachable-requires
unreachable-requires c =
    never-borrowed c.self.inside.first c.self.inside.octets c.as_slice.result.now c.in-Err.field-0 c.as_slice.ensures c.self.invariant.0 c.in-Err.ensures

pub with_kept-requires-clause-digest : goal.with_kept-requires-clause-digest
with_kept-requires-clause-digest c =
    let octets = c.self.inside.octets in
    let read = borrowed-is c.self.inside.first octets c.as_slice.result.now c.as_slice.ensures c.self.invariant.0 (located_list_in c.in-Ok.crl) c.in-Ok.ensures in
    let is : list_of octets ≡ crl_in c.in-Ok.crl = ap (λ (r : Result CertificateList ListFault). result_unwrap_or r no_list) read in
    subst (λ (l : CertificateList). IsDigestOf c.self.inside.digest l.tbs) is c.self.invariant.1

pub with_kept-requires-clause-endings : goal.with_kept-requires-clause-endings
with_kept-requires-clause-endings c =
    let octets = c.self.inside.octets in
    let read = borrowed-is c.self.inside.first octets c.as_slice.result.now c.as_slice.ensures c.self.invariant.0 (located_list_in c.in-Ok.crl) c.in-Ok.ensures in
    let is : list_of octets ≡ crl_in c.in-Ok.crl = ap (λ (r : Result CertificateList ListFault). result_unwrap_or r no_list) read in
    subst (λ (l : CertificateList). AreListed c.self.inside.endings.sorted.items (entries_of l)) is c.self.invariant.2

pub returns-clause-found : goal.returns-clause-found
returns-clause-found c =
    let octets = c.self.inside.octets in
    let read = borrowed-is c.self.inside.first octets c.as_slice.result.now c.as_slice.ensures c.self.invariant.0 (located_list_in c.in-Ok.crl) c.in-Ok.ensures in
    let same : crl_in c.with_kept.result ≡ crl_in c.in-Ok.crl = ap unlocated_list c.with_kept.ensures in
    subst (λ (l : CertificateList). IsCertificateList c.args.self.now l) (sym same)
    (subst (λ (o : List ℕ). IsCertificateList o (crl_in c.in-Ok.crl)) c.self.view_is (crl-found octets (crl_in c.in-Ok.crl) c.self.invariant.0.are_octets read))

pub returns-clause-exact : goal.returns-clause-exact
returns-clause-exact c =
    let same : crl_in c.with_kept.result ≡ crl_in c.in-Ok.crl = ap unlocated_list c.with_kept.ensures in
    let read_as : CertificateList → Result CertificateList ListFault = λ l. Ok l in
    ap crl_of (sym c.self.view_is)
    ∙ borrowed-is c.self.inside.first c.self.inside.octets c.as_slice.result.now c.as_slice.ensures c.self.invariant.0 (located_list_in c.in-Ok.crl) c.in-Ok.ensures
    ∙ ap read_as (sym same)

pub returns-clause-same : goal.returns-clause-same
returns-clause-same c = sym (ap (λ (r : Result CertificateList ListFault). result_unwrap_or r no_list) (returns-clause-exact c))
