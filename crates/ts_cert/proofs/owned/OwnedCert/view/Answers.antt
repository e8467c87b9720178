use Rattle.std.proofs.Common.{◌≡◌, ℕ, List, subst, sym, ap, ◌∙◌}
use Rattle.ts_cert.specs.CertView.{certificate_in}
use Rattle.ts_cert.specs.Layout.{AreLaidOut}
use Rattle.ts_cert.specs.Reading.{certificate_of}
use Rattle.ts_cert.specs.Encoding.{IsCertificate}
use Rattle.ts_cert.proofs.Held.{is-read, is-certificate}
use Rattle.ts_cert.proofs.owned.OwnedCert.view.Goals as goal

pub invariant_of-result : goal.invariant_of-result
invariant_of-result c = record { laid = ∣ subst (λ (o : List ℕ). AreLaidOut o c.self.inside.layout) (sym c.as_slice.ensures) c.self.invariant ∣₁ }

pub returns-clause-found : goal.returns-clause-found
returns-clause-found c =
    let borrowed : c.args.self.now ≡ c.as_slice.result.now = sym (c.as_slice.ensures ∙ c.self.view_is) in
    let laid = subst (λ (o : List ℕ). AreLaidOut o c.self.inside.layout) (sym c.as_slice.ensures) c.self.invariant in
    subst (λ (o : List ℕ). IsCertificate o (certificate_in c.as_slice.result.now)) (sym borrowed) (is-certificate c.as_slice.result.now c.self.inside.layout laid)

pub returns-clause-exact : goal.returns-clause-exact
returns-clause-exact c =
    let borrowed : c.args.self.now ≡ c.as_slice.result.now = sym (c.as_slice.ensures ∙ c.self.view_is) in
    let laid = subst (λ (o : List ℕ). AreLaidOut o c.self.inside.layout) (sym c.as_slice.ensures) c.self.invariant in
    ap certificate_of borrowed ∙ is-read c.as_slice.result.now c.self.inside.layout laid
