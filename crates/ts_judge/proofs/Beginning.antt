-- What is so of the certificate at a place of a chain.
use Rattle.std.proofs.Common.{◌≡◌, ◌-◌, ◌∙◌, ℕ, List, ap, slice_index_or, subst}
use Rattle.ts_cert.specs.Certificate.{Certificate}
use Rattle.ts_cert.specs.CertView.{cert_in}
use Rattle.ts_cert.specs.declared.certificate.Cert.{Cert}
use Rattle.ts_judge.specs.Explained.{AtPlace}

-- the certificate that was found at an index
pub at_place : (chain xs : List Cert) (i place : ℕ) (cert : Cert) (Is : Certificate → Type 0)
    → xs ≡ chain → i ≡ place - 1
    → ((other : Cert) → cert ≡ slice_index_or xs i other)
    → Is (cert_in cert)
    → AtPlace chain place Is
at_place chain xs i place cert Is are at found is below other =
    subst (λ (c : Cert). Is (cert_in c))
    (found other
    ∙ (ap (λ (ys : List Cert). slice_index_or ys i other) are ∙ ap (λ (j : ℕ). slice_index_or chain j other) at))
    is
