-- The second line of a report: what the finding means.
use Rattle.std.specs.Prelude.{◌≡◌, ◌≤◌, ◌<◌, ◌-◌, ℕ, Bool, true, false, List, ◌++◌}
use Rattle.std.specs.Prelude.{length, codes}
use Rattle.std.specs.Prelude.{Option, Some, None, slice_index_or}
use Rattle.std.specs.Fmt.{decimal}
use Rattle.ts_cert.specs.Certificate.{Certificate}
use Rattle.ts_cert.specs.CertView.{cert_in}
use Rattle.ts_cert.specs.declared.certificate.Cert.{Cert}
use Rattle.ts_name.specs.NameView.{rdns_in}
use Rattle.ts_line.specs.Names.{name_text}
use Rattle.ts_der.specs.declared.oid.OidRef.{OidRef}
use Rattle.ts_name.specs.Sameness.{canon_name}
use Rattle.ts_reason.specs.declared.reason.Reason.{Reason}
use Rattle.ts_reason.specs.declared.reason.Reason.TheVariants.{Signature, IssuerName}
use Rattle.ts_explain.specs.Lines.{IsReasonLine, certificate_words, no_anchor_words}
use Rattle.ts_verify.specs.declared.report.Finding.{Finding}
use Rattle.ts_verify.specs.declared.report.Finding.TheVariants.{Valid, Invalid, OtherHost}
use Rattle.ts_verify.specs.declared.report.Report.{Report}

-- the place of the certificate that is not good in a chain of this length, counted from 1
abbrev pub place_in : ℕ → Finding → Option ℕ
place_in count (Valid policies) = None
place_in count (Invalid position reason) = Some position
place_in count OtherHost = Some count

-- what is so of the certificate at a place of a chain, if there is one
abbrev pub AtPlace : List Cert → ℕ → (Certificate → Type 0) → Type 0
AtPlace chain place Is = place - 1 < length chain
    → (other : Cert) → Is (cert_in (slice_index_or chain (place - 1) other))

-- whether revocation was looked at
abbrev pub lists_words : Bool → List ℕ
lists_words true = codes "; no CRL at hand says that one is revoked"
lists_words false = codes "; revocation was not looked at, no CRL was given"

-- of a chain that is valid: how many certificates it has, under which trust anchor
abbrev pub valid_words : Report → List ℕ
valid_words r = codes "a chain of " ++ (decimal (length r.chain.items)
    ++ (codes " under the trust anchor " ++ (name_text (rdns_in r.anchor.name)
    ++ lists_words r.has_lists)))

-- the reasons that say that a certificate was not issued by the one above it
abbrev pub is_of_issuer : {O : Type 0} → Reason O → Bool
is_of_issuer Signature = true
is_of_issuer IssuerName = true
is_of_issuer reason = false

-- the issuer of the first certificate is no trust anchor: it is refused for such a reason, and its
-- issuer hasn't the name of the anchor that was taken (RFC 5280 7.1)
abbrev pub IsUnderNoAnchor : Report → ℕ → Reason OidRef → Certificate → Type 0
IsUnderNoAnchor r place reason c = (place ≡ 1) × (is_of_issuer reason ≡ true)
    × ¬ (canon_name c.tbsCertificate.issuer ≡ canon_name (rdns_in r.anchor.name))

-- of a certificate that does not meet a condition: that its issuer is no trust anchor, if that is
-- so; which condition, if not
pub record IsInvalidLine (r : Report) (place : ℕ) (reason : Reason OidRef) (line : List ℕ)
    (c : Certificate) : Type 0 where
  pub no_anchor : IsUnderNoAnchor r place reason c
      → line ≡ certificate_words place (length r.chain.items) c ++ no_anchor_words c
  pub condition : ¬ (IsUnderNoAnchor r place reason c)
      → IsReasonLine place (length r.chain.items) c reason line

-- of a leaf that is for another host (RFC 9525 6)
abbrev pub host_words : ℕ → Certificate → List ℕ
host_words count c = certificate_words count count c
    ++ codes "has no name of this host in its subjectAltName (RFC 9525 6)"

-- ---- by the finding

abbrev pub Explains : Report → Finding → List ℕ → Type 0
Explains r (Valid policies) line = line ≡ valid_words r
Explains r (Invalid place reason) line =
    AtPlace r.chain.items place (IsInvalidLine r place reason line)
Explains r OtherHost line = AtPlace r.chain.items (length r.chain.items)
    (λ c. line ≡ host_words (length r.chain.items) c)

-- the subject of the certificate at a place
abbrev pub IsSubject : Report → Option ℕ → Option (List ℕ) → Type 0
IsSubject r None subject = subject ≡ None
IsSubject r (Some place) None = length r.chain.items ≤ place - 1
IsSubject r (Some place) (Some subject) = (place - 1 < length r.chain.items)
    × AtPlace r.chain.items place (λ c. subject ≡ name_text c.tbsCertificate.subject)
