-- Lines on a certificate of a chain.
use Rattle.std.specs.Prelude.{◌≡◌, ℕ, List, ◌++◌, codes}
use Rattle.std.specs.Fmt.{decimal}
use Rattle.ts_der.specs.declared.oid.OidRef.{OidRef}
use Rattle.ts_reason.specs.declared.reason.Reason.{Reason}
use Rattle.ts_cert.specs.Certificate.{Certificate}
use Rattle.ts_line.specs.Lines.{printable}
use Rattle.ts_line.specs.Names.{name_text}
use Rattle.ts_explain.specs.Sections.{section}
use Rattle.ts_explain.specs.Why.{IsWhy}

-- what such a line begins with: the place of the certificate, of how many, and its subject
abbrev pub certificate_words : ℕ → ℕ → Certificate → List ℕ
certificate_words place count c = codes "certificate " ++ (decimal place ++ (codes " of "
    ++ (decimal count ++ (codes ", " ++ (name_text c.tbsCertificate.subject ++ codes ", ")))))

-- the section that has the condition, in brackets
abbrev pub section_words : {O : Type 0} → Reason O → List ℕ
section_words reason = codes " (RFC " ++ (section reason ++ codes ")")

-- what the line begins with, why the certificate is not good, and the section of the reason
pub record IsReasonLine (place count : ℕ) (c : Certificate) (reason : Reason OidRef)
    (line : List ℕ) : Type 0 where
  pub words : List ℕ
  pub why : IsWhy c reason words
  pub line_is : line
      ≡ certificate_words place count c ++ (words ++ printable (section_words reason))

-- that no trust anchor has the name of the issuer
abbrev pub no_anchor_words : Certificate → List ℕ
no_anchor_words c = codes "has the issuer " ++ (name_text c.tbsCertificate.issuer
    ++ codes ", which is no trust anchor (RFC 5280 6.1.3 (a)(1), (a)(4))")
