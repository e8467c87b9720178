-- What is reported: the verdict on a chain, and whether its leaf is for the host that is asked.
use Rattle.std.specs.Prelude.{◌≡◌, ◌||◌, ◌==◌, Bool, not, List, [], ◌∷◌, map, length}
use Rattle.std.specs.Prelude.{Option, Some, None, slice_get}
use Rattle.ts_ext.specs.GeneralNames.{general_names_of}
use Rattle.ts_ext.specs.declared.known.Known.TheVariants.{SubjectAltName}
use Rattle.ts_cert.specs.Certificate.{Certificate}
use Rattle.ts_cert.specs.CertView.{cert_in}
use Rattle.ts_cert.specs.Stated.{stated_value}
use Rattle.ts_verify.specs.Hosts.{IsFor}
use Rattle.ts_verify.specs.declared.host.Host.{Host}
use Rattle.ts_path.specs.Asked.{TrustAnchor, ValidationInputs}
use Rattle.ts_path.specs.View.{anchor_in}
use Rattle.ts_path.specs.declared.verdict.Verdict.{Verdict}
use Rattle.ts_path.specs.declared.verdict.Verdict.TheVariants as verdict
use Rattle.ts_search.specs.Search.{Search}
use Rattle.ts_verify.specs.declared.report.Finding.{Finding}
use Rattle.ts_verify.specs.declared.report.Finding.TheVariants.{Valid, Invalid, OtherHost}
use Rattle.ts_verify.specs.declared.report.Report.{Report}
use Rattle.ts_verify.specs.Leaf.{IsLeafFirst}
use Rattle.ts_verify.specs.Judged.{IsJudged}

-- a certificate is for the host, if one is asked for (RFC 9525 6)
abbrev pub IsForAsked : Option Host → Certificate → Type 0
IsForAsked None leaf = Unit {0}
IsForAsked (Some host) leaf =
    IsFor host (stated_value SubjectAltName general_names_of leaf.tbsCertificate)

-- the first of the certificates, the leaf, is for the host
abbrev pub IsLeafFor : Option Host → List Certificate → Type 0
IsLeafFor host [] = ⊥
IsLeafFor host (leaf ∷ pool) = IsForAsked host leaf

-- the finding says the verdict; a valid chain whose leaf is for another host is not good
abbrev pub Says : Option Host → List Certificate → Verdict → Finding → Type 0
Says host certificates (verdict.Valid policies) (Valid accepted) =
    (policies ≡ accepted) × IsLeafFor host certificates
Says host certificates (verdict.Valid policies) OtherHost = ¬ (IsLeafFor host certificates)
Says host certificates (verdict.Invalid position reason) (Invalid place why) =
    (position ≡ place) × (reason ≡ why)
Says host certificates verdict finding = ⊥

-- the search among certificates of which the leaf is the first
abbrev pub search_with : List TrustAnchor → (TrustAnchor → ValidationInputs) → List Certificate
    → Search
search_with anchors asked certificates =
    record { certificates = certificates; anchors = anchors; asked = asked }

-- a CRL is at hand
abbrev pub has_any : ValidationInputs → Bool
has_any asked = not (length asked.lists == 0) || not (length asked.deltas == 0)

-- the report on certificates of which the leaf is the first, by the search among them: the verdict,
-- the anchor at this place, and whether a CRL is at hand
pub record IsReportOn (search : Search) (host : Option Host) (report : Report) : Type 0 where
  pub verdict : Verdict
  pub judged : IsJudged search report.anchor_place (map cert_in report.chain.items) verdict
  pub says : Says host search.certificates verdict report.finding
  pub anchor_is : slice_get search.anchors report.anchor_place ≡ Some (anchor_in report.anchor)
  pub lists_are : (anchor : TrustAnchor) → report.has_lists ≡ has_any (search.asked anchor)

-- the report on certificates in any order
pub record IsReport (search : List Certificate → Search) (certificates : List Certificate)
    (host : Option Host) (report : Report) : Type 0 where
  pub ordered : List Certificate
  pub leaf_first : IsLeafFirst certificates ordered
  pub report_is : IsReportOn (search ordered) host report
