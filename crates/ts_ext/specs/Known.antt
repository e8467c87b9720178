-- The extensions that are read here (RFC 5280 4.2.1, 5.2, 5.3): their object identifiers, and where
-- each may stand.
use Rattle.std.specs.Prelude.{ℕ, ◌==◌, ◌&&◌, List, [], ◌∷◌, Option, None, if◌then◌else◌}
use Rattle.std.specs.List.{find}
use Rattle.ts_ext.specs.declared.known.Holder.{Holder}
use Rattle.ts_ext.specs.declared.known.Holder.TheVariants.{Certificate, List as ListHolder, Entry}
use Rattle.ts_ext.specs.declared.known.Known.{Known}
use Rattle.ts_ext.specs.declared.known.Known.TheVariants.{SubjectKeyIdentifier, KeyUsage}
use Rattle.ts_ext.specs.declared.known.Known.TheVariants.{SubjectAltName, IssuerAltName}
use Rattle.ts_ext.specs.declared.known.Known.TheVariants.{BasicConstraints, CrlNumber, ReasonCode}
use Rattle.ts_ext.specs.declared.known.Known.TheVariants.{InvalidityDate, DeltaCrlIndicator}
use Rattle.ts_ext.specs.declared.known.Known.TheVariants.{IssuingDistributionPoint}
use Rattle.ts_ext.specs.declared.known.Known.TheVariants.{CertificateIssuer, NameConstraints}
use Rattle.ts_ext.specs.declared.known.Known.TheVariants.{CrlDistributionPoints}
use Rattle.ts_ext.specs.declared.known.Known.TheVariants.{CertificatePolicies, PolicyMappings}
use Rattle.ts_ext.specs.declared.known.Known.TheVariants.{AuthorityKeyIdentifier, PolicyConstraints}
use Rattle.ts_ext.specs.declared.known.Known.TheVariants.{ExtendedKeyUsage, FreshestCrl}
use Rattle.ts_ext.specs.declared.known.Known.TheVariants.{InhibitAnyPolicy}

-- the last arcs of their object identifiers
abbrev pub arc_of : Known → ℕ
arc_of SubjectKeyIdentifier = 14
arc_of KeyUsage = 15
arc_of SubjectAltName = 17
arc_of IssuerAltName = 18
arc_of BasicConstraints = 19
arc_of CrlNumber = 20
arc_of ReasonCode = 21
arc_of InvalidityDate = 24
arc_of DeltaCrlIndicator = 27
arc_of IssuingDistributionPoint = 28
arc_of CertificateIssuer = 29
arc_of NameConstraints = 30
arc_of CrlDistributionPoints = 31
arc_of CertificatePolicies = 32
arc_of PolicyMappings = 33
arc_of AuthorityKeyIdentifier = 35
arc_of PolicyConstraints = 36
arc_of ExtendedKeyUsage = 37
arc_of FreshestCrl = 46
arc_of InhibitAnyPolicy = 54

-- those of a certificate (4.2.1)
abbrev pub of_certificates : List Known
of_certificates =
    SubjectKeyIdentifier ∷ KeyUsage ∷ SubjectAltName ∷ IssuerAltName ∷ BasicConstraints
    ∷ NameConstraints ∷ CrlDistributionPoints
    ∷ CertificatePolicies ∷ PolicyMappings ∷ AuthorityKeyIdentifier ∷ PolicyConstraints
    ∷ ExtendedKeyUsage ∷ FreshestCrl ∷ InhibitAnyPolicy ∷ []

-- those of a list (5.2)
abbrev pub of_lists : List Known
of_lists = IssuerAltName ∷ CrlNumber ∷ DeltaCrlIndicator ∷ IssuingDistributionPoint
    ∷ AuthorityKeyIdentifier ∷ FreshestCrl ∷ []

-- those of an entry of a list (5.3)
abbrev pub of_entries : List Known
of_entries = ReasonCode ∷ InvalidityDate ∷ CertificateIssuer ∷ []

-- the one of some extensions that has this arc, if one has it
abbrev pub with_arc : List Known → ℕ → Option Known
with_arc extensions arc = find (λ k. arc_of k == arc) extensions

unfoldable pub certificate_extension : ℕ → Option Known
certificate_extension = with_arc of_certificates

unfoldable pub list_extension : ℕ → Option Known
list_extension = with_arc of_lists

unfoldable pub entry_extension : ℕ → Option Known
entry_extension = with_arc of_entries

abbrev pub extension_of : Holder → ℕ → Option Known
extension_of Certificate arc = certificate_extension arc
extension_of ListHolder arc = list_extension arc
extension_of Entry arc = entry_extension arc

-- the extension that an object identifier names in a holder: id-ce is 2.5.29, whose content octets
-- are 55 1D
unfoldable pub known_at : Holder → List ℕ → Option Known
known_at holder (joint ∷ ce ∷ arc ∷ []) =
    if joint == 0x55 && ce == 0x1D then extension_of holder arc else None
known_at holder octets = None

-- the content octets of its object identifier
abbrev pub identifier_of : Known → List ℕ
identifier_of known = 0x55 ∷ 0x1D ∷ arc_of known ∷ []
