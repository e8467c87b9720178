-- Rules of this profile, which have no place: a list has a nextUpdate, is for certificates of its
-- issuer, and has a number if it is a delta (RFC 5280 5.1.2.5, 5.2, 5.3).
use Rattle.std.specs.Prelude.{ℕ, ◌&&◌, ◌||◌, not, Bool, true, false, List, [], ◌∷◌, Option, Some}
use Rattle.std.specs.Prelude.{None, is_none, option_map, if◌then◌else◌}
use Rattle.std.specs.List.{find, list_any}
use Rattle.ts_shape.specs.Shape.{◌or_else◌}
use Rattle.ts_ext.specs.declared.known.Holder.{Holder}
use Rattle.ts_ext.specs.declared.known.Holder.TheVariants.{List as ListHolder, Entry}
use Rattle.ts_ext.specs.declared.known.Known.TheVariants.{CrlNumber, DeltaCrlIndicator}
use Rattle.ts_ext.specs.declared.known.Known.TheVariants.{IssuingDistributionPoint}
use Rattle.ts_ext.specs.declared.known.Known.TheVariants.{CertificateIssuer}
use Rattle.ts_ext.specs.Ext.{ExtValue, issuingDistributionPoint}
use Rattle.ts_extensions.specs.Extension.{Extension}
use Rattle.ts_ext.specs.Known.{known_at}
use Rattle.ts_ext.specs.Points.{PointName, nameRelativeToCRLIssuer, ListScope}
use Rattle.ts_crl.specs.Entries.{entries_of}
use Rattle.ts_crl.specs.Fault.{ListFault, noNextUpdate, criticalCrlExtension, deltaCrl, indirect}
use Rattle.ts_crl.specs.Fault.{relativeName}
use Rattle.ts_crl.specs.List.{RevokedCertificate, CertificateList}
use Rattle.ts_crl.specs.Values.{is_known, list_extensions, entry_extensions_of, value_among}

-- ---- critical extensions

-- an extension is critical, and not one of those that are processed where it is
abbrev pub is_unprocessed : Holder → Extension → Bool
is_unprocessed holder x = x.critical && is_none (known_at holder x.extnID)

-- the object identifier of the first such extension
abbrev pub unprocessed_in : Holder → List Extension → Option (List ℕ)
unprocessed_in holder xs = option_map (λ x. x.extnID) (find (is_unprocessed holder) xs)

abbrev pub unprocessed_of_entries : List RevokedCertificate → Option (List ℕ)
unprocessed_of_entries [] = None
unprocessed_of_entries (e ∷ es) =
    unprocessed_in Entry (entry_extensions_of e) or_else unprocessed_of_entries es

-- of the list first, then of its entries (5.2, 5.3)
abbrev pub first_unprocessed : CertificateList → Option (List ℕ)
first_unprocessed c = unprocessed_in ListHolder (list_extensions c) or_else unprocessed_of_entries
    (entries_of c)

-- ---- the scope

-- what the list covers, where it says so (5.2.5)
abbrev pub as_scope : Option ExtValue → Option ListScope
as_scope (Some (issuingDistributionPoint p)) = Some p
as_scope other = None

abbrev pub scope_of : CertificateList → Option ListScope
scope_of c = as_scope (value_among ListHolder IssuingDistributionPoint (list_extensions c))

abbrev pub is_relative_name : Option PointName → Bool
is_relative_name (Some (nameRelativeToCRLIssuer rdn)) = true
is_relative_name other = false

-- whether a scope that is stated meets a test
abbrev pub scope_meets : (ListScope → Bool) → Option ListScope → Bool
scope_meets test None = false
scope_meets test (Some p) = test p

-- ---- the first rule that is broken

-- whether an entry names another issuer (5.3.3)
abbrev pub names_issuer : RevokedCertificate → Bool
names_issuer e = list_any (is_known CertificateIssuer) (entry_extensions_of e)

-- the list, or an entry of it, is for certificates of other issuers
abbrev pub is_indirect : CertificateList → Bool
is_indirect c = scope_meets (λ p. p.indirectCRL) (scope_of c)
    || list_any names_issuer (entries_of c)

abbrev pub is_relative : CertificateList → Bool
is_relative c = scope_meets (λ p. is_relative_name p.distributionPoint) (scope_of c)

-- the list is a delta: it states what has changed since the list of its base number (5.2.4)
abbrev pub is_delta : CertificateList → Bool
is_delta c = list_any (is_known DeltaCrlIndicator) (list_extensions c)

-- the list has a number (5.2.3)
abbrev pub has_number : CertificateList → Bool
has_number c = list_any (is_known CrlNumber) (list_extensions c)

abbrev pub profile_fault : CertificateList → Option ListFault
profile_fault c =
    (if is_none c.tbsCertList.nextUpdate then Some noNextUpdate else None)
    or_else option_map (λ oid. criticalCrlExtension oid) (first_unprocessed c)
    or_else (if is_indirect c then Some indirect else None)
    or_else (if is_relative c then Some relativeName else None)
    or_else (if is_delta c && not (has_number c) then Some deltaCrl else None)
