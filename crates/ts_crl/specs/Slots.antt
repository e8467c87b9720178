-- The slot of a list (RFC 5280 6.3.3 (c)): its issuer, its issuing distribution point and its
-- authority key identifier.
use Rattle.std.specs.Prelude.{ℕ, ◌&&◌, Bool, true, false, List, Option, Some, None, option_map}
use Rattle.std.specs.List.{find}
use Rattle.std.specs.Str.{bytes_eq}
use Rattle.ts_name.specs.Sameness.{is_same_name}
use Rattle.ts_ext.specs.declared.known.Known.{Known}
use Rattle.ts_ext.specs.declared.known.Known.TheVariants.{IssuingDistributionPoint}
use Rattle.ts_ext.specs.declared.known.Known.TheVariants.{AuthorityKeyIdentifier}
use Rattle.ts_crl.specs.List.{CertificateList}
use Rattle.ts_crl.specs.Values.{is_known, list_extensions}

-- the octets of an extension's value, where the extension is there
abbrev pub value_octets : Known → CertificateList → Option (List ℕ)
value_octets known l = option_map (λ x. x.extnValue) (find (is_known known) (list_extensions l))

-- both absent, or both there and equal
abbrev pub is_same_value : Option (List ℕ) → Option (List ℕ) → Bool
is_same_value None None = true
is_same_value (Some a) (Some b) = bytes_eq a b
is_same_value a b = false

-- the issuing distribution points are the same, or both lists have none, and so are the authority
-- key identifiers
abbrev pub have_same_values : CertificateList → CertificateList → Bool
have_same_values l other =
    is_same_value (value_octets IssuingDistributionPoint l)
    (value_octets IssuingDistributionPoint other)
    && is_same_value (value_octets AuthorityKeyIdentifier l)
    (value_octets AuthorityKeyIdentifier other)

-- one slot: the issuers are the same, and so are these (6.3.3 (c))
unfoldable pub is_same_slot : CertificateList → CertificateList → Bool
is_same_slot l other = is_same_name l.tbsCertList.issuer other.tbsCertList.issuer
    && have_same_values l other
