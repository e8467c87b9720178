-- The values of the extensions of a list and of its entries, by their object identifiers (RFC 5280
-- 5.2, 5.3).
use Rattle.std.specs.Prelude.{ℕ, ℤ, Bool, List, [], Option, Some, None, unwrap_or, option_map}
use Rattle.std.specs.Prelude.{Result, Ok, Err}
use Rattle.std.specs.List.{find}
use Rattle.std.specs.Str.{bytes_eq}
use Rattle.ts_der.specs.Element.{encoded_at}
use Rattle.ts_ext.specs.declared.known.Holder.{Holder}
use Rattle.ts_ext.specs.declared.known.Holder.TheVariants.{List as ListHolder, Entry}
use Rattle.ts_ext.specs.declared.known.Known.{Known}
use Rattle.ts_ext.specs.declared.known.Known.TheVariants.{CrlNumber, DeltaCrlIndicator}
use Rattle.ts_ext.specs.declared.known.Known.TheVariants.{AuthorityKeyIdentifier}
use Rattle.ts_ext.specs.declared.known.Known.TheVariants.{ReasonCode as ReasonExtension}
use Rattle.ts_ext.specs.declared.known.Known.TheVariants.{InvalidityDate}
use Rattle.ts_ext.specs.declared.reason_code.ReasonCode.{ReasonCode}
use Rattle.ts_ext.specs.AuthorityKey.{AuthorityKey}
use Rattle.ts_ext.specs.Ext.{ExtValue, cRLNumber, authorityKeyIdentifier, reasonCode}
use Rattle.ts_ext.specs.Ext.{invalidityDate, ext_of}
use Rattle.ts_extensions.specs.Extension.{Extension, Located}
use Rattle.ts_ext.specs.Known.{known_at, identifier_of}
use Rattle.ts_crl.specs.List.{RevokedCertificate, CertificateList}

-- whether an extension is this one
abbrev pub is_known : Known → Extension → Bool
is_known known x = bytes_eq x.extnID (identifier_of known)

-- the extensions of a list, and of an entry, none where they are absent
abbrev pub list_extensions : CertificateList → List Extension
list_extensions c = unwrap_or c.tbsCertList.crlExtensions []

abbrev pub entry_extensions_of : RevokedCertificate → List Extension
entry_extensions_of e = unwrap_or e.crlEntryExtensions []

abbrev pub ok_of : {A E : Type 0} → Result A E → Option A
ok_of (Ok x) = Some x
ok_of (Err e) = None

-- what octets are as the value of an extension, if they are one
unfoldable pub value_in_octets : Option Known → List ℕ → Option ExtValue
value_in_octets known octets = ok_of (ext_of known (encoded_at 0 0x04 octets))

abbrev pub value_if_any : Holder → Option Extension → Option ExtValue
value_if_any holder None = None
value_if_any holder (Some x) = value_in_octets (known_at holder x.extnID) x.extnValue

-- the value of the first extension that is this one
abbrev pub value_among : Holder → Known → List Extension → Option ExtValue
value_among holder known xs = value_if_any holder (find (is_known known) xs)

-- ---- values of a list

-- cRLNumber (5.2.3)
abbrev pub as_number : Option ExtValue → Option (List ℕ)
as_number (Some (cRLNumber n)) = Some n
as_number other = None

abbrev pub crl_number : CertificateList → Option (List ℕ)
crl_number c = as_number (value_among ListHolder CrlNumber (list_extensions c))

-- an extension with its value as that of cRLNumber
abbrev pub with_number : Extension → Extension
with_number x = record x { extnID = identifier_of CrlNumber }

abbrev pub located_with_number : Located → Located
located_with_number x = record x { extnID = identifier_of CrlNumber }

-- deltaCRLIndicator (5.2.4): BaseCRLNumber ::= CRLNumber, the number of the list that a delta
-- states the changes of
abbrev pub base_number : CertificateList → Option (List ℕ)
base_number c = as_number (value_if_any ListHolder
    (option_map with_number (find (is_known DeltaCrlIndicator) (list_extensions c))))

-- authorityKeyIdentifier (5.2.1)
abbrev pub as_key : Option ExtValue → Option AuthorityKey
as_key (Some (authorityKeyIdentifier k)) = Some k
as_key other = None

abbrev pub key_of : CertificateList → Option AuthorityKey
key_of c = as_key (value_among ListHolder AuthorityKeyIdentifier (list_extensions c))

-- ---- values of an entry

-- reasonCode (5.3.1)
abbrev pub as_reason : Option ExtValue → Option ReasonCode
as_reason (Some (reasonCode r)) = Some r
as_reason other = None

abbrev pub reason_of : RevokedCertificate → Option ReasonCode
reason_of e = as_reason (value_among Entry ReasonExtension (entry_extensions_of e))

-- invalidityDate (5.3.2)
abbrev pub as_date : Option ExtValue → Option ℤ
as_date (Some (invalidityDate d)) = Some d
as_date other = None

abbrev pub date_of : RevokedCertificate → Option ℤ
date_of e = as_date (value_among Entry InvalidityDate (entry_extensions_of e))
