-- The names that a certificate shows (RFC 5280 4.2.1.6, 4.2.1.10), in order, and the forms of
-- names.
use Rattle.std.specs.Prelude.{ℕ, ◌==◌, Bool, true, false, List, [], ◌∷◌, ◌++◌, map, filter, Option}
use Rattle.std.specs.Prelude.{Some, None}
use Rattle.std.specs.List.{flat_map}
use Rattle.std.specs.Str.{bytes_eq}
use Rattle.ts_name.specs.Canon.{Attr}
use Rattle.ts_name.specs.General.{GeneralName, otherName, rfc822Name, dNSName, x400Address}
use Rattle.ts_name.specs.General.{directoryName, ediPartyName, uniformResourceIdentifier, iPAddress}
use Rattle.ts_name.specs.General.{registeredID}
use Rattle.ts_ext.specs.declared.known.Known.TheVariants.{SubjectAltName}
use Rattle.ts_ext.specs.GeneralNames.{general_names_of}
use Rattle.ts_cert.specs.Certificate.{Tbs}
use Rattle.ts_cert.specs.Stated.{stated_value}
use Rattle.ts_constraint.specs.declared.form.Form.{Form}
use Rattle.ts_constraint.specs.declared.form.Form.TheVariants.{OtherName, Rfc822Name, DnsName}
use Rattle.ts_constraint.specs.declared.form.Form.TheVariants.{X400Address, DirectoryName}
use Rattle.ts_constraint.specs.declared.form.Form.TheVariants.{EdiPartyName}
use Rattle.ts_constraint.specs.declared.form.Form.TheVariants.{UniformResourceIdentifier, IpAddress}
use Rattle.ts_constraint.specs.declared.form.Form.TheVariants.{RegisteredId}

-- the form of a name, one of nine (4.2.1.6)
abbrev pub form_of : GeneralName → Form
form_of (otherName octets) = OtherName
form_of (rfc822Name text) = Rfc822Name
form_of (dNSName text) = DnsName
form_of (x400Address octets) = X400Address
form_of (directoryName rdns) = DirectoryName
form_of (ediPartyName octets) = EdiPartyName
form_of (uniformResourceIdentifier text) = UniformResourceIdentifier
form_of (iPAddress octets) = IpAddress
form_of (registeredID oid) = RegisteredId

-- the forms whose constraints this profile processes
abbrev pub is_processed_form : Form → Bool
is_processed_form DirectoryName = true
is_processed_form DnsName = true
is_processed_form IpAddress = true
is_processed_form form = false

-- emailAddress, 1.2.840.113549.1.9.1, as the content of an OBJECT IDENTIFIER
abbrev pub email_address : List ℕ
email_address = 0x2A ∷ 0x86 ∷ 0x48 ∷ 0x86 ∷ 0xF7 ∷ 0x0D ∷ 0x01 ∷ 0x09 ∷ 0x01 ∷ []

-- the mail addresses in a distinguished name, in order (4.1.2.6)
abbrev pub addresses_of : List Attr → List GeneralName
addresses_of attributes = map (λ a. rfc822Name a.value)
    (filter (λ a. bytes_eq a.kind email_address) attributes)

-- a subject counts as a directory name unless it is empty
abbrev pub subject_names : List (List Attr) → List GeneralName
subject_names [] = []
subject_names (rdn ∷ rdns) = directoryName (rdn ∷ rdns) ∷ []

-- mail addresses in the subject count where there is no subjectAltName
abbrev pub alternatives : List (List Attr) → Option (List GeneralName) → List GeneralName
alternatives subject None = addresses_of (flat_map (λ rdn. rdn) subject)
alternatives subject (Some names) = names

-- the names that a certificate shows: its subject, the mail addresses there, and the names of
-- subjectAltName
abbrev pub names_of : Tbs → List GeneralName
names_of t = subject_names t.subject
    ++ alternatives t.subject (stated_value SubjectAltName general_names_of t)
