-- The table of a certificate (RFC 5280 4.1, as restated in Appendix A.1), and the first rule that
-- octets break.
use Rattle.std.specs.Prelude.{ℕ, zero, suc, ◌==◌, ◌||◌, not, nat_lt, Bool, false, List, [], ◌∷◌}
use Rattle.std.specs.Prelude.{length, Option, Some, None, Result, Ok, Err, if◌then◌else◌}
use Rattle.std.specs.Str.{bytes_eq}
use Rattle.ts_der.specs.declared.fault.DerFault.TheVariants.{TooLarge, DefaultEncoded}
use Rattle.ts_der.specs.Element.{Place, Tlv, inside, encode}
use Rattle.ts_der.specs.Reading.{begins_with, element_of, behind}
use Rattle.ts_der.specs.BitString.{bits_rules}
use Rattle.ts_der.specs.Integer.{integer_rules}
use Rattle.ts_shape.specs.declared.fault.CertRule.TheVariants.{Der, Version, AlgorithmMismatch}
use Rattle.ts_shape.specs.declared.fault.CertFault.{CertFault}
use Rattle.ts_shape.specs.Fault.{breaks}
use Rattle.ts_shape.specs.Shape.{ContentRules, Row, optional, tagged, no_other, nothing, ◌then◌}
use Rattle.ts_shape.specs.Shape.{◌or_else◌, judge, der_rules, no_rules, one_rule, primitive}
use Rattle.ts_shape.specs.Shape.{sequence}
use Rattle.ts_shape.specs.Rows.{integer, bit_string}
use Rattle.ts_name.specs.NameRows.{name}
use Rattle.ts_extensions.specs.Extension.{explicit_extensions}
use Rattle.ts_field.specs.Table.{time, algorithm_identifier, from_front}
use Rattle.ts_cert.specs.Rules.{extensions_fault}
use Rattle.ts_cert.specs.Reading.{UncheckedCertificate, signed_of}

-- ---- certificates

-- whether a content is v1(0), v2(1) or v3(2)
abbrev pub is_version : List ℕ → Bool
is_version (octet ∷ []) = octet == 0 || octet == 1 || octet == 2
is_version content = false

-- an INTEGER, and then one of the three versions
abbrev pub version_rules : ContentRules
version_rules content = der_rules integer_rules content or_else one_rule Version
    (λ c. not (is_version c)) content

-- Version ::= INTEGER { v1(0), v2(1), v3(2) } (4.1.2.1)
abbrev pub version_number : Row
version_number = primitive 0x02 version_rules

-- the default v1, which is not encoded (X.690 11.5)
abbrev pub default_rules : ContentRules
default_rules = one_rule (Der DefaultEncoded) (λ c. bytes_eq c (encode 0x02 (0 ∷ [])))

-- [0] EXPLICIT Version DEFAULT v1 (4.1.2.1)
abbrev pub version : Row
version = tagged 0xA0 (version_number then nothing) default_rules no_other

-- Validity ::= SEQUENCE { notBefore Time, notAfter Time } (4.1.2.5)
abbrev pub validity : Row
validity = sequence (time then time then nothing)

-- SubjectPublicKeyInfo ::= SEQUENCE { algorithm AlgorithmIdentifier, subjectPublicKey BIT STRING }
-- (4.1.2.7)
abbrev pub subject_public_key_info : Row
subject_public_key_info = sequence (algorithm_identifier then bit_string then nothing)

-- UniqueIdentifier ::= BIT STRING (4.1.2.8), of this tag
abbrev pub unique_identifier : ℕ → Row
unique_identifier tag = primitive tag (der_rules bits_rules)

-- TBSCertificate ::= SEQUENCE (4.1.2)
abbrev pub tbs_certificate : Row
tbs_certificate =
    sequence (
    -- version [0] EXPLICIT Version DEFAULT v1
    optional version
    -- serialNumber CertificateSerialNumber ::= INTEGER
    then integer
    -- signature AlgorithmIdentifier
    then algorithm_identifier
    -- issuer Name
    then name
    -- validity Validity
    then validity
    -- subject Name
    then name
    -- subjectPublicKeyInfo SubjectPublicKeyInfo
    then subject_public_key_info
    -- issuerUniqueID [1] IMPLICIT UniqueIdentifier OPTIONAL
    then optional (unique_identifier 0x81)
    -- subjectUniqueID [2] IMPLICIT UniqueIdentifier OPTIONAL
    then optional (unique_identifier 0x82)
    -- extensions [3] EXPLICIT Extensions OPTIONAL
    then optional (tagged 0xA3 explicit_extensions no_rules no_other)
    then nothing)

-- Certificate ::= SEQUENCE { tbsCertificate TBSCertificate, signatureAlgorithm AlgorithmIdentifier,
-- signatureValue BIT STRING } (4.1.1)
abbrev pub certificate : Row
certificate = sequence (tbs_certificate then algorithm_identifier then bit_string then nothing)

-- ---- the first rule that is broken

-- the element after this many others
abbrev pub nth : ℕ → Place → Tlv
nth zero here = element_of here
nth (suc n) here = nth n (behind here)

-- tbsCertificate: the first element within the certificate
abbrev pub tbs_element : List ℕ → Tlv
tbs_element octets = nth 0 (inside (nth 0 (from_front octets)))

-- signature: the element after the version, where that stands, and the serial number
abbrev pub signature_element : List ℕ → Tlv
signature_element octets = nth (if begins_with 0xA0 (tbs_element octets).content then 2 else 1)
    (inside (tbs_element octets))

-- signatureAlgorithm: the second element within the certificate
abbrev pub signature_algorithm_element : List ℕ → Tlv
signature_algorithm_element octets = nth 1 (inside (nth 0 (from_front octets)))

-- signatureAlgorithm is the same as signature (4.1.1.2)
abbrev pub algorithms_fault : List ℕ → Option CertFault
algorithms_fault octets =
    if bytes_eq (signature_element octets).whole (signature_algorithm_element octets).whole
    then None
    else Some (breaks (signature_algorithm_element octets).at AlgorithmMismatch)

-- the first rule that the fields break, where they were read
abbrev pub fields_fault : Result UncheckedCertificate CertFault → Option CertFault
fields_fault (Ok s) = extensions_fault s.certificate.tbsCertificate.version s.optional_fields
fields_fault (Err f) = None

-- the first rule that is broken: at most 65,536 octets, the limit of this profile; the table, and
-- nothing after it; one algorithm; then the rules of fields that a version may not have and of
-- extensions
abbrev pub certificate_fault : List ℕ → Option CertFault
certificate_fault octets =
    if nat_lt 65536 (length octets) then Some (breaks 0 (Der TooLarge))
    else judge (certificate then nothing)
    (from_front octets) or_else algorithms_fault octets or_else fields_fault
    (signed_of (nth 0 (from_front octets)))
