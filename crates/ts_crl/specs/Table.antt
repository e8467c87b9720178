-- The table of a CRL (RFC 5280 5.1, as restated in Appendix A.1), and the
-- first rule that octets break.
use Rattle.std.specs.Prelude.{ℕ, ◌==◌, not, nat_lt, Bool, false, List, [], ◌∷◌, length, Option}
use Rattle.std.specs.Prelude.{Some, None, option_map, Result, Ok, Err, if◌then◌else◌}
use Rattle.ts_der.specs.declared.fault.DerFault.TheVariants.{TooLarge}
use Rattle.ts_der.specs.Answer.{◌>>=◌}
use Rattle.ts_der.specs.Integer.{integer_rules}
use Rattle.ts_shape.specs.declared.fault.CertRule.TheVariants.{Der, Version}
use Rattle.ts_shape.specs.declared.fault.CertFault.{CertFault}
use Rattle.ts_shape.specs.Fault.{breaks}
use Rattle.ts_shape.specs.Shape.{ContentRules, Row, Shape, optional, tagged, no_other, items}
use Rattle.ts_shape.specs.Shape.{nothing, ◌then◌, ◌or_else◌, judge, der_rules, no_rules, one_rule}
use Rattle.ts_shape.specs.Shape.{primitive, sequence}
use Rattle.ts_shape.specs.Rows.{integer, bit_string}
use Rattle.ts_name.specs.NameRows.{name}
use Rattle.ts_extensions.specs.Extension.{extensions as extension_items}
use Rattle.ts_ext.specs.Table.{list_rules}
use Rattle.ts_field.specs.Table.{algorithm_identifier, time, from_front}
use Rattle.ts_crl.specs.Fault.{ListFault, broken}
use Rattle.ts_crl.specs.List.{CertificateList, LocatedList, unlocated_list}
use Rattle.ts_crl.specs.Profile.{profile_fault}
use Rattle.ts_crl.specs.Reading.{shape_of}
use Rattle.ts_crl.specs.Rules.{placed_fault}

-- ---- the shape

-- whether a content is v2(1)
abbrev pub is_version : List ℕ → Bool
is_version (octet ∷ []) = octet == 1
is_version content = false

-- an INTEGER, and then v2(1)
abbrev pub version_rules : ContentRules
version_rules content = der_rules integer_rules content or_else one_rule Version
    (λ c. not (is_version c)) content

-- Version ::= INTEGER { v1(0), v2(1), v3(2) }, which is v2 in a list that has it (5.1.2.1)
abbrev pub version : Row
version = primitive 0x02 version_rules

-- Extensions ::= SEQUENCE SIZE (1..MAX) OF Extension
abbrev pub extensions_row : Row
extensions_row = tagged 0x30 extension_items list_rules no_other

-- a member of revokedCertificates ::= SEQUENCE { userCertificate CertificateSerialNumber,
-- revocationDate Time, crlEntryExtensions Extensions OPTIONAL } (5.1.2.6)
abbrev pub entry_fields : Shape
entry_fields = integer then time then optional extensions_row then nothing

-- revokedCertificates ::= SEQUENCE OF
abbrev pub revoked_certificates : Row
revoked_certificates = sequence (items (sequence entry_fields))

-- [0] EXPLICIT Extensions
abbrev pub crl_extensions : Row
crl_extensions = tagged 0xA0 (extensions_row then nothing) no_rules no_other

-- TBSCertList ::= SEQUENCE (5.1.2)
abbrev pub tbs_fields : Shape
tbs_fields =
    -- version Version OPTIONAL
    optional version
    -- signature AlgorithmIdentifier
    then algorithm_identifier
    -- issuer Name
    then name
    -- thisUpdate Time
    then time
    -- nextUpdate Time OPTIONAL
    then optional time
    -- revokedCertificates SEQUENCE OF SEQUENCE OPTIONAL
    then optional revoked_certificates
    -- crlExtensions [0] EXPLICIT Extensions OPTIONAL
    then optional crl_extensions
    then nothing

abbrev pub tbs_cert_list : Row
tbs_cert_list = sequence tbs_fields

-- CertificateList ::= SEQUENCE { tbsCertList TBSCertList, signatureAlgorithm AlgorithmIdentifier,
-- signatureValue BIT STRING } (5.1.1)
abbrev pub certificate_list : Row
certificate_list = sequence (tbs_cert_list then algorithm_identifier then bit_string then nothing)

-- the first rule of the shape that is broken: at most 4,194,304 octets, the limit of this profile;
-- the table, and nothing after it
abbrev pub shape_fault : List ℕ → Option CertFault
shape_fault octets = if nat_lt 4194304 (length octets) then Some (breaks 0 (Der TooLarge))
    else judge (certificate_list then nothing) (from_front octets)

-- ---- the whole

-- the first rule that a list of this shape breaks: those that have a place, then those of this
-- profile
abbrev pub list_fault : LocatedList → Option ListFault
list_fault l = option_map (λ f. broken f) (placed_fault l) or_else profile_fault (unlocated_list l)

abbrev pub list_fault_of : Result LocatedList CertFault → Option ListFault
list_fault_of (Ok l) = list_fault l
list_fault_of (Err f) = None

-- the first rule that is broken: of the shape, then of the list that it is
abbrev pub crl_fault : List ℕ → Option ListFault
crl_fault octets = option_map (λ f. broken f) (shape_fault octets) or_else list_fault_of
    (shape_of octets)

-- what a list says, or the first rule that it breaks
abbrev pub unless_broken : LocatedList → Option ListFault → Result CertificateList ListFault
unless_broken l None = Ok (unlocated_list l)
unless_broken l (Some f) = Err f

abbrev pub as_list : Result LocatedList CertFault → Result LocatedList ListFault
as_list (Ok l) = Ok l
as_list (Err f) = Err (broken f)

-- the list that octets are
unfoldable pub crl_of : List ℕ → Result CertificateList ListFault
crl_of octets = as_list (shape_of octets) >>= λ l. unless_broken l (list_fault l)
