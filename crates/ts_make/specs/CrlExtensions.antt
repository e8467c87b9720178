-- The extensions that a description says of a CRL and of its entries (RFC
-- 5280 5.2, 5.3), and their octets (5.1).
use Rattle.std.specs.Prelude.{ℕ, true, false, List, [], ◌∷◌, ◌++◌, map, Option, Some, None}
use Rattle.std.specs.Borrow.{Bor}
use Rattle.std.specs.List.{flat_map}
use Rattle.ts_der.specs.declared.oid.OidRef.{OidRef}
use Rattle.ts_der.specs.Element.{encode}
use Rattle.ts_ext.specs.declared.reason_code.ReasonCode.{ReasonCode}
use Rattle.ts_extensions.specs.Extension.{Extension}
use Rattle.ts_ext.specs.Encoding.{reason_number}
use Rattle.ts_make.specs.declared.crl_description.CrlText.{CrlText}
use Rattle.ts_make.specs.Serial.{serial_content}
use Rattle.ts_make.specs.KeyUsage.{usage_content}
use Rattle.ts_make.specs.Extensions.{extension_octets, extension, id_ce, sequence_extension}

-- ---- of an entry

-- reasonCode ::= { CRLReason }, an ENUMERATED, not critical (5.3.1)
abbrev pub reason_extension : ReasonCode → Extension
reason_extension reason = extension (id_ce 21) false (encode 0x0A (reason_number reason ∷ []))

-- ---- of a list

-- cRLNumber INTEGER (0..MAX), not critical, where there is a number (5.2.3)
abbrev pub number_extensions : Option ℕ → List Extension
number_extensions None = []
number_extensions (Some n) = extension (id_ce 20) false (encode 0x02 (serial_content n)) ∷ []

-- deltaCRLIndicator, of which the value is BaseCRLNumber ::= CRLNumber, critical, where there is a
-- base number (5.2.4)
abbrev pub base_extensions : Option ℕ → List Extension
base_extensions None = []
base_extensions (Some n) = extension (id_ce 27) true (encode 0x02 (serial_content n)) ∷ []

-- uniformResourceIdentifier [6] IA5String of a GeneralName (4.2.1.6)
abbrev pub uri_octets : Bor (List ℕ) → List ℕ
uri_octets uri = encode 0x86 uri.now

-- distributionPoint [0] DistributionPointName OPTIONAL, DistributionPointName ::= CHOICE { fullName
-- [0] GeneralNames, .. } (4.2.1.13): absent where there are no names
abbrev pub full_name : List (Bor (List ℕ)) → List ℕ
full_name [] = []
full_name (uri ∷ uris) = encode 0xA0 (encode 0xA0 (flat_map uri_octets (uri ∷ uris)))

-- onlySomeReasons [3] ReasonFlags OPTIONAL, named bits by their numbers (4.2.1.13): absent where
-- there are none
abbrev pub some_reasons : List ℕ → List ℕ
some_reasons [] = []
some_reasons (n ∷ numbers) = encode 0x83 (usage_content (n ∷ numbers))

-- IssuingDistributionPoint ::= SEQUENCE { distributionPoint [0], onlyContainsUserCerts [1] DEFAULT
-- FALSE, onlyContainsCACerts [2] DEFAULT FALSE, onlySomeReasons [3], indirectCRL [4] DEFAULT FALSE,
-- onlyContainsAttributeCerts [5] DEFAULT FALSE } (5.2.5): all defaults are absent (X.690 11.5)
unfoldable pub scope_content : List (Bor (List ℕ)) → List ℕ → List ℕ
scope_content uris reasons = full_name uris ++ some_reasons reasons

-- an extension that is critical, with the value NULL (X.690 8.8)
abbrev pub null_extension : OidRef → Extension
null_extension oid = extension oid.content.now true (0x05 ∷ 0 ∷ [])

-- cRLNumber, then deltaCRLIndicator, then issuingDistributionPoint, critical and absent where its
-- SEQUENCE would be empty (5.2.5), then the others
unfoldable pub crl_extensions : CrlText → List Extension
crl_extensions text =
    number_extensions text.number
    ++ (base_extensions text.base
    ++ (sequence_extension 28 true (scope_content text.uris.now text.reasons.now)
    ++ map null_extension text.critical.now))

-- crlExtensions [0] EXPLICIT Extensions OPTIONAL (5.1): absent where there are none
unfoldable pub crl_field : List Extension → List ℕ
crl_field [] = []
crl_field (x ∷ xs) = encode 0xA0 (encode 0x30 (flat_map extension_octets (x ∷ xs)))
