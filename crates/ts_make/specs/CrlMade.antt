-- The octets of the CRL that a description says (RFC 5280 5.1), given
-- those of its two times.
use Rattle.std.specs.Prelude.{ℕ, List, [], ◌∷◌, ◌++◌}
use Rattle.std.specs.List.{flat_map}
use Rattle.sha2.specs.Sha256.{sha256}
use Rattle.ts_der.specs.Element.{encode}
use Rattle.ts_sig.specs.StandIn.{algorithm_identifier}
use Rattle.ts_crl.specs.declared.version.ListVersion.TheVariants.{V2}
use Rattle.ts_crl.specs.Encoding.{crl_version_octets}
use Rattle.ts_make.specs.declared.crl_description.EntryText.{EntryText}
use Rattle.ts_make.specs.declared.crl_description.CrlText.{CrlText}
use Rattle.ts_make.specs.Serial.{serial_content}
use Rattle.ts_make.specs.Extensions.{extension_octets}
use Rattle.ts_make.specs.Made.{bit_octets, name_octets}
use Rattle.ts_make.specs.CrlExtensions.{reason_extension, crl_extensions, crl_field}

-- a member of revokedCertificates ::= SEQUENCE { userCertificate CertificateSerialNumber,
-- revocationDate Time, crlEntryExtensions Extensions OPTIONAL } (5.1.2.6), which has a reason
unfoldable pub entry_content : List ℕ → EntryText → List ℕ
entry_content date e = encode 0x02 (serial_content e.serial)
    ++ (date ++ encode 0x30 (extension_octets (reason_extension e.reason)))

abbrev pub entry_octets : List ℕ → EntryText → List ℕ
entry_octets date e = encode 0x30 (entry_content date e)

-- revokedCertificates SEQUENCE OF SEQUENCE OPTIONAL: absent where there are none (5.1.2.6)
unfoldable pub revoked_octets : List ℕ → List EntryText → List ℕ
revoked_octets date [] = []
revoked_octets date (e ∷ es) = encode 0x30 (flat_map (entry_octets date) (e ∷ es))

-- TBSCertList ::= SEQUENCE { version, signature, issuer, thisUpdate, nextUpdate,
-- revokedCertificates, crlExtensions } (5.1.2): each entry is of the moment of thisUpdate
unfoldable pub crl_content : List ℕ → List ℕ → CrlText → List ℕ
crl_content this next text =
    crl_version_octets V2
    ++ (algorithm_identifier
    ++ (name_octets text.issuer.now
    ++ (this
    ++ (next
    ++ (revoked_octets this text.entries.now
    ++ crl_field (crl_extensions text))))))

unfoldable pub crl_tbs : List ℕ → List ℕ → CrlText → List ℕ
crl_tbs this next text = encode 0x30 (crl_content this next text)

-- CertificateList ::= SEQUENCE { tbsCertList, signatureAlgorithm, signatureValue BIT STRING }
-- (5.1.1): the signature is the digest of the signer's key and all of tbsCertList
unfoldable pub made_crl : List ℕ → List ℕ → CrlText → List ℕ
made_crl this next text =
    let tbs = crl_tbs this next text in
    encode 0x30 (tbs ++ (algorithm_identifier ++ bit_octets (sha256 (text.signer.now ++ tbs))))
