-- The octets of the certificate that a description says (RFC 5280 4.1), given those of its two
-- times.
use Rattle.std.specs.Prelude.{ℕ, List, ◌∷◌, ◌++◌}
use Rattle.std.specs.List.{flat_map}
use Rattle.sha2.specs.Sha256.{sha256}
use Rattle.ts_der.specs.Element.{encode}
use Rattle.ts_name.specs.NameEncoding.{encoded_rdn}
use Rattle.ts_sig.specs.StandIn.{algorithm_identifier}
use Rattle.ts_cert.specs.declared.version.Version.TheVariants.{V3}
use Rattle.ts_cert.specs.Encoding.{version_octets}
use Rattle.ts_make.specs.declared.description.RdnText.{RdnText}
use Rattle.ts_make.specs.declared.description.CertText.{CertText}
use Rattle.ts_make.specs.Serial.{serial_content}
use Rattle.ts_make.specs.Description.{rdns_in}
use Rattle.ts_make.specs.Extensions.{described_extensions, field_octets}

-- BIT STRING of whole octets: no bit is unused (X.690 8.6)
abbrev pub bit_octets : List ℕ → List ℕ
bit_octets bits = encode 0x03 (0 ∷ bits)

-- Name (4.1.2.4)
unfoldable pub name_octets : List RdnText → List ℕ
name_octets rdns = encode 0x30 (flat_map encoded_rdn (rdns_in rdns))

-- SubjectPublicKeyInfo ::= SEQUENCE { algorithm AlgorithmIdentifier, subjectPublicKey BIT STRING }
-- (4.1.2.7)
unfoldable pub key_octets : List ℕ → List ℕ
key_octets key = encode 0x30 (algorithm_identifier ++ bit_octets key)

-- TBSCertificate ::= SEQUENCE { version, serialNumber, signature, issuer, validity, subject,
-- subjectPublicKeyInfo, issuerUniqueID, subjectUniqueID, extensions } (4.1.2): the unique
-- identifiers, which are OPTIONAL, are absent
unfoldable pub tbs_content : List ℕ → List ℕ → CertText → List ℕ
tbs_content before after text =
    version_octets V3
    ++ (encode 0x02 (serial_content text.serial)
    ++ (algorithm_identifier
    ++ (name_octets text.issuer.now
    ++ (encode 0x30 (before ++ after)
    ++ (name_octets text.subject.now
    ++ (key_octets text.key.now
    ++ field_octets (described_extensions text.extensions.now)))))))

unfoldable pub tbs_octets : List ℕ → List ℕ → CertText → List ℕ
tbs_octets before after text = encode 0x30 (tbs_content before after text)

-- Certificate ::= SEQUENCE { tbsCertificate, signatureAlgorithm, signatureValue BIT STRING }
-- (4.1.1): the signature is the digest of the signer's key and all of tbsCertificate
unfoldable pub made_certificate : List ℕ → List ℕ → CertText → List ℕ
made_certificate before after text =
    let tbs = tbs_octets before after text in
    encode 0x30 (tbs ++ (algorithm_identifier ++ bit_octets (sha256 (text.signer.now ++ tbs))))
