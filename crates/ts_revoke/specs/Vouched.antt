-- What speaks against a CRL: who signed it (RFC 5280 6.3.3 (f), (g)), and when it is current
-- (5.1.2.4, 5.1.2.5).
use Rattle.std.specs.Prelude.{ℕ, ℤ, Bool, true, false, ◌&&◌, not, int_le, int_lt, List, [], ◌∷◌}
use Rattle.std.specs.Prelude.{Option, Some, None, if◌then◌else◌}
use Rattle.std.specs.List.{list_any}
use Rattle.ts_name.specs.Sameness.{is_same_name}
use Rattle.ts_ext.specs.declared.known.Known.TheVariants.{KeyUsage}
use Rattle.ts_ext.specs.Reading.{key_usage_of}
use Rattle.ts_field.specs.declared.time.Time.{Time}
use Rattle.ts_cert.specs.Certificate.{Certificate}
use Rattle.ts_cert.specs.Stated.{stated_value}
use Rattle.ts_crl.specs.List.{CertificateList}
use Rattle.ts_revoke.specs.OwnKey.{own_key}
use Rattle.ts_revoke.specs.Question.{Check}
use Rattle.ts_revoke.specs.Usable.{may_sign_crl}
use Rattle.ts_revoke.specs.declared.doubt.Doubt.{Doubt}
use Rattle.ts_revoke.specs.declared.doubt.Doubt.TheVariants.{NoIssuer, Signature, NotYet, Expired}

-- ---- who signed it

-- the certificate's subject is the issuer of the CRL, and its key may sign CRLs (6.3.3 (f))
unfoldable pub is_issuer : CertificateList → Certificate → Bool
is_issuer l c = is_same_name l.tbsCertList.issuer c.tbsCertificate.subject
    && may_sign_crl (stated_value KeyUsage key_usage_of c.tbsCertificate)

-- the certificate is one of the CRL's issuer, and its key signed the CRL (6.3.3 (g))
unfoldable pub has_signed : Check → CertificateList → Certificate → Bool
has_signed good l c = is_issuer l c
    && good l.signatureAlgorithm.whole (own_key c.tbsCertificate.subjectPublicKeyInfo) l.tbs
    l.signatureValue

-- ---- when it is current

-- thisUpdate is at or before the moment (5.1.2.4)
abbrev pub is_begun : ℤ → CertificateList → Bool
is_begun moment l = int_le l.tbsCertList.thisUpdate.moment moment

-- nextUpdate, where there is one, is before the moment (5.1.2.5)
abbrev pub is_before : ℤ → Option Time → Bool
is_before moment None = false
is_before moment (Some t) = int_lt t.moment moment

abbrev pub is_over : ℤ → CertificateList → Bool
is_over moment l = is_before moment l.tbsCertList.nextUpdate

-- ---- what speaks against it

-- the first that does, of the CRL at a moment, by these certificates
abbrev pub doubt_of : Check → List Certificate → ℤ → CertificateList → Option Doubt
doubt_of good issuers moment l =
    if not (list_any (is_issuer l) issuers) then Some NoIssuer
    else if not (list_any (has_signed good l) issuers) then Some Signature
    else if not (is_begun moment l) then Some NotYet
    else if is_over moment l then Some Expired
    else None
