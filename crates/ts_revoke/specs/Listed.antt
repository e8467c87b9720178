-- What a CRL, with its delta CRL, says of the certificate's serial number (RFC 5280 6.3.3 (c), (h)
-- to (k)).
use Rattle.std.specs.Prelude.{ℕ, ◌&&◌, Bool, List, Option, Some, None, unwrap_or, option_map}
use Rattle.std.specs.Prelude.{if◌then◌else◌}
use Rattle.std.specs.List.{find}
use Rattle.std.specs.Option.{option_and_then}
use Rattle.ts_ext.specs.Encoding.{reason_number}
use Rattle.ts_crl.specs.Entries.{first_entry}
use Rattle.ts_crl.specs.List.{RevokedCertificate, CertificateList}
use Rattle.ts_crl.specs.Slots.{is_same_slot}
use Rattle.ts_crl.specs.Values.{reason_of}
use Rattle.ts_revoke.specs.Decision.{or_reason}
use Rattle.ts_revoke.specs.Numbers.{continues}
use Rattle.ts_revoke.specs.Question.{StatusQuestion}
use Rattle.ts_revoke.specs.Usable.{is_current, is_signed}

-- the reason that an entry gives, unspecified (0) where it gives none (6.3.3 (i), (j))
abbrev pub entry_reason : RevokedCertificate → ℕ
entry_reason e = unwrap_or (option_map reason_number (reason_of e)) 0

-- the reason of the first entry of a serial number, which alone counts in this profile; nothing
-- where there is no such entry
abbrev pub reason_in_list : List ℕ → CertificateList → Option ℕ
reason_in_list serial l = option_map entry_reason (first_entry serial l)

-- ---- delta CRLs

-- a delta CRL counts for a CRL: it is current, states the changes since that CRL (5.2.4), and the
-- same key signed it (6.3.3 (h))
abbrev pub counts_for : StatusQuestion → CertificateList → CertificateList → Bool
counts_for q l delta = is_current q.moment delta && (continues l delta && is_signed q delta)

abbrev pub if_counts : StatusQuestion → CertificateList → Option CertificateList
    → Option CertificateList
if_counts q l None = None
if_counts q l (Some delta) = if counts_for q l delta then Some delta else None

-- the delta CRL of a CRL: the first of its slot (6.3.3 (c)), if it counts; none where delta CRLs
-- are not used
abbrev pub delta_of : StatusQuestion → CertificateList → Option CertificateList
delta_of q l = if q.use_deltas then if_counts q l (find (λ d. is_same_slot l d) q.deltas) else None

-- where the delta CRL lists the serial number its entry decides, else that of the CRL does (6.3.3
-- (i), (j))
unfoldable pub listed : StatusQuestion → CertificateList → Option ℕ
listed q l =
    or_reason (option_and_then (reason_in_list q.certificate.tbsCertificate.serialNumber)
    (delta_of q l)) (reason_in_list q.certificate.tbsCertificate.serialNumber l)
