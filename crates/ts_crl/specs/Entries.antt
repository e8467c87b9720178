-- The entries of a list, and the first of a serial number (RFC 5280 5.1.2.6).
use Rattle.std.specs.Prelude.{ℕ, Bool, List, [], Option, unwrap_or}
use Rattle.std.specs.List.{find, list_any}
use Rattle.std.specs.Str.{bytes_eq}
use Rattle.ts_crl.specs.List.{RevokedCertificate, CertificateList}

-- the entries of a list, none where revokedCertificates is absent
abbrev pub entries_of : CertificateList → List RevokedCertificate
entries_of l = unwrap_or l.tbsCertList.revokedCertificates []

-- whether an entry has this serial number: equal contents octets are equal numbers
abbrev pub has_serial : List ℕ → RevokedCertificate → Bool
has_serial serial e = bytes_eq e.userCertificate serial

-- the first entry of a serial number
abbrev pub first_entry : List ℕ → CertificateList → Option RevokedCertificate
first_entry serial l = find (has_serial serial) (entries_of l)

-- whether some entry has it
abbrev pub has_entry : List ℕ → CertificateList → Bool
has_entry serial l = list_any (has_serial serial) (entries_of l)
