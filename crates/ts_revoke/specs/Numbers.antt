-- The numbers of CRLs and of delta CRLs (RFC 5280 5.2.3, 5.2.4, X.690 8.3).
use Rattle.std.specs.Prelude.{ℕ, ◌&&◌, not, int_lt, Bool, false, List, Option, Some}
use Rattle.ts_der.specs.Integer.{twos_complement}
use Rattle.ts_crl.specs.List.{CertificateList}
use Rattle.ts_crl.specs.Values.{crl_number, base_number}

-- all three are there, the base number is at most the number, and the number is below the newer
-- one; each is the content of an INTEGER
abbrev pub lies_between : Option (List ℕ) → Option (List ℕ) → Option (List ℕ) → Bool
lies_between (Some base) (Some number) (Some newer) =
    not (int_lt (twos_complement number) (twos_complement base))
    && int_lt (twos_complement number) (twos_complement newer)
lies_between base number newer = false

-- a delta CRL states the changes since a CRL: BaseCRLNumber <= the number of the CRL < the number
-- of the delta CRL
abbrev pub continues : CertificateList → CertificateList → Bool
continues l delta = lies_between (base_number delta) (crl_number l) (crl_number delta)
