-- What the status of a certificate depends on (RFC 5280 6.3.1).
use Rattle.std.specs.Prelude.{ℕ, ℤ, Bool, List, Option}
use Rattle.ts_sig.specs.Key.{Key}
use Rattle.ts_cert.specs.Certificate.{Certificate}
use Rattle.ts_crl.specs.List.{CertificateList}

-- whether a signature is good: of the algorithm, the key, the signed octets and the signature
abbrev pub Check : Type 0
Check = List ℕ → Key → List ℕ → List ℕ → Bool

-- the certificate; the key that signed it, and the keyUsage of its issuer's certificate, where that
-- states one; the moment; the check of signatures; the complete CRLs and the delta CRLs at hand,
-- each in order; whether delta CRLs are used (use-deltas)
pub record StatusQuestion : Type 0 where
  pub certificate : Certificate
  pub key : Key
  pub usage : Option (List Bool)
  pub moment : ℤ
  pub good : Check
  pub lists : List CertificateList
  pub deltas : List CertificateList
  pub use_deltas : Bool
