-- Bits that have names (X.690 11.2.2; RFC 5280 4.2.1.3, 4.2.1.13), and the sets of flags that they
-- are.
use Rattle.std.specs.Prelude.{ℕ, Bool, false, List, slice_index_or}
use Rattle.ts_der.specs.BitString.{bits_of, bit_parts, IsBitString, EndsInOne}
use Rattle.ts_ext.specs.declared.reason_flag.ReasonFlag.{ReasonFlag}
use Rattle.ts_ext.specs.declared.reason_flag.ReasonFlag.TheVariants.{KeyCompromise, CaCompromise}
use Rattle.ts_ext.specs.declared.reason_flag.ReasonFlag.TheVariants.{AffiliationChanged, Superseded}
use Rattle.ts_ext.specs.declared.reason_flag.ReasonFlag.TheVariants.{CessationOfOperation}
use Rattle.ts_ext.specs.declared.reason_flag.ReasonFlag.TheVariants.{CertificateHold}
use Rattle.ts_ext.specs.declared.reason_flag.ReasonFlag.TheVariants.{PrivilegeWithdrawn}
use Rattle.ts_ext.specs.declared.reason_flag.ReasonFlag.TheVariants.{AaCompromise}
use Rattle.ts_ext.specs.declared.reason_set.ReasonSet.{ReasonSet}

-- bit n, the first being bit 0; one that is left out is 0
abbrev pub bit : ℕ → List Bool → Bool
bit n bits = slice_index_or bits n false

-- the bits that a BIT STRING's content has
abbrev pub named_bits_in : List ℕ → List Bool
named_bits_in content = bits_of (bit_parts content).0 (bit_parts content).1

-- a BIT STRING whose last bit, if there is any, is 1, by its content
pub record IsNamedBits (content : List ℕ) (bits : List Bool) : Type 0 where
  pub encoded : IsBitString content bits
  pub shortest : EndsInOne bits

-- the numbers of the bits of ReasonFlags (4.2.1.13); bit 0 is not used
abbrev pub flag_number : ReasonFlag → ℕ
flag_number KeyCompromise = 1
flag_number CaCompromise = 2
flag_number AffiliationChanged = 3
flag_number Superseded = 4
flag_number CessationOfOperation = 5
flag_number CertificateHold = 6
flag_number PrivilegeWithdrawn = 7
flag_number AaCompromise = 8

-- whether a set of reasons holds this one
abbrev pub holds : ReasonFlag → ReasonSet → Bool
holds KeyCompromise s = s.key_compromise
holds CaCompromise s = s.ca_compromise
holds AffiliationChanged s = s.affiliation_changed
holds Superseded s = s.superseded
holds CessationOfOperation s = s.cessation_of_operation
holds CertificateHold s = s.certificate_hold
holds PrivilegeWithdrawn s = s.privilege_withdrawn
holds AaCompromise s = s.aa_compromise

-- the set that holds no reason
abbrev pub no_reasons : ReasonSet
no_reasons =
    record {
      key_compromise = false;
      ca_compromise = false;
      affiliation_changed = false;
      superseded = false;
      cessation_of_operation = false;
      certificate_hold = false;
      privilege_withdrawn = false;
      aa_compromise = false;
    }
