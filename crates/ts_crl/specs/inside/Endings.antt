-- The ends of the serial numbers of entries (RFC 5280 5.1.2.6), by which it is seen that no entry
-- has a serial number.
use Rattle.std.specs.Prelude.{◌≡◌, ℕ, ◌+◌, ◌-◌, ◌*◌, ◌%◌, Bool, false, eqb}
use Rattle.std.specs.Prelude.{List, [], ◌∷◌, length, drop}
use Rattle.std.specs.List.{list_any}
use Rattle.ts_crl.specs.Entries.{has_serial}
use Rattle.ts_crl.specs.List.{RevokedCertificate}

-- a number of 32 bits with more octets at its low end, the highest ones lost
abbrev pub with_octets : ℕ → List ℕ → ℕ
with_octets n [] = n
with_octets n (o ∷ os) = with_octets ((n * 256 % 4294967296 + o) % 4294967296) os

-- the last four octets, as a number
unfoldable pub ending_of : List ℕ → ℕ
ending_of serial = with_octets 0 (drop (length serial - 4) serial)

-- whether the end of a serial number is there
abbrev pub has_ending : List ℕ → List ℕ → Bool
has_ending endings serial = list_any (eqb (ending_of serial)) endings

-- no entry has a serial number whose end is not there
abbrev pub AreListed : List ℕ → List RevokedCertificate → Type 0
AreListed endings entries = (serial : List ℕ) → has_ending endings serial ≡ false
    → list_any (has_serial serial) entries ≡ false
