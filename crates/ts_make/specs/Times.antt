-- The element in which a certificate writes a moment (RFC 5280 4.1.2.5).
use Rattle.std.specs.Prelude.{◌≡◌, ℕ, List, [], ℤ}
use Rattle.ts_der.specs.Element.{encode}
use Rattle.ts_time.specs.Civil.{IsInYears}
use Rattle.ts_time.specs.Text.{IsUtc, IsGeneral}

-- a UTCTime in the years 1950 to 2049, in all others a GeneralizedTime; a moment outside the years
-- 0 to 9999 has no text, and its element is empty
pub record IsTimeOf (octets : List ℕ) (moment : ℤ) : Type 0 where
  pub utc : IsInYears 1950 2049 moment
      → (text : List ℕ) × IsUtc text moment × (octets ≡ encode 0x17 text)
  pub general : ¬ (IsInYears 1950 2049 moment) → IsInYears 0 9999 moment
      → (text : List ℕ) × IsGeneral text moment × (octets ≡ encode 0x18 text)
  pub outside : ¬ (IsInYears 1950 2049 moment) → ¬ (IsInYears 0 9999 moment)
      → octets ≡ encode 0x18 []
