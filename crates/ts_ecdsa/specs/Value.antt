-- The octets of a signature: Ecdsa-Sig-Value ::= SEQUENCE { r INTEGER, s INTEGER } in DER (RFC 3279
-- 2.2.3).
use Rattle.std.specs.Prelude.{◌≡◌, ℕ, ◌++◌, List, pos}
use Rattle.ts_der.specs.Element.{Fits, encode}
use Rattle.ts_der.specs.Integer.{IsInteger}

-- the octets encode r and s
pub record IsSignatureValue (octets : List ℕ) (r s : ℕ) : Type 0 where
  pub first : List ℕ
  pub second : List ℕ
  pub r_is : IsInteger first (pos r)
  pub s_is : IsInteger second (pos s)
  pub fits : Fits 0x30 (encode 2 first ++ encode 2 second)
  pub encoded : octets ≡ encode 0x30 (encode 2 first ++ encode 2 second)
