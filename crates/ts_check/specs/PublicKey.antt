-- RFC 8017 A.1.1: the public key of RSA.
use Rattle.std.specs.Prelude.{◌≡◌, ◌≤◌, ◌==◌, nat_lt, length, ℕ, true, List, ◌++◌, drop}
use Rattle.std.specs.Prelude.{slice_index, Option, Some, None, Result, Ok, if◌then◌else◌}
use Rattle.std.specs.Result.{result_ok}
use Rattle.ts_der.specs.declared.fault.Fault.{Fault}
use Rattle.ts_der.specs.Answer.{◌>>=◌}
use Rattle.ts_der.specs.Element.{Fits, inside, encode}
use Rattle.ts_der.specs.Integer.{is_shortest, is_negative, integer_rules}
use Rattle.ts_der.specs.Reading.{element_at, value_at, end_at}
use Rattle.ts_rsa.specs.Octets.{os2ip}
use Rattle.ts_check.specs.Options.{option_then}

-- RSAPublicKey ::= SEQUENCE { modulus INTEGER, publicExponent INTEGER }, by the contents of both
pub record IsPublicKey (octets modulus exponent : List ℕ) : Type 0 where
  pub fields_fit : Fits 0x30 (encode 0x02 modulus ++ encode 0x02 exponent)
  pub modulus_fits : Fits 0x02 modulus
  pub exponent_fits : Fits 0x02 exponent
  pub encoded : octets ≡ encode 0x30 (encode 0x02 modulus ++ encode 0x02 exponent)
  pub modulus_shortest : is_shortest modulus ≡ true
  pub exponent_shortest : is_shortest exponent ≡ true

-- reading it, up to the first rule that is broken: the contents of both
unfoldable pub contents_of : List ℕ → Result (List ℕ × List ℕ) Fault
contents_of octets = do
  key ← element_at 0x30 (record { rest = octets; at = 0 })
  alone ← end_at key.1
  modulus ← element_at 0x02 (inside key.0)
  modulus_content ← value_at integer_rules (λ c. c) modulus.0
  exponent ← element_at 0x02 modulus.1
  exponent_content ← value_at integer_rules (λ c. c) exponent.0
  done ← end_at exponent.1
  Ok (modulus_content, exponent_content)

-- the octets of the number that an INTEGER's content is, where it is not negative, without an
-- octet 00 that only shows the sign
unfoldable pub magnitude_of : List ℕ → Option (List ℕ)
magnitude_of content =
    if is_negative content then None
    else Some (if slice_index content 0 == 0 then drop 1 content else content)

-- the number of at most eight octets
unfoldable pub small_of : List ℕ → Option ℕ
small_of octets = if nat_lt 8 (length octets) then None else Some (os2ip octets)

-- the octets of a modulus, and an exponent
pub record Public : Type 0 where
  pub modulus : List ℕ
  pub exponent : ℕ

-- the key of RSA that octets are
unfoldable pub public_of : List ℕ → Option Public
public_of octets =
    option_then (result_ok (contents_of octets)) (λ c.
    option_then (magnitude_of c.0) (λ modulus.
    option_then (magnitude_of c.1) (λ e.
    option_then (small_of e) (λ exponent.
    Some (record { modulus = modulus; exponent = exponent })))))

-- the octets are the key of RSA with this modulus, by its octets, and this exponent, of at most
-- eight octets
pub record IsRsaKey (octets modulus : List ℕ) (exponent : ℕ) : Type 0 where
  pub modulus_content : List ℕ
  pub exponent_content : List ℕ
  pub encoded : IsPublicKey octets modulus_content exponent_content
  pub modulus_is : magnitude_of modulus_content ≡ Some modulus
  pub exponent_octets : List ℕ
  pub exponent_is : magnitude_of exponent_content ≡ Some exponent_octets
  pub exponent_small : length exponent_octets ≤ 8
  pub number : exponent ≡ os2ip exponent_octets
