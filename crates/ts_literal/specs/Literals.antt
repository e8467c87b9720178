-- What texts write: numbers in decimal, octets in hexadecimal digits.
use Rattle.std.specs.Prelude.{◌≡◌, ◌≤◌, ◌<◌, ◌^◌, ℕ, List, length}
use Rattle.std.specs.Fmt.{decimal}
use Rattle.hex.specs.Hex.{encode_lower, IsBytes}

-- a number below 2^32, in decimal without leading zeros
pub record IsNumber (text : List ℕ) (number : ℕ) : Type 0 where
  pub written : text ≡ decimal number
  pub range : number < 2 ^ 32

-- such a number, from one to another
pub record IsNumberIn (least most : ℕ) (text : List ℕ) (number : ℕ) : Type 0 where
  pub is : IsNumber text number
  pub from : least ≤ number
  pub to : number ≤ most

-- so many octets, in lower-case hexadecimal digits
pub record IsHex (size : ℕ) (text octets : List ℕ) : Type 0 where
  pub written : text ≡ encode_lower octets
  pub count : length octets ≡ size
  pub bytes : IsBytes octets
