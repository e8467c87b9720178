-- The serial number of a certificate (RFC 5280 4.1.2.2) that is below 2 ^ 32.
use Rattle.std.specs.Prelude.{ℕ, ◌/◌, ◌%◌, ◌^◌, nat_lt, List, [], ◌∷◌, if◌then◌else◌}

-- the content of its INTEGER, in as few octets as can be: the first bit is 0, the sign (X.690 8.3)
unfoldable pub serial_content : ℕ → List ℕ
serial_content n =
    if nat_lt n (2 ^ 7) then n ∷ []
    else (if nat_lt n (2 ^ 15) then n / 2 ^ 8 ∷ n % 2 ^ 8 ∷ []
    else (if nat_lt n (2 ^ 23) then n / 2 ^ 16 ∷ n / 2 ^ 8 % 2 ^ 8 ∷ n % 2 ^ 8 ∷ []
    else (if nat_lt n (2 ^ 31) then n / 2 ^ 24 ∷ n / 2 ^ 16 % 2 ^ 8 ∷ n / 2 ^ 8 % 2 ^ 8 ∷ n % 2 ^ 8
    ∷ []
    else 0 ∷ n / 2 ^ 24 ∷ n / 2 ^ 16 % 2 ^ 8 ∷ n / 2 ^ 8 % 2 ^ 8 ∷ n % 2 ^ 8 ∷ [])))
