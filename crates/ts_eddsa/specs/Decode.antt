-- The point that octets encode (RFC 8032 5.1.3).
use Rattle.std.specs.Prelude.{ℕ, ◌-◌, ◌/◌, ◌%◌, ◌^◌, List, length, nat_eq, nat_lt, if◌then◌else◌}
use Rattle.std.specs.Prelude.{Option, Some, None}
use Rattle.ts_prime.specs.Primes.{p25519}
use Rattle.ts_eddsa.specs.Field.{plus, minus, times, power, negative, d, root_of_minus_one}
use Rattle.ts_eddsa.specs.Octets.{little}
use Rattle.ts_eddsa.specs.Points.{Point, affine}

-- step 2: the candidate for the square root of u / v, which is u v^3 (u v^7)^((p - 5) / 8)
abbrev pub candidate : ℕ → ℕ → ℕ
candidate u v =
    let v3 = times v (times v v) in
    let v7 = times v (times v3 v3) in
    times (times u v3) (power (times u v7) ((p25519 - 5) / 8))

-- step 3: the square root of u / v that the candidate leads to, where there is one
unfoldable pub root_by : ℕ → ℕ → ℕ → Option ℕ
root_by u v x =
    let check = times v (times x x) in
    if nat_eq check u then Some x
    else (if nat_eq check (negative u) then Some (times x root_of_minus_one) else None)

-- a first coordinate of the point with the second coordinate y: x^2 = (y^2 - 1) / (d y^2 + 1)
unfoldable pub x_of : ℕ → Option ℕ
x_of y =
    let yy = times y y in
    let u = minus yy 1 in
    let v = plus (times d yy) 1 in
    root_by u v (candidate u v)

-- step 4: the root whose lowest bit is the sign; 0 has the sign 0 alone
unfoldable pub with_sign : ℕ → ℕ → Option ℕ
with_sign sign x =
    if nat_eq x 0 then (if nat_eq sign 0 then Some x else None)
    else Some (if nat_eq (x % 2) sign then x else negative x)

-- one step after another, as far as there is something
abbrev pub option_then : {A B : Type 0} → Option A → (A → Option B) → Option B
option_then None f = None
option_then (Some x) f = f x

-- the point with the second coordinate y and this sign of the first
abbrev pub point_at : ℕ → ℕ → Option Point
point_at sign y =
    option_then (x_of y) (λ root. option_then (with_sign sign root) (λ x. Some (affine x y)))

-- step 1: the lowest 255 bits are y, which is below p, and the highest bit is the sign of x
unfoldable pub decode_number : ℕ → Option Point
decode_number n =
    let y = n % 2 ^ 255 in
    if nat_lt y p25519 then point_at (n / 2 ^ 255) y else None

unfoldable pub decode : List ℕ → Option Point
decode octets = if nat_eq (length octets) 32 then decode_number (little octets) else None
