-- Lucas certificates: for each prime p an element of order p - 1, or a pair of order p + 1, and the
-- prime factors of that order.
use Rattle.std.specs.Prelude.{ℕ, zero, suc, ◌+◌, ◌-◌, ◌*◌, ◌/◌, ◌%◌, ◌^◌, Bool, true, false, not}
use Rattle.std.specs.Prelude.{nat_eq, nat_lt, ◌&&◌, ◌||◌, List, [], ◌∷◌}

-- the number u + v √e
abbrev pub Pair : Type 0
Pair = ℕ × ℕ

-- a prime, the element, and the factors, each as often as it divides p - 1; or a prime, e and the
-- pair, and the factors of p + 1
pub data Row : Type 0 where
  row : ℕ → ℕ → List ℕ → Row
  pair_row : ℕ → ℕ → ℕ → ℕ → List ℕ → Row

-- a ^ k modulo p, for k below 2 ^ fuel
abbrev pub power : ℕ → ℕ → ℕ → ℕ → ℕ
power zero p a k = 1 % p
power (suc fuel) p a k =
    elim (nat_eq k 0) [
      | true ↦ 1 % p
      | false ↦
          let high = power fuel p (a * a % p) (k / 2) in
          elim (nat_eq (k % 2) 0) [ true ↦ high | false ↦ high * a % p ]
    ]

abbrev pub product : List ℕ → ℕ
product [] = 1
product (q ∷ qs) = q * product qs

-- no power of g to the n / q is 1
abbrev pub is_proper : ℕ → ℕ → ℕ → List ℕ → Bool
is_proper p g n [] = true
is_proper p g n (q ∷ qs) = not (nat_eq (power 521 p g (n / q)) 1) && is_proper p g n qs

-- whether g has the order p - 1 modulo p, where the factors are the primes of p - 1
abbrev pub has_order : ℕ → ℕ → List ℕ → Bool
has_order p g factors =
    nat_lt 1 p && (nat_lt (p - 1) (2 ^ 521) && (nat_eq (product factors) (p - 1)
    && (nat_eq (power 521 p g (p - 1)) 1 && is_proper p g (p - 1) factors)))

-- the product of two pairs
abbrev pub pair_product : ℕ → Pair → Pair → Pair
pair_product e x y = (x.0 * y.0 + e * (x.1 * y.1), x.0 * y.1 + x.1 * y.0)

abbrev pub pair_modulo : ℕ → Pair → Pair
pair_modulo p x = (x.0 % p, x.1 % p)

-- the pair to the k modulo p, for k below 2 ^ fuel
abbrev pub pair_power : ℕ → ℕ → ℕ → Pair → ℕ → Pair
pair_power zero p e x k = (1 % p, 0)
pair_power (suc fuel) p e x k =
    elim (nat_eq k 0) [
      | true ↦ (1 % p, 0)
      | false ↦
          let high = pair_power fuel p e (pair_modulo p (pair_product e x x)) (k / 2) in
          elim (nat_eq (k % 2) 0) [
            | true ↦ high
            | false ↦ pair_modulo p (pair_product e high x)
          ]
    ]

-- a number whose power to the p - 1 is 1: it has no factor in common with p
abbrev pub is_unit : ℕ → ℕ → Bool
is_unit p u = nat_eq (power 521 p u (p - 1)) 1

-- of no pair to the n / q is the first number, less 1, 0 modulo a factor of p
abbrev pub is_proper_pair : ℕ → ℕ → Pair → ℕ → List ℕ → Bool
is_proper_pair p e x n [] = true
is_proper_pair p e x n (q ∷ qs) =
    is_unit p ((pair_power 521 p e x (n / q)).0 + (p - 1)) && is_proper_pair p e x n qs

-- whether the pair has the order p + 1 modulo each factor of p, where the factors are the primes of
-- p + 1
abbrev pub pair_has_order : ℕ → ℕ → Pair → List ℕ → Bool
pair_has_order p e x factors =
    nat_lt 1 p && (nat_lt (p + 1) (2 ^ 521) && (nat_eq (product factors) (p + 1)
    && (nat_eq (pair_power 521 p e x (p + 1)).0 1
    && (nat_eq (pair_power 521 p e x (p + 1)).1 0 && is_proper_pair p e x (p + 1) factors))))

-- whether a row is that of q
abbrev pub is_row : ℕ → List Row → Bool
is_row q [] = false
is_row q (row p g factors ∷ rows) = nat_eq q p || is_row q rows
is_row q (pair_row p e u v factors ∷ rows) = nat_eq q p || is_row q rows

abbrev pub are_rows : List ℕ → List Row → Bool
are_rows [] rows = true
are_rows (q ∷ qs) rows = is_row q rows && are_rows qs rows

-- whether each row has its order, and its factors are primes of the rows after it
abbrev pub is_certificate : List Row → Bool
is_certificate [] = true
is_certificate (row p g factors ∷ rows) =
    has_order p g factors && (are_rows factors rows && is_certificate rows)
is_certificate (pair_row p e u v factors ∷ rows) =
    pair_has_order p e (u, v) factors && (are_rows factors rows && is_certificate rows)
