-- The verification of a signature (FIPS 186-5 6.4.2) as a function that computes a truth value.
use Rattle.std.specs.Prelude.{ℕ, ◌+◌, ◌*◌, ◌%◌, Bool, false, ◌&&◌, not, nat_eq, nat_lt, List}
use Rattle.std.specs.Prelude.{length, slice_index, Some, None, Result, Ok, Err}
use Rattle.ts_digest.specs.declared.hash.Hash.{Hash}
use Rattle.ts_der.specs.declared.fault.Fault.{Fault}
use Rattle.ts_der.specs.Integer.{is_negative}
use Rattle.ts_curve.specs.Octets.{number_of}
use Rattle.ts_curve.specs.Points.{Point}
use Rattle.ts_curve.specs.Curves.{Curve, size, is_on_curve}
use Rattle.ts_ecdsa.specs.Number.{checked_point}
use Rattle.ts_ecdsa.specs.Key.{key_x, key_y, key_point}
use Rattle.ts_ecdsa.specs.Reading.{parts_of}
use Rattle.ts_ecdsa.specs.Signature.{hash_number}

abbrev pub first_is : ℕ → Point → ℕ → Bool
first_is n None r = false
first_is n (Some t) r = nat_eq (t.0 % n) r

unfoldable pub is_number_signature_of : Curve → Point → ℕ → ℕ → ℕ → Bool
is_number_signature_of c q e r s =
    nat_lt 0 r && (nat_lt r c.order && (nat_lt 0 s && (nat_lt s c.order
    && first_is c.order (checked_point c q e r s) r)))

unfoldable pub is_public_key : Curve → List ℕ → Bool
is_public_key c octets =
    nat_eq (length octets) (2 * size c + 1)
    && (nat_eq (slice_index octets 0) 4 && is_on_curve c (key_x c octets) (key_y c octets))

-- two integers that are not negative, and are a signature
abbrev pub is_good : Curve → Point → ℕ → Result (List ℕ × List ℕ) Fault → Bool
is_good c q e (Err fault) = false
is_good c q e (Ok t) =
    not (is_negative t.0)
    && (not (is_negative t.1) && is_number_signature_of c q e (number_of t.0) (number_of t.1))

-- whether the octets are a signature of the message under the key
unfoldable pub is_ecdsa_signature_of : Curve → Hash → List ℕ → List ℕ → List ℕ → Bool
is_ecdsa_signature_of c hash key message octets =
    is_public_key c key
    && is_good c (key_point c key) (hash_number c hash message) (parts_of octets)
