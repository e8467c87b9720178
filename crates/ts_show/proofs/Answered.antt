-- Whether octets are something: they are what is read of them, and of what they are not nothing is read.
use Rattle.std.proofs.Common.{◌≡◌, true, false}
use Rattle.std.specs.Prelude.{Result, Ok, Err, is_ok, IfOk, IsOkAnd}

pub is_read : {X E C : Type 0} (view : X → C) (P : C → Type 0) (read : Result X E) → IfOk read (λ x. P (view x)) → is_ok read ≡ true → (c : C) × P c
is_read view P (Ok x) found t = (view x, found)
is_read view P (Err e) found t = absurd cc

pub is_not_read : {X E C : Type 0} (view : X → C) (P : C → Type 0) (read : Result X E) → ((c : C) → P c → IsOkAnd read (λ x. view x ≡ c)) → is_ok read ≡ false → ((c : C) × P c) → ⊥
is_not_read view P (Ok x) only f is = cc
is_not_read view P (Err e) only f is = only is.0 is.1
