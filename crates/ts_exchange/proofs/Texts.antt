-- Octets that are a text, and others.
use Rattle.std.proofs.Common.{◌≡◌, ℕ, Bool, List, [], refl}
use Rattle.std.specs.Prelude.{if◌then◌else◌}
use Rattle.std.specs.Str.{IsUtf8, is_utf8}
use Rattle.std.proofs.lemmas.Bool.{false_from_ne_true}
use Rattle.std.proofs.lemmas.Str.{IsUtf8-from_is_utf8, is_utf8-from_IsUtf8}

pub utf8_text : (octets : List ℕ) → IsUtf8 octets → octets ≡ (if is_utf8 octets then octets else [])
utf8_text octets h = rw (is_utf8-from_IsUtf8 octets h) refl

pub no_text : (octets : List ℕ) → (IsUtf8 octets → ⊥) → [] ≡ (if is_utf8 octets then octets else [])
no_text octets h = rw (false_from_ne_true (is_utf8 octets) (λ e. h (IsUtf8-from_is_utf8 octets e))) refl
