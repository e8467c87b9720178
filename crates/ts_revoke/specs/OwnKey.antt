-- The key of a certificate or of a trust anchor, by what it states itself (RFC 5280 6.1.2 (g) to
-- (i)).
use Rattle.std.specs.Prelude.{ℕ, List, [], ◌∷◌, Option, Some, None, if◌then◌else◌}
use Rattle.std.specs.Str.{bytes_eq}
use Rattle.ts_sig.specs.Key.{Key}
use Rattle.ts_cert.specs.Certificate.{KeyInfo}

-- NULL as a whole element (X.690 8.8)
abbrev pub null : List ℕ
null = 5 ∷ 0 ∷ []

-- parameters that are not NULL
abbrev pub not_null : Option (List ℕ) → Option (List ℕ)
not_null None = None
not_null (Some p) = if bytes_eq p null then None else Some p

-- the parameters that a key states
abbrev pub own : KeyInfo → Option (List ℕ)
own k = not_null k.algorithm.parameters

-- the key with these parameters
abbrev pub own_key : KeyInfo → Key
own_key k = record {
  algorithm = k.algorithm.algorithm;
  parameters = own k;
  octets = k.subjectPublicKey;
}
