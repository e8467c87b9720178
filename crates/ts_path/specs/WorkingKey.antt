-- The key under which a certificate's signature is checked (RFC 5280 6.1.1 (d), 6.1.2 (g) to (i),
-- 6.1.4 (d) to (f)).
use Rattle.std.specs.Prelude.{ℕ, Bool, List, [], ◌∷◌, Option, Some, None, if◌then◌else◌}
use Rattle.std.specs.Str.{bytes_eq}
use Rattle.ts_sig.specs.Key.{Key}
use Rattle.ts_cert.specs.Certificate.{KeyInfo, Certificate}
use Rattle.ts_revoke.specs.OwnKey.{own}
use Rattle.ts_path.specs.Asked.{TrustAnchor}

-- two keys have one algorithm
abbrev pub is_alike : KeyInfo → KeyInfo → Bool
is_alike k other = bytes_eq k.algorithm.algorithm other.algorithm.algorithm

-- a key's own parameters, or others, if they are inherited
abbrev pub or_inherited : Option (List ℕ) → Bool → Option (List ℕ) → Option (List ℕ)
or_inherited (Some p) inherits others = Some p
or_inherited None inherits others = if inherits then others else None

-- the keys of the issuers above a certificate, the nearest first, the last that of the anchor
abbrev pub subject_key : Certificate → KeyInfo
subject_key c = c.tbsCertificate.subjectPublicKeyInfo

abbrev pub nearest_key : TrustAnchor → List Certificate → KeyInfo
nearest_key anchor [] = anchor.key
nearest_key anchor (c ∷ above) = subject_key c

-- the parameters that the nearest key is used with: its own, or inherited
unfoldable pub parameters_of : TrustAnchor → List Certificate → Option (List ℕ)
parameters_of anchor [] = own anchor.key
parameters_of anchor (c ∷ above) = or_inherited (own (subject_key c))
    (is_alike (subject_key c) (nearest_key anchor above)) (parameters_of anchor above)

-- algorithm and octets of the nearest key, with these parameters
abbrev pub working_key : TrustAnchor → List Certificate → Key
working_key anchor above =
    let k = nearest_key anchor above in
    record {
      algorithm = k.algorithm.algorithm;
      parameters = parameters_of anchor above;
      octets = k.subjectPublicKey;
    }
