-- The pieces of a CRL.
use Rattle.std.proofs.Common.{◌≡◌, ℕ, ◌<◌, ◌≤◌, List, [], ◌∷◌, ◌++◌, length, get_or, take, refl, ap}
use Rattle.std.specs.Prelude.{map}
use Rattle.std.specs.List.{flat_map}
use Rattle.ts_der.specs.declared.oid.OidRef.{OidRef}
use Rattle.ts_der.specs.Element.{length_octets}
use Rattle.ts_crl.specs.declared.version.ListVersion.TheVariants.{V2}
use Rattle.ts_crl.specs.Encoding.{crl_version_octets}
use Rattle.ts_make.specs.Extensions.{extension_octets}
use Rattle.ts_make.specs.CrlExtensions.{null_extension}
use Rattle.ts_make.proofs.TooLong.{pieces-next}

-- version 2
pub version-2 : 2 ∷ 1 ∷ 1 ∷ [] ≡ crl_version_octets V2
unfolding length_octets
version-2 = refl

nulls : (xs : List OidRef) → flat_map extension_octets (map null_extension xs) ≡ flat_map (λ x. extension_octets (null_extension x)) xs
nulls [] = refl
nulls (x ∷ xs) = ap (λ (rest : List ℕ). extension_octets (null_extension x) ++ rest) (nulls xs)

-- the first critical extensions, and the next, are no longer than all
pub nulls-next : (old : List ℕ) (xs : List OidRef) (i : ℕ) (x : OidRef) → i < length xs → x ≡ get_or xs i x
    → length ((old ++ flat_map extension_octets (map null_extension (take i xs))) ++ extension_octets (null_extension x)) ≤ length (old ++ flat_map extension_octets (map null_extension xs))
nulls-next old xs i x h is = rw (nulls (take i xs), nulls xs) (pieces-next (λ x. extension_octets (null_extension x)) old xs i x h is)
