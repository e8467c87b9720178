-- How long parts in a row are at most.
use Rattle.std.proofs.Common.{◌≡◌, ℕ, ◌*◌, ◌≤◌, true, List, [], ◌∷◌, length, ap, arith, length-append}
use Rattle.std.specs.List.{flat_map, list_all, AllByRecursion}
use Rattle.std.proofs.lemmas.List.Concat.{flat_map-cons}
use Rattle.ts_der.specs.ObjectIdentifier.{is_oid}
use Rattle.ts_codec.specs.Parts.{blob8}
use Rattle.ts_codec.proofs.Truths.{each_true, few_octets}

-- parts of at most so many octets each
pub parts_short : {A : Type 0} (encode : A → List ℕ) (most : ℕ) (xs : List A) → AllByRecursion (λ x. length (encode x) ≤ most) xs → length (flat_map encode xs) ≤ most * length xs
parts_short encode most [] short = omega arith
parts_short encode most (x ∷ xs) short =
    omega (arith, short.0, parts_short encode most xs short.1, length-append (encode x) (flat_map encode xs), ap length (flat_map-cons encode x xs))

pub oids_short : (xs : List (List ℕ)) → list_all is_oid xs ≡ true → length (flat_map blob8 xs) ≤ 129 * length xs
oids_short xs good = parts_short blob8 129 xs (each_true is_oid (λ c. length (blob8 c) ≤ 129) (λ c h. let k = few_octets c h in omega (arith, k)) xs good)
