-- Tests that hold together, and of each of a list.
use Rattle.std.proofs.Common.{◌≡◌, ◌<◌, ◌&&◌, ℕ, Bool, true, false, List, [], ◌∷◌, length, refl, arith}
use Rattle.std.specs.List.{list_all, AllByRecursion}
use Rattle.std.specs.Prelude.{nat_lt}
use Rattle.std.proofs.lemmas.Bool.{ltb-true}
use Rattle.ts_der.specs.ObjectIdentifier.{is_oid}

pub first_true : (a b : Bool) → a && b ≡ true → a ≡ true
first_true true b h = refl
first_true false b h = absurd (cc h)

pub second_true : (a b : Bool) → a && b ≡ true → b ≡ true
second_true true b h = h
second_true false b h = absurd (cc h)

pub both_true : (a b : Bool) → a ≡ true → b ≡ true → a && b ≡ true
both_true true b h k = k
both_true false b h k = h

-- each meets a test, and so the test of all
pub all_true : {A : Type 0} (p : A → Bool) (F : A → Type 0) → ((x : A) → F x → p x ≡ true) → (xs : List A) → AllByRecursion F xs → list_all p xs ≡ true
all_true p F one [] fit = refl
all_true p F one (x ∷ xs) fit = both_true (p x) (list_all p xs) (one x fit.0) (all_true p F one xs fit.1)

pub each_true : {A : Type 0} (p : A → Bool) (F : A → Type 0) → ((x : A) → p x ≡ true → F x) → (xs : List A) → list_all p xs ≡ true → AllByRecursion F xs
each_true p F one [] good = tt
each_true p F one (x ∷ xs) good = (one x (first_true (p x) (list_all p xs) good), each_true p F one xs (second_true (p x) (list_all p xs) good))

-- an octet holds the length of an object identifier
pub few_octets : (content : List ℕ) → is_oid content ≡ true → length content < 129
unfolding is_oid
few_octets content is = ltb-true (length content) 129 (second_true (nat_lt 0 (length content)) (nat_lt (length content) 129) (first_true _ _ is))
