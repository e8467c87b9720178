-- Lists of references, changed at a place, and what they refer to.
use Rattle.std.proofs.Common.{◌≡◌, ◌<◌, ◌≤◌, ◌∷◌, ℕ, zero, suc, List, [], Option, length, map, get_or, refl, ap, arith}
use Rattle.std.specs.Borrow.{Bor}
use Rattle.std.specs.List.{remove}
use Rattle.std.specs.Prelude.{slice_set}
use Rattle.ts_store.specs.Anchors.{with_purposes}
use Rattle.ts_store.specs.Contents.{anchor_in}
use Rattle.ts_store.specs.declared.snapshot.BorrowedAnchor.{BorrowedAnchor}

pub removed : {A B : Type 0} (f : A → B) (xs : List A) (i : ℕ) → map f (remove xs i) ≡ remove (map f xs) i
removed f [] zero = refl
removed f [] (suc i) = refl
removed f (x ∷ xs) zero = refl
removed f (x ∷ xs) (suc i) = ap (λ l. f x ∷ l) (removed f xs i)

pub replaced : {A B : Type 0} (f : A → B) (xs : List A) (i : ℕ) (x : A) → map f (slice_set xs i x) ≡ slice_set (map f xs) i (f x)
replaced f [] i x = refl
replaced f (y ∷ ys) zero x = refl
replaced f (y ∷ ys) (suc i) x = ap (λ l. f y ∷ l) (replaced f ys i x)

-- the anchor at a place gets purposes
pub purposes_set : (anchors : List BorrowedAnchor) (i : ℕ) (anchor : BorrowedAnchor) (purposes : Bor (Option (List (List ℕ)))) → i < length anchors → anchor ≡ get_or anchors i anchor
    → map anchor_in (slice_set anchors i (record anchor { purposes = purposes })) ≡ with_purposes (map anchor_in anchors) i purposes.now
purposes_set [] i anchor purposes more is = absurd (omega (arith, more))
purposes_set (a ∷ anchors) zero anchor purposes more is = ap (λ (b : BorrowedAnchor). record (anchor_in b) { purposes = purposes.now } ∷ map anchor_in anchors) is
purposes_set (a ∷ anchors) (suc i) anchor purposes more is = ap (λ l. anchor_in a ∷ l) (purposes_set anchors i anchor purposes (omega (arith, more)) is)

-- there is none at a place behind all
pub no_purposes_set : (anchors : List BorrowedAnchor) (i : ℕ) (purposes : Option (List (List ℕ))) → length anchors ≤ i → map anchor_in anchors ≡ with_purposes (map anchor_in anchors) i purposes
no_purposes_set [] i purposes few = refl
no_purposes_set (a ∷ anchors) zero purposes few = absurd (omega (arith, few))
no_purposes_set (a ∷ anchors) (suc i) purposes few = ap (λ l. anchor_in a ∷ l) (no_purposes_set anchors i purposes (omega (arith, few)))
