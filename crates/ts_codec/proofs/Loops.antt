-- A loop that reads items: what was read before, and what reading the others gives.
use Rattle.std.proofs.Common.{◌≡◌, ℕ, suc, ◌-◌, ◌+◌, ◌≤◌, ◌<◌, List, [], ◌∷◌, ◌++◌, Option, Some, None, refl, sym, ap, ◌∙◌, append_assoc, arith}
use Rattle.std.proofs.lemmas.List.{append-nil}
use Rattle.ts_codec.specs.declared.fault.ReadFault.{ReadFault}
use Rattle.ts_codec.specs.declared.fault.ReadFault.TheVariants as faults
use Rattle.ts_codec.specs.Reading.{Reader, ◌>>=◌, Fails, many_at}

abbrev pub with_front : {A : Type 0} → List A → Option (List A × List ℕ) → Option (List A × List ℕ)
with_front front reading = reading >>= λ x. Some (front ++ x.0, x.1)

regroup : {A : Type 0} (front : List A) (x : A) (reading : Option (List A × List ℕ)) → with_front front (reading >>= λ y. Some (x ∷ y.0, y.1)) ≡ with_front (front ++ x ∷ []) reading
regroup {A} front x (Some y) = ap (λ (xs : List A). Some (xs, y.1)) (simp append_assoc)
regroup front x None = refl

pub goes_on : {A : Type 0} (item : Reader A) (front : List A) (count i : ℕ) (octets : List ℕ) (x : A) (after : List ℕ) (total : Option (List A × List ℕ)) → i < count → item octets ≡ Some (x, after)
    → with_front front (many_at item (count - i) octets) ≡ total → with_front (front ++ x ∷ []) (many_at item (count - (i + 1)) after) ≡ total
unfolding many_at
goes_on item front count i octets x after total lt h so_far =
    let k : count - i ≡ suc (count - (i + 1)) = omega arith in
    let one : with_front front (many_at item (count - i) octets) ≡ with_front (front ++ x ∷ [])
    (many_at item (count - (i + 1)) after) =
    rw (k, h) (regroup front x (many_at item (count - (i + 1)) after)) in
    sym one ∙ so_far

pub ends : {A : Type 0} (item : Reader A) (e : ReadFault) (front : List A) (count i : ℕ) (octets : List ℕ) (total : Option (List A × List ℕ)) → i < count → Fails e (item octets)
    → with_front front (many_at item (count - i) octets) ≡ total → Fails e total
unfolding many_at
ends item faults.Memory front count i octets total lt h so_far = tt
ends item faults.Form front count i octets total lt h so_far =
    let k : count - i ≡ suc (count - (i + 1)) = omega arith in
    let one : with_front front (many_at item (count - i) octets) ≡ None = rw (k, h) refl in
    sym so_far ∙ one

pub is_done : {A : Type 0} (item : Reader A) (front : List A) (count i : ℕ) (octets : List ℕ)
    (total : Option (List A × List ℕ)) → count ≤ i
    → with_front front (many_at item (count - i) octets) ≡ total → total ≡ Some (front, octets)
unfolding many_at
is_done {A} item front count i octets total le so_far =
    let k : count - i ≡ 0 = omega arith in
    let one : with_front front (many_at item (count - i) octets) ≡ Some (front, octets) = rw k (ap (λ (xs : List A). Some (xs, octets)) (append-nil front)) in
    sym so_far ∙ one
