-- A table of lists before and after a command.
use Rattle.std.proofs.Common.{◌≡◌, ◌<◌, ℕ, zero, suc, Bool, true, false, not, cond, List, [], ◌∷◌, ◌++◌, length, get_or, refl, sym, ◌∙◌, ap, subst, arith, Option, Some, None, Ok}
use Rattle.std.specs.Prelude.{slice_set, nat_le, option_map}
use Rattle.std.specs.List.{find}
use Rattle.ts_store.specs.Anchors.{refuse_if}
use Rattle.ts_store.specs.Changes.{Becomes}
use Rattle.ts_store.specs.Lists.{list_in, is_newer, has_slot, replace_slot, put_by, put_list, place_by}
use Rattle.ts_command.specs.declared.outcome.Refusal.{Refusal}
use Rattle.ts_command.specs.declared.outcome.Refusal.TheVariants.{OlderCrl, StoreFull}
use Rattle.ts_store.specs.declared.stored.StoredCrl.{StoredCrl}

none-some : {A : Type 0} (x : A) → (let n : Option A = None in n ≡ Some x) → ⊥
none-some x e = absurd cc

one-less : (i : ℕ) (o : Option ℕ) → Some (suc i) ≡ option_map suc o → Some i ≡ o
one-less i None e = absurd (none-some (suc i) (sym e))
one-less i (Some k) e = ap (λ n. Some n) (cc_suc e)
  where
    cc_suc : Some (suc i) ≡ Some (suc k) → i ≡ k
    cc_suc h = cc

none-less : (o : Option ℕ) → None ≡ option_map suc o → None ≡ o
none-less None e = refl
none-less (Some k) e = absurd (none-some (suc k) e)

zero-less : (o : Option ℕ) → Some zero ≡ option_map suc o → ⊥
zero-less None e = none-some zero (sym e)
zero-less (Some k) e = absurd cc

-- none meets a test
pub not-found : {A : Type 0} (test : A → Bool) (xs : List A) → None ≡ place_by test xs → find test xs ≡ None
not-found test [] e = refl
not-found {A} test (x ∷ xs) e = by (test x) (not-found test xs) e
  where
    by : (b : Bool) → (None ≡ place_by test xs → find test xs ≡ None) → None ≡ cond b (Some 0) (option_map suc (place_by test xs)) → cond b (Some x) (find test xs) ≡ None
    by true more h = absurd (none-some 0 h)
    by false more h = more (none-less (place_by test xs) h)

-- the first that meets a test is at its place
pub is-found : {A : Type 0} (test : A → Bool) (xs : List A) (i : ℕ) (d : A) → Some i ≡ place_by test xs → i < length xs → find test xs ≡ Some (get_or xs i d)
is-found test [] i d e more = absurd (omega (arith, more))
is-found {A} test (x ∷ xs) zero d e more = by (test x) e
  where
    by : (b : Bool) → Some zero ≡ cond b (Some 0) (option_map suc (place_by test xs)) → cond b (Some x) (find test xs) ≡ Some x
    by true h = refl
    by false h = absurd (zero-less (place_by test xs) h)
is-found {A} test (x ∷ xs) (suc i) d e more = by (test x) (λ h. is-found test xs i d h (omega (arith, more))) e
  where
    by : (b : Bool) → (Some i ≡ place_by test xs → find test xs ≡ Some (get_or xs i d))
        → Some (suc i) ≡ cond b (Some 0) (option_map suc (place_by test xs))
        → cond b (Some x) (find test xs) ≡ Some (get_or xs i d)
    by true rest h = absurd cc
    by false rest h = rest (one-less i (place_by test xs) h)

-- it is one of the list's
pub is-within : {A : Type 0} (test : A → Bool) (xs : List A) (i : ℕ) → Some i ≡ place_by test xs → i < length xs
is-within test [] i e = absurd (none-some i (sym e))
is-within test (x ∷ xs) zero e = omega arith
is-within {A} test (x ∷ xs) (suc i) e = by (test x) (is-within test xs i) e
  where
    by : (b : Bool) → (Some i ≡ place_by test xs → i < length xs) → Some (suc i) ≡ cond b (Some 0) (option_map suc (place_by test xs)) → suc i < length (x ∷ xs)
    by true rest h = absurd cc
    by false rest h = let low = rest (one-less i (place_by test xs) h) in omega (arith, low)

-- a list takes the place of the first one of its slot
pub set-there : (new : StoredCrl) (lists : List StoredCrl) (i : ℕ) → Some i ≡ place_by (has_slot (list_in new)) lists → i < length lists → slice_set lists i new ≡ replace_slot new lists
set-there new [] i e more = absurd (omega (arith, more))
set-there new (x ∷ xs) zero e more = by (has_slot (list_in new) x) e
  where
    by : (b : Bool) → Some zero ≡ cond b (Some 0) (option_map suc (place_by (has_slot (list_in new)) xs)) → new ∷ xs ≡ cond b (new ∷ xs) (x ∷ replace_slot new xs)
    by true h = refl
    by false h = absurd (zero-less (place_by (has_slot (list_in new)) xs) h)
set-there new (x ∷ xs) (suc i) e more = by (has_slot (list_in new) x) (λ h. set-there new xs i h (omega (arith, more))) e
  where
    by : (b : Bool) → (Some i ≡ place_by (has_slot (list_in new)) xs
        → slice_set xs i new ≡ replace_slot new xs)
        → Some (suc i) ≡ cond b (Some 0) (option_map suc (place_by (has_slot (list_in new)) xs)) → x
        ∷ slice_set xs i new ≡ cond b (new ∷ xs) (x ∷ replace_slot new xs)
    by true rest h = absurd cc
    by false rest h = ap (λ l. x ∷ l) (rest (one-less i (place_by (has_slot (list_in new)) xs) h))

refused-if : (lists new : List StoredCrl) (b : Bool) (refusal : Refusal) → b ≡ true → Becomes (Some refusal) lists lists (refuse_if b refusal (Ok new))
refused-if lists new true refusal e = (refl, refl)
refused-if lists new false refusal e = absurd cc

done-if : (lists new after : List StoredCrl) (b : Bool) (refusal : Refusal) → b ≡ false → after ≡ new → Becomes None lists after (refuse_if b refusal (Ok new))
done-if lists new after true refusal e is = absurd cc
done-if lists new after false refusal e is = (refl, is)

-- a list of a new slot
pub is-full : (new : StoredCrl) (lists : List StoredCrl)
    → None ≡ place_by (has_slot (list_in new)) lists → nat_le 1024 (length lists) ≡ true
    → Becomes (Some StoreFull) lists lists (put_list new lists)
is-full new lists none full =
    subst (λ (o : Option StoredCrl). Becomes (Some StoreFull) lists lists (put_by new lists o))
    (sym (not-found (has_slot (list_in new)) lists none))
    (refused-if lists (lists ++ new ∷ []) (nat_le 1024 (length lists)) StoreFull full)

pub is-last : (new : StoredCrl) (lists after : List StoredCrl)
    → None ≡ place_by (has_slot (list_in new)) lists → nat_le 1024 (length lists) ≡ false
    → after ≡ lists ++ new ∷ [] → Becomes None lists after (put_list new lists)
is-last new lists after none full is =
    subst (λ (o : Option StoredCrl). Becomes None lists after (put_by new lists o))
    (sym (not-found (has_slot (list_in new)) lists none))
    (done-if lists (lists ++ new ∷ []) after (nat_le 1024 (length lists)) StoreFull full is)

-- a list of a held slot
pub is-older : (new held : StoredCrl) (lists : List StoredCrl) (i : ℕ)
    → Some i ≡ place_by (has_slot (list_in new)) lists → i < length lists
    → held ≡ get_or lists i held → is_newer (list_in new) (list_in held) ≡ false
    → Becomes (Some OlderCrl) lists lists (put_list new lists)
is-older new held lists i place more is older =
    subst (λ (o : Option StoredCrl). Becomes (Some OlderCrl) lists lists (put_by new lists o)) (ap (λ (h : StoredCrl). Some h) is ∙ sym (is-found (has_slot (list_in new)) lists i held place more))
    (refused-if lists (replace_slot new lists) (not (is_newer (list_in new) (list_in held))) OlderCrl (ap not older))

pub is-replaced : (new held : StoredCrl) (lists after : List StoredCrl) (i : ℕ)
    → Some i ≡ place_by (has_slot (list_in new)) lists → i < length lists
    → held ≡ get_or lists i held → is_newer (list_in new) (list_in held) ≡ true
    → after ≡ slice_set lists i new → Becomes None lists after (put_list new lists)
is-replaced new held lists after i place more is newer set =
    subst (λ (o : Option StoredCrl). Becomes None lists after (put_by new lists o)) (ap (λ (h : StoredCrl). Some h) is ∙ sym (is-found (has_slot (list_in new)) lists i held place more))
    (done-if lists (replace_slot new lists) after (not (is_newer (list_in new) (list_in held))) OlderCrl (ap not newer) (set ∙ set-there new lists i place more))
