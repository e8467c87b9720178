-- Tables of keys in ascending order, the places of keys in them, and flags of keys.
use Rattle.std.proofs.Common.{◌≡◌, ◌≢◌, ◌⊎◌, inl, inr, ℕ, zero, suc, ◌+◌, ◌<◌, ◌≤◌, Bool, true}
use Rattle.std.proofs.Common.{false, cond, ◌||◌, List, [], ◌∷◌, ◌++◌, length, take, get_or}
use Rattle.std.proofs.Common.{replicate, Option, Some, None, option_map, Ordering, Less, Equal}
use Rattle.std.proofs.Common.{Greater, nat_cmp, is_eq, is_lt, bytes_eq, HoldsAt, refl, sym, ap}
use Rattle.std.proofs.Common.{subst, ◌∙◌, arith}
use Rattle.std.specs.Borrow.{Bor}
use Rattle.std.specs.Cmp.Lexicographic.{slice_cmp}
use Rattle.std.specs.List.{AllByRecursion, AllWithin}
use Rattle.std.specs.List.Sorted.{IsNonDecreasingBy, IsPartitionPoint, IsPartitionedBy, IsPermutation}
use Rattle.std.specs.Bool.{◌==◌}
use Rattle.std.specs.Ordering.{ordering_index}
use Rattle.std.proofs.lemmas.Cmp.{nat_list_cmp_total, nat_list_eq_equiv}
use Rattle.std.proofs.lemmas.List.Sorted.{searchable_from_sorted, IsPermutation-map, list_any-IsPermutation}
use Rattle.std.proofs.lemmas.Bool.{false≢true, true≢false, or_from, or_parts}
use Rattle.std.proofs.lemmas.Bool.Decides.{eqb_tells}
use Rattle.std.proofs.lemmas.Grind.{get_or-set_at}
use Rattle.std.proofs.lemmas.List.{get_or-set_other, get_or_default, get_or-replicate, length-map, map-append}
use lib.Dec.{eqb}
use lib.ListN.{set}
use Rattle.std.proofs.Math.Seq.{take-suc}
use Rattle.std.proofs.lemmas.Map.Text.{is_eq-slice_cmp}
use Rattle.std.proofs.lemmas.Slice.Eq.{bytes_eq-Decides}
use Rattle.ts_shape.specs.Repeats.{is_among, keys_in, AreAscending}
use Rattle.ts_shape.specs.inside.Collisions.{place_of}

-- two keys are equal where comparing them says so
compared : (x k : List ℕ) (o : Ordering) → slice_cmp nat_cmp x k ≡ o → bytes_eq k x ≡ is_eq o
compared x k o e = nat_list_eq_equiv.symm k x ∙ sym (is_eq-slice_cmp x k) ∙ ap is_eq e

pub some-none : {A : Type 0} (x : A) → Some x ≡ None → ⊥
some-none {A = A} x e = subst is_some_type e tt
  where
    is_some_type : Option A → Type 0
    is_some_type (Some y) = Unit {0}
    is_some_type None = ⊥

value_or : {A : Type 0} → A → Option A → A
value_or x None = x
value_or x (Some y) = y

pub some-same : {A : Type 0} (x y : A) → Some x ≡ Some y → x ≡ y
unfolding value_or
some-same x y e = ap (value_or x) e

-- ---- what a search says

-- the place of a key lies behind those below it and before those above it
abbrev pub IsPlace : List ℕ → List (Bor (List ℕ)) → ℕ → Type 0
IsPlace k table i = IsPartitionPoint (λ y. slice_cmp nat_cmp y.now k ≡ Less) (λ y. slice_cmp nat_cmp y.now k ≡ Greater) table i

-- a key that has such a place is not in the table
pub placed-among : (k : List ℕ) (table : List (Bor (List ℕ))) (i : ℕ) → IsPlace k table i → is_among k (keys_in table) ≡ false
placed-among k [] i p = refl
placed-among k (x ∷ xs) zero p =
    ap (λ b. b || is_among k (keys_in xs)) (compared x.now k Greater (p.1 0 x (omega arith) (omega arith)))
    ∙ placed-among k xs zero ((λ j d a b. absurd (omega arith)), λ j d a b. p.1 (suc j) d (omega arith) (omega arith))
placed-among k (x ∷ xs) (suc i) p =
    ap (λ b. b || is_among k (keys_in xs)) (compared x.now k Less (p.0 0 x (omega arith) (omega arith)))
    ∙ placed-among k xs i ((λ j d a b. p.0 (suc j) d (omega arith) (omega arith)), λ j d a b. p.1 (suc j) d (omega arith) (omega arith))

-- a search asks that the answers of comparing rise
pub ascending-rises : (k : List ℕ) (table : List (Bor (List ℕ))) → AreAscending table → IsNonDecreasingBy (λ y. ordering_index (slice_cmp nat_cmp y.now k)) table
ascending-rises k table s = searchable_from_sorted nat_list_cmp_total (λ y. y.now) table k s

pub itself : (k : List ℕ) → bytes_eq k k ≡ true
itself k = nat_list_eq_equiv.refl k

-- in another order the same keys
pub among-moved : (k : List ℕ) (old new : List (Bor (List ℕ))) → IsPermutation old new → is_among k (keys_in old) ≡ is_among k (keys_in new)
among-moved k old new moved = list_any-IsPermutation (bytes_eq k) (keys_in old) (keys_in new) (IsPermutation-map (λ y. y.now) old new moved)

-- ---- the place of a key

not-again : (b : Bool) (n : ℕ) (o : Option ℕ) → b ≡ false → o ≡ Some n → cond b (Some 0) (option_map suc o) ≡ Some (suc n)
not-again b n o other e = rw (other, e) refl

-- it is that of an equal one after others that are below
pub placed-here : (k : List ℕ) (table : List (Bor (List ℕ))) (i : ℕ) → i < length table → AllWithin (λ y. slice_cmp nat_cmp y.now k ≡ Less) table 0 i
    → HoldsAt (λ y. slice_cmp nat_cmp y.now k ≡ Equal) table i → place_of k (keys_in table) ≡ Some i
unfolding place_of
placed-here k [] i lt low at = absurd (omega arith)
placed-here k (x ∷ xs) zero lt low at = ap (λ b. cond b (Some 0) (option_map suc (place_of k (keys_in xs)))) (compared x.now k Equal (at x))
placed-here k (x ∷ xs) (suc i) lt low at =
    not-again (bytes_eq k x.now) i (place_of k (keys_in xs)) (compared x.now k Less (low 0 x (omega arith) (omega arith)))
    (placed-here k xs i (omega arith) (λ j d a b. low (suc j) d (omega arith) (omega arith)) at)

-- a key that is not in the table has none
pub placed-nowhere : (k : List ℕ) (keys : List (List ℕ)) → is_among k keys ≡ false → place_of k keys ≡ None
unfolding place_of
placed-nowhere k [] e = refl
placed-nowhere k (x ∷ keys) e =
    let parts = or_parts (bytes_eq k x) (is_among k keys) e in
    rw (parts.0, placed-nowhere k keys parts.1) refl

absent : (b c : Bool) (o : Option ℕ) → (o ≡ None → c ≡ false) → cond b (Some 0) (option_map suc o) ≡ None → b || c ≡ false
absent true c o h e = absurd (some-none 0 e)
absent false c None h e = h refl
absent false c (Some n) h e = absurd (some-none (suc n) e)

-- and one that has none is not in the table
pub place-absent : (k : List ℕ) (keys : List (List ℕ)) → place_of k keys ≡ None → is_among k keys ≡ false
unfolding place_of
place-absent k [] e = refl
place-absent k (x ∷ keys) e = absent (bytes_eq k x) (is_among k keys) (place_of k keys) (place-absent k keys) e

-- where a place is that of a head, or one after it
abbrev IsPlaced : Bool → Option ℕ → ℕ → Type 0
IsPlaced b o p = ((b ≡ true) × (p ≡ 0)) ⊎ ((n : ℕ) × (b ≡ false) × (o ≡ Some n) × (p ≡ suc n))

placed : (b : Bool) (o : Option ℕ) (p : ℕ) → cond b (Some 0) (option_map suc o) ≡ Some p → IsPlaced b o p
placed true o p e = inl (refl, sym (some-same 0 p e))
placed false None p e = absurd (some-none p (sym e))
placed false (Some n) p e = inr (n, refl, refl, sym (some-same (suc n) p e))

-- its place is within the table
pub place-within : (k : List ℕ) (keys : List (List ℕ)) (p : ℕ) → place_of k keys ≡ Some p → p < length keys
unfolding place_of
place-within k [] p e = absurd (some-none p (sym e))
place-within k (x ∷ keys) p e = by_case (place-within k keys) (placed (bytes_eq k x) (place_of k keys) p e)
  where
    by_case : ((n : ℕ) → place_of k keys ≡ Some n → n < length keys) → IsPlaced (bytes_eq k x) (place_of k keys) p → p < suc (length keys)
    by_case within (inl here) = let zero = here.1 in omega arith
    by_case within (inr there) =
        let lt = within there.0 there.2 in
        let more = there.3 in
        omega arith

-- no two keys have one place
pub place-same : (k q : List ℕ) (keys : List (List ℕ)) (p : ℕ) → place_of k keys ≡ Some p → place_of q keys ≡ Some p → q ≡ k
unfolding place_of
place-same k q [] p e f = absurd (some-none p (sym e))
place-same k q (x ∷ keys) p e f = by_case (place-same k q keys) (placed (bytes_eq k x) (place_of k keys) p e) (placed (bytes_eq q x) (place_of q keys) p f)
  where
    by_case : ((n : ℕ) → place_of k keys ≡ Some n → place_of q keys ≡ Some n → q ≡ k) → IsPlaced (bytes_eq k x) (place_of k keys) p → IsPlaced (bytes_eq q x) (place_of q keys) p → q ≡ k
    by_case behind (inl a) (inl b) = (bytes_eq-Decides q x).0 b.0 ∙ sym ((bytes_eq-Decides k x).0 a.0)
    by_case behind (inl a) (inr b) = let zero = a.1 in let more = b.3 in absurd (omega arith)
    by_case behind (inr a) (inl b) = let zero = b.1 in let more = a.3 in absurd (omega arith)
    by_case behind (inr a) (inr b) =
        let one = a.3 in
        let other = b.3 in
        let same : b.0 ≡ a.0 = omega arith in
        behind a.0 a.2 (b.2 ∙ ap (λ (n : ℕ). Some n) same)

-- ---- what a search for the first key that is not below this one says

lower : (o p : Ordering) → ordering_index o ≤ ordering_index p → is_lt p ≡ true → is_lt o ≡ true
lower Less p le e = refl
lower Equal Less le e = absurd (omega arith)
lower Greater Less le e = absurd (omega arith)
lower Equal Equal le e = e
lower Equal Greater le e = e
lower Greater Equal le e = e
lower Greater Greater le e = e

-- keys in order are first those below it
pub parted : (k : List ℕ) (table : List (Bor (List ℕ))) → AreAscending table → IsPartitionedBy (λ y. is_lt (slice_cmp nat_cmp y.now k)) table
parted k table s i j d le lt e = lower _ _ (ascending-rises k table s i j d le lt) e

is-less : (o : Ordering) → is_lt o ≡ true → o ≡ Less
is-less Less e = refl
is-less Equal e = absurd (false≢true e)
is-less Greater e = absurd (false≢true e)

is-greater : (o p : Ordering) → is_lt o ≡ false → is_eq o ≡ false → ordering_index o ≤ ordering_index p → p ≡ Greater
is-greater Less p low other le = absurd (true≢false low)
is-greater Equal p low other le = absurd (true≢false other)
is-greater Greater Less low other le = absurd (omega arith)
is-greater Greater Equal low other le = absurd (omega arith)
is-greater Greater Greater low other le = refl

-- the first key that is not below this one
abbrev pub IsFrom : List ℕ → List (Bor (List ℕ)) → ℕ → Type 0
IsFrom k table i = IsPartitionPoint (λ y. is_lt (slice_cmp nat_cmp y.now k) ≡ true) (λ y. is_lt (slice_cmp nat_cmp y.now k) ≡ false) table i

equal-order : (o : Ordering) → is_eq o ≡ true → o ≡ Equal
equal-order Equal e = refl
equal-order Less e = absurd (false≢true e)
equal-order Greater e = absurd (false≢true e)

-- where that is equal to it, there it is
pub from-here : (k : List ℕ) (table : List (Bor (List ℕ))) (i : ℕ) (x : Bor (List ℕ))
    → IsFrom k table i → i < length table → bytes_eq (get_or table i x).now k ≡ true
    → place_of k (keys_in table) ≡ Some i
from-here k table i x from lt same =
    placed-here k table i lt (λ j d a b. is-less _ (from.0 j d a b))
    (λ d. ap (λ (y : Bor (List ℕ)). slice_cmp nat_cmp y.now k) (get_or_default table i d x lt)
    ∙ equal-order _ (sym (compared (get_or table i x).now k _ refl) ∙ nat_list_eq_equiv.symm k (get_or table i x).now ∙ same))

-- that is another, or there is none
abbrev pub IsOther : List ℕ → List (Bor (List ℕ)) → ℕ → Type 0
IsOther k table i = (length table ≤ i) ⊎ ((x : Bor (List ℕ)) × (bytes_eq (get_or table i x).now k ≡ false))

-- then it is nowhere
pub from-nowhere : (k : List ℕ) (table : List (Bor (List ℕ))) (i : ℕ) → AreAscending table → IsFrom k table i → IsOther k table i → place_of k (keys_in table) ≡ None
from-nowhere k table i s from other = placed-nowhere k (keys_in table) (placed-among k table i ((λ j d a b. is-less _ (from.0 j d a b)), behind other))
  where
    behind : IsOther k table i → AllWithin (λ y. slice_cmp nat_cmp y.now k ≡ Greater) table i (length table)
    behind (inl none) j d a b = absurd (omega arith)
    behind (inr apart) j d a b =
        let lt : i < length table = omega arith in
        let unlike : bytes_eq (get_or table i d).now k ≡ false = ap (λ (y : Bor (List ℕ)). bytes_eq y.now k) (get_or_default table i d apart.0 lt) ∙ apart.1 in
        is-greater (slice_cmp nat_cmp (get_or table i d).now k) _ (from.1 i d (omega arith) lt)
        (sym (compared (get_or table i d).now k _ refl) ∙ nat_list_eq_equiv.symm k (get_or table i d).now ∙ unlike) (ascending-rises k table s i j d a b)

-- ---- which keys were met

-- those whose place in a table is marked
abbrev pub AreMarked : List Bool → List (List ℕ) → List (List ℕ) → Type 0
AreMarked met keys seen = (q : List ℕ) (p : ℕ) → place_of q keys ≡ Some p → get_or met p false ≡ is_among q seen

other-key : (k q : List ℕ) (keys : List (List ℕ)) → (place_of q keys ≡ place_of k keys → ⊥) → bytes_eq q k ≡ false
other-key k q keys apart = by_test (bytes_eq q k) refl
  where
    by_test : (b : Bool) → bytes_eq q k ≡ b → b ≡ false
    by_test false e = refl
    by_test true e = absurd (apart (ap (λ (x : List ℕ). place_of x keys) ((bytes_eq-Decides q k).0 e)))

-- no key is marked yet
pub none-marked : (n : ℕ) (keys : List (List ℕ)) → length keys ≤ n → AreMarked (replicate n false) keys []
none-marked n keys le q p e = let lt = place-within q keys p e in get_or-replicate n p false false (omega arith)

-- a key that has no place marks none
pub marked-beside : (met : List Bool) (keys seen : List (List ℕ)) (k : List ℕ) → place_of k keys ≡ None → AreMarked met keys seen → AreMarked met keys (k ∷ seen)
marked-beside met keys seen k nowhere marked q p e =
    marked q p e ∙ sym (ap (λ b. b || is_among q seen) (other-key k q keys (λ same. some-none p (sym e ∙ same ∙ nowhere))))

-- another marks its own
pub marked-more : (met : List Bool) (keys seen : List (List ℕ)) (k : List ℕ) (i : ℕ) → place_of k keys ≡ Some i → i < length met → AreMarked met keys seen → AreMarked (set met i true) keys (k ∷ seen)
marked-more met keys seen k i here lt marked q p e = by_place (eqb_tells p i)
  where
    by_place : ((eqb p i ≡ true) × (p ≡ i)) ⊎ ((eqb p i ≡ false) × (p ≢ i)) → get_or (set met i true) p false ≡ is_among q (k ∷ seen)
    by_place (inl is) =
        let same : q ≡ k = place-same k q keys i here (e ∙ ap Some is.1) in
        get_or-set_at met i p true false is.1 lt ∙ sym (ap (λ b. b || is_among q seen) (ap (λ (x : List ℕ). bytes_eq x k) same ∙ itself k))
    by_place (inr apart) =
        get_or-set_other met i p true false apart.1 ∙ marked q p e
        ∙ sym (ap (λ b. b || is_among q seen) (other-key k q keys (λ same. apart.1 (some-same _ _ (sym e ∙ same ∙ here)))))

-- ---- flags, one for each answer of a function

-- a key whose flag is not set is none of those whose flags are
pub flag-new : (flag : List ℕ → ℕ) (flags : List Bool) (k : List ℕ) (keys : List (List ℕ))
    → AllByRecursion (λ q. get_or flags (flag q) false ≡ true) keys
    → get_or flags (flag k) false ≡ false → is_among k keys ≡ false
flag-new flag flags k [] set new = refl
flag-new flag flags k (q ∷ keys) set new = or_from (bytes_eq k q) (is_among k keys) (by_test (bytes_eq k q) refl) (flag-new flag flags k keys set.1 new)
  where
    by_test : (b : Bool) → bytes_eq k q ≡ b → b ≡ false
    by_test false e = refl
    by_test true e = absurd (false≢true (sym new ∙ ap (λ (x : List ℕ). get_or flags (flag x) false) ((bytes_eq-Decides k q).0 e) ∙ set.0))

set-still : (flags : List Bool) (i j : ℕ) → i < length flags → get_or flags j false ≡ true → get_or (set flags i true) j false ≡ true
set-still flags i j lt is = by_place (eqb_tells j i)
  where
    by_place : ((eqb j i ≡ true) × (j ≡ i)) ⊎ ((eqb j i ≡ false) × (j ≢ i)) → get_or (set flags i true) j false ≡ true
    by_place (inl e) = get_or-set_at flags i j true false e.1 lt
    by_place (inr e) = get_or-set_other flags i j true false e.1 ∙ is

-- one more flag leaves the others set
pub flag-more : (flag : List ℕ → ℕ) (flags : List Bool) (i : ℕ) (keys : List (List ℕ))
    → i < length flags → AllByRecursion (λ q. get_or flags (flag q) false ≡ true) keys
    → AllByRecursion (λ q. get_or (set flags i true) (flag q) false ≡ true) keys
flag-more flag flags i [] lt all = tt
flag-more flag flags i (q ∷ keys) lt all = (set-still flags i (flag q) lt all.0, flag-more flag flags i keys lt all.1)

flag-last : (flag : List ℕ → ℕ) (flags : List Bool) (k : List ℕ) (keys : List (List ℕ)) → flag k < length flags → AllByRecursion (λ q. get_or flags (flag q) false ≡ true) keys
    → AllByRecursion (λ q. get_or (set flags (flag k) true) (flag q) false ≡ true) (keys ++ k ∷ [])
flag-last flag flags k [] lt all = (get_or-set_at flags (flag k) (flag k) true false refl lt, tt)
flag-last flag flags k (q ∷ keys) lt all = (set-still flags (flag k) (flag q) lt all.0, flag-last flag flags k keys lt all.1)

keys-next : (table : List (Bor (List ℕ))) (i : ℕ) (d : Bor (List ℕ)) → i < length table → keys_in (take (i + 1) table) ≡ keys_in (take i table) ++ (get_or table i d).now ∷ []
keys-next table i d lt =
    let next : i + 1 ≡ suc i = omega arith in
    ap (λ (n : ℕ). keys_in (take n table)) next ∙ ap keys_in (take-suc table i d lt) ∙ map-append (λ y. y.now) (take i table) (get_or table i d ∷ [])

-- one more flag for the next key of a table
pub flagged-next : (flag : List ℕ → ℕ) (flags : List Bool) (table : List (Bor (List ℕ))) (i n : ℕ) (d : Bor (List ℕ)) → i < length table → n ≡ flag (get_or table i d).now → n < length flags
    → AllByRecursion (λ q. get_or flags (flag q) false ≡ true) (keys_in (take i table)) → AllByRecursion (λ q. get_or (set flags n true) (flag q) false ≡ true) (keys_in (take (i + 1) table))
flagged-next flag flags table i n d within is lt all =
    let k = (get_or table i d).now in
    rw (keys-next table i d within, is) (flag-last flag flags k (keys_in (take i table)) (subst (λ (m : ℕ). m < length flags) is lt) all)

of-length-none : (table : List (Bor (List ℕ))) → length table ≡ 0 → keys_in table ≡ []
of-length-none [] e = refl
of-length-none (x ∷ table) e = absurd (omega arith)

-- a table that holds nothing holds no keys
pub no-keys : (table : List (Bor (List ℕ))) → (length table == 0) ≡ true → keys_in table ≡ []
no-keys table e = by_test (eqb_tells (length table) 0)
  where
    by_test : ((eqb (length table) 0 ≡ true) × (length table ≡ 0)) ⊎ ((eqb (length table) 0 ≡ false) × (length table ≢ 0)) → keys_in table ≡ []
    by_test (inl none) = of-length-none table none.1
    by_test (inr some) = absurd (false≢true (sym some.0 ∙ e))

-- the place of a key in a table
pub place-in-table : (k : List ℕ) (table : List (Bor (List ℕ))) (p : ℕ) → place_of k (keys_in table) ≡ Some p → p < length table
place-in-table k table p e =
    let lt = place-within k (keys_in table) p e in
    let same = length-map table (λ y. y.now) in
    omega arith
