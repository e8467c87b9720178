-- What the ends of the serial numbers of entries show.
use Rattle.std.proofs.Common.{◌≡◌, ℕ, ◌+◌, ◌-◌, ◌<◌, ◌≤◌, zero, suc, Bool, true, false, not, cond, eqb, ◌||◌, List, [], ◌∷◌, length}
use Rattle.std.proofs.Common.{get_or, Option, Some, None, Result, Ok, Err, refl, sym, ap, subst, ◌∙◌, arith, ◌⊎◌, inl, inr, take, drop, length-drop, true≢false}
use Rattle.std.specs.Prelude.{map, is_ok}
use Rattle.std.specs.List.{find, list_any}
use Rattle.std.specs.List.Sorted.{IsSorted, IsBinarySearchResult, IsPermutation}
use Rattle.std.specs.Ordering.{nat_cmp}
use Rattle.std.specs.Str.{bytes_eq}
use Rattle.std.proofs.lemmas.Bool.{cases_lt}
use Rattle.std.proofs.lemmas.Bool.Decides.{nat_tests}
use Rattle.std.proofs.lemmas.List.{get_or_default, take_all}
use Rattle.std.proofs.lemmas.List.Folds.{list_any_none}
use Rattle.std.proofs.lemmas.List.Sorted.{searched, IsNonDecreasingBy-from_sort, list_any-IsPermutation}
use Rattle.std.proofs.lemmas.Slice.Eq.{bytes_eq-Decides}
use Rattle.ts_der.specs.Answer.{refusal}
use Rattle.ts_der.specs.Element.{Tlv, inside}
use Rattle.ts_shape.specs.Items.{items_at}
use Rattle.ts_crl.specs.Entries.{has_serial}
use Rattle.ts_crl.specs.List.{LocatedEntry, RevokedCertificate, unlocated_entry}
use Rattle.ts_crl.specs.inside.Endings.{ending_of, has_ending, with_octets, AreListed}
use Rattle.ts_crl.specs.Reading.{located_entry_of, revoked_of}
use Rattle.ts_crl.specs.inside.Marks.{Mark, mark_of}
use Rattle.ts_crl.proofs.Marked.{Marked, are-marked}

-- ---- a search

at : (n : ℕ) (xs : List ℕ) (i : ℕ) → i < length xs → get_or xs i 0 ≡ n → list_any (eqb n) xs ≡ true
at n [] i l e = absurd (omega (arith, l))
at n (x ∷ xs) zero l e = let t : eqb n x ≡ true = grind (arith, nat_tests, e) in ap (λ b. b || list_any (eqb n) xs) t
at n (x ∷ xs) (suc i) l e = or_true (eqb n x) (list_any (eqb n) xs) (at n xs i (omega (arith, l)) e)
  where
    or_true : (a b : Bool) → b ≡ true → a || b ≡ true
    or_true true b t = refl
    or_true false b t = t

-- a binary search among numbers that ascend answers whether one of them is there
pub is-there : (xs : List ℕ) (n : ℕ) (r : Result ℕ ℕ) → IsSorted nat_cmp xs → IsBinarySearchResult (λ y. nat_cmp y n) xs r → is_ok r ≡ list_any (eqb n) xs
is-there xs n (Ok i) up found =
    let s = searched xs n (Ok i) found (λ i j. IsNonDecreasingBy-from_sort (λ x. x) xs up i j 0) in
    sym (at n xs i s.0 s.1)
is-there xs n (Err i) up found =
    let s = searched xs n (Err i) found (λ i j. IsNonDecreasingBy-from_sort (λ x. x) xs up i j 0) in
    sym (list_any_none (eqb n) xs (λ k d l. apart k d l (cases_lt k i) s))
  where
    other : (x : ℕ) → (x < n) ⊎ (n < x) → eqb n x ≡ false
    other x (inl l) = grind (arith, nat_tests, l)
    other x (inr l) = grind (arith, nat_tests, l)

    Apart : Type 0
    Apart = (i ≤ length xs) × ((k : ℕ) → k < i → get_or xs k 0 < n)
        × ((k : ℕ) → i ≤ k → k < length xs → n < get_or xs k 0)

    apart : (k d : ℕ) → k < length xs → (k < i) ⊎ (i ≤ k) → Apart → eqb n (get_or xs k d) ≡ false
    apart k d l (inl b) s = ap (eqb n) (get_or_default xs k d 0 l) ∙ other (get_or xs k 0) (inl (s.1 k b))
    apart k d l (inr a) s = ap (eqb n) (get_or_default xs k d 0 l) ∙ other (get_or xs k 0) (inr (s.2 k a l))

-- ---- the end of a serial number

pub starts : (s : List ℕ) (start : ℕ) → start ≡ length s - 4 → ending_of s ≡ with_octets 0 (take (length s - start) (drop start s))
unfolding ending_of
starts s start e =
    let whole : take (length s - start) (drop start s) ≡ drop start s = take_all (length s - start) (drop start s) (omega (arith, length-drop start s)) in
    ap (with_octets 0) (ap (λ k. drop k s) (sym e) ∙ sym whole)

-- ---- the entries of a list

abbrev marks_end : List Mark → List ℕ
marks_end ms = map (λ m. ending_of m.userCertificate) ms

-- where no mark has the end of a serial number, no entry has the serial number
itself : (i j : ℕ) → i ≡ j → eqb i j ≡ true
itself i j e = grind (arith, nat_tests, e)

none-ends : (s : List ℕ) (xs : List LocatedEntry) (ms : List Mark) → Marked xs ms → has_ending (marks_end ms) s ≡ false → list_any (has_serial s) (map unlocated_entry xs) ≡ false
none-ends s [] [] are none = refl
none-ends s [] (m ∷ ms) are none = absurd are
none-ends s (x ∷ xs) [] are none = absurd are
none-ends s (x ∷ xs) (m ∷ ms) are none = by_test (none-ends s xs ms are.2) (bytes_eq x.userCertificate s) (eqb (ending_of s) (ending_of m.userCertificate)) refl refl none
  where
    by_test : (has_ending (marks_end ms) s ≡ false → list_any (has_serial s) (map unlocated_entry xs) ≡ false)
        → (a b : Bool) → bytes_eq x.userCertificate s ≡ a → eqb (ending_of s) (ending_of m.userCertificate) ≡ b
        → b || has_ending (marks_end ms) s ≡ false → a || list_any (has_serial s) (map unlocated_entry xs) ≡ false
    by_test more a true is ends none = absurd (true≢false none)
    by_test more false false is ends none = more none
    by_test more true false is ends none =
        let same : x.userCertificate ≡ s = (bytes_eq-Decides x.userCertificate s).0 is in
        let end : ending_of s ≡ ending_of m.userCertificate = ap ending_of (sym same ∙ sym are.1) in
        absurd (true≢false (sym (itself (ending_of s) (ending_of m.userCertificate) end) ∙ ends))

pub listed : (e : Tlv) (endings sorted : List ℕ) → None ≡ refusal (revoked_of e) → endings ≡ marks_end (items_at mark_of (inside e)) → IsPermutation endings sorted
    → AreListed sorted (map unlocated_entry (items_at located_entry_of (inside e)))
listed e endings sorted read are same s none =
    none-ends s (items_at located_entry_of (inside e)) (items_at mark_of (inside e)) (are-marked e read)
    (ap (λ (ns : List ℕ). has_ending ns s) (sym are) ∙ (list_any-IsPermutation (eqb (ending_of s)) endings sorted same ∙ none))
