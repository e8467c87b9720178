-- The pairs of a table, by its entries.
use Rattle.std.proofs.Common.{◌≡◌, ◌∙◌, ◌⊎◌, ℕ, List, [], ◌∷◌, Bool, true, false, not, map, Option, Some, None, Result, Ok, Err, refl, sym, ap, subst, inl, inr}
use Rattle.std.specs.Prelude.{Contains, OnOk, OnErr}
use Rattle.std.specs.Map.{lookup}
use Rattle.std.specs.Str.{bytes_eq}
use Rattle.std.proofs.lemmas.Slice.Eq.{bytes_eq-Decides}
use Rattle.lru.specs.LruCache.{LruCache, lru_cache, promoted, put_entries}
use Rattle.lru.proofs.CallerLemmas.{Contains-lookup, Contains-promoted, Contains-put_entries}
use Rattle.lru.proofs.Splits.{Contains-head, Contains-tail, Contains-cons, Contains-nil}
use Rattle.ts_recent.specs.declared.recent.Entry.{Entry}
use Rattle.ts_recent.specs.Recent.{pair_in, pairs_in, AreAmong, AreAmongOr}

pub mapped : {A B : Type 0} (f : A → B) (xs : List A) (x : A) → Contains xs x → Contains (map f xs) (f x)
mapped f [] x has = absurd (Contains-nil x has)
mapped f (y ∷ xs) x has = elim (Contains-cons y xs x has) [
  | inl same ↦ subst (Contains (f y ∷ map f xs)) (ap f same) (Contains-head (f y) (map f xs))
  | inr more ↦ Contains-tail (f y) (map f xs) (f x) (mapped f xs x more)
]

pub unmapped : {A B : Type 0} (f : A → B) (xs : List A) (y : B) → Contains (map f xs) y
    → (x : A) × Contains xs x × (f x ≡ y)
unmapped f [] y has = absurd (Contains-nil y has)
unmapped f (x ∷ xs) y has = elim (Contains-cons (f x) (map f xs) y has) [
  | inl same ↦ (x, Contains-head x xs, same)
  | inr more ↦ let rest = unmapped f xs y more in
      (rest.0, Contains-tail x xs rest.0 rest.1, rest.2)
]

not_other : (b : Bool) → false ≡ not b → b ≡ true
not_other true is = refl
not_other false is = absurd (cc is)

module _ {V : Type 0} where
  -- the value that is found stands in a pair with these octets
  pub found : (table : LruCache ℕ (Entry V)) (o : Option (LruCache ℕ (Entry V)))
      (pairs : List (List ℕ × V)) (test : ℕ → Bool) (entry : Entry V) (octets held : List ℕ)
      → o ≡ Some table → pairs_in o ≡ pairs → Some entry ≡ lookup test table.entries
      → held ≡ entry.octets.items → false ≡ not (bytes_eq held octets)
      → Contains pairs (octets, entry.value)
  found table o pairs test entry octets held is view there holds same =
      let e = Contains-lookup test table.entries entry (sym there) in
      let one : entry.octets.items ≡ octets =
      sym holds ∙ (bytes_eq-Decides held octets).0 (not_other (bytes_eq held octets) same) in
      subst (λ (ps : List (List ℕ × V)). Contains ps (octets, entry.value))
      (sym (ap pairs_in is) ∙ view)
      (subst (λ (o : List ℕ). Contains (map pair_in table.entries) (o, entry.value)) one
      (mapped pair_in table.entries (e.0, entry) e.1))

  -- to use a value makes no new pair
  pub used : (table new : LruCache ℕ (Entry V)) (o : Option (LruCache ℕ (Entry V)))
      (pairs : List (List ℕ × V)) (test : ℕ → Bool) → o ≡ Some table → pairs_in o ≡ pairs
      → new ≡ lru_cache (promoted test table.entries) table.cap
      → AreAmong (pairs_in (Some new)) pairs
  used table new o pairs test is view e pair has =
      let among = subst (λ (t : LruCache ℕ (Entry V)). Contains (map pair_in t.entries) pair) e has in
      let one = unmapped pair_in (promoted test table.entries) pair among in
      subst (λ (ps : List (List ℕ × V)). Contains ps pair) (sym (ap pairs_in is) ∙ view)
      (subst (Contains (map pair_in table.entries)) one.2
      (mapped pair_in table.entries one.0 (Contains-promoted test table.entries one.0 one.1)))

  module _ (table : LruCache ℕ (Entry V)) (number : ℕ) (entry : Entry V) (eq : ℕ → ℕ → Bool) where
    put_among : AreAmongOr (pair_in (number, entry)) (map pair_in (put_entries eq table number entry)) (map pair_in table.entries)
    put_among pair has =
        let one = unmapped pair_in (put_entries eq table number entry) pair has in
        elim (Contains-put_entries eq table number entry one.0 one.1) [
          | inl was ↦ inl (subst (Contains (map pair_in table.entries)) one.2 (mapped pair_in table.entries one.0 was))
          | inr put ↦ inr (sym one.2 ∙ ap (λ (k : Entry V). (k.octets.items, k.value)) put.0)
        ]

    -- what is kept is the one new pair
    pub kept : {X E : Type 0} (r : Result X E) (new : LruCache ℕ (Entry V))
        (o : Option (LruCache ℕ (Entry V))) (pairs : List (List ℕ × V)) → o ≡ Some table
        → pairs_in o ≡ pairs → OnOk r (new ≡ lru_cache (put_entries eq table number entry) table.cap)
        → OnErr r (new ≡ table)
        → AreAmongOr (pair_in (number, entry)) (pairs_in (Some new)) pairs
    kept (Ok x) new o pairs is view put err pair has =
        subst (λ (ps : List (List ℕ × V)). Contains ps pair ⊎ (pair ≡ pair_in (number, entry)))
        (sym (ap pairs_in is) ∙ view)
        (put_among pair (subst (λ (t : LruCache ℕ (Entry V)). Contains (map pair_in t.entries) pair) put has))
    kept (Err e) new o pairs is view put err pair has =
        inl (subst (λ (ps : List (List ℕ × V)). Contains ps pair) (sym (ap pairs_in is) ∙ view)
        (subst (λ (t : LruCache ℕ (Entry V)). Contains (map pair_in t.entries) pair) err has))
