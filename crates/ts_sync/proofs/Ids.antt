-- Which ids are among others, when some come and some go.
use Rattle.std.proofs.Common.{◌≡◌, ◌∙◌, ◌++◌, ◌∷◌, ◌||◌, ◌&&◌, ℕ, Bool, true, false, not, cond, List, [], refl, sym, ap}
use Rattle.std.specs.List.{filter}
use Rattle.std.specs.Str.{bytes_eq}
use Rattle.std.proofs.lemmas.Slice.Eq.{bytes_eq-Decides}
use Rattle.ts_sync.specs.Plan.{absent, has}

pub is_itself : (id : List ℕ) → bytes_eq id id ≡ true
is_itself id = (bytes_eq-Decides id id).1 refl

same : (a b : List ℕ) → bytes_eq a b ≡ true → a ≡ b
same a b is = (bytes_eq-Decides a b).0 is

-- an id that differs from another one, seen from it
apart : (a b : List ℕ) → bytes_eq a b ≡ false → bytes_eq b a ≡ false
apart a b differ = by (bytes_eq b a) refl
  where
    by : (e : Bool) → bytes_eq b a ≡ e → e ≡ false
    by false is = refl
    by true is = let one : bytes_eq a b ≡ true = ap (bytes_eq a) (same b a is) ∙ is_itself a in absurd (cc)

-- ---- tests

or_or : (a b c : Bool) → (a || (b || c)) ≡ ((a || b) || c)
or_or true b c = refl
or_or false b c = refl

or_false : (a : Bool) → (a || false) ≡ a
or_false true = refl
or_false false = refl

and_false : (a : Bool) → (a && false) ≡ false
and_false true = refl
and_false false = refl

or_true : (a : Bool) → (a || true) ≡ true
or_true true = refl
or_true false = refl

-- ---- ids that come

pub has_append : (xs ys : List (List ℕ)) (id : List ℕ) → has (xs ++ ys) id ≡ (has xs id || has ys id)
has_append [] ys id = refl
has_append (x ∷ xs) ys id = ap (λ b. bytes_eq id x || b) (has_append xs ys id) ∙ or_or (bytes_eq id x) (has xs id) (has ys id)

-- ---- ids that go

abbrev pub without : List ℕ → List (List ℕ) → List (List ℕ)
without id ids = filter (λ other. not (bytes_eq other id)) ids

-- an id that stays beside others
stays : (here gone others left : Bool) → (gone ≡ true → here ≡ false) → left ≡ (others && not gone) → (here || left) ≡ ((here || others) && not gone)
stays true true others left excluded is = let e = excluded refl in absurd (cc)
stays true false others left excluded is = refl
stays false gone others left excluded is = is

pub has_without : (x : List ℕ) (xs : List (List ℕ)) (id : List ℕ) → has (without x xs) id ≡ (has xs id && not (bytes_eq id x))
has_without x [] id = refl
has_without x (y ∷ ys) id = by (bytes_eq y x) refl (has_without x ys id)
  where
    by : (g : Bool) → bytes_eq y x ≡ g → has (without x ys) id ≡ (has ys id && not (bytes_eq id x))
        → has (cond (not g) (y ∷ without x ys) (without x ys)) id ≡
        ((bytes_eq id y || has ys id) && not (bytes_eq id x))
    by true g rest = goes (bytes_eq id x) refl
      where
        goes : (e : Bool) → bytes_eq id x ≡ e → has (without x ys) id ≡ ((bytes_eq id y || has ys id) && not (bytes_eq id x))
        goes true e = rest ∙ ap (λ b. has ys id && not b) e ∙ and_false (has ys id) ∙ sym (ap (λ b. (bytes_eq id y || has ys id) && not b) e ∙ and_false (bytes_eq id y || has ys id))
        goes false e = rest ∙ ap (λ b. (b || has ys id) && not (bytes_eq id x)) (sym (ap (bytes_eq id) (same y x g) ∙ e))
    by false g rest = stays (bytes_eq id y) (bytes_eq id x) (has ys id) (has (without x ys) id) (λ e. ap (λ z. bytes_eq z y) (same id x e) ∙ apart y x g) rest

-- ---- ids that are missing

-- an id that others have is left out
left_out : (here others among found : Bool) → (here ≡ true → among ≡ true) → found ≡ (others && not among) → found ≡ ((here || others) && not among)
left_out true others among found excluded is = is ∙ ap (λ b. others && not b) (excluded refl) ∙ and_false others ∙ sym (ap not (excluded refl))
left_out false others among found excluded is = is

-- another one is kept, and then among the others
kept : (here others among found : Bool) → (here ≡ true → among ≡ false) → found ≡ (others && not (among || (here || false))) → (here || found) ≡ ((here || others) && not among)
kept true others among found excluded is = sym (ap not (excluded refl))
kept false others among found excluded is = is ∙ ap (λ b. others && not b) (or_false among)

pub has_absent : (ids others : List (List ℕ)) (id : List ℕ) → has (absent others ids) id ≡ (has ids id && not (has others id))
has_absent [] others id = refl
has_absent (first ∷ ids) others id = by (has others first) refl (has_absent ids others id) (has_absent ids (others ++ first ∷ []) id)
  where
    by : (b : Bool) → has others first ≡ b
        → has (absent others ids) id ≡ (has ids id && not (has others id))
        → has (absent (others ++ first ∷ []) ids) id ≡
        (has ids id && not (has (others ++ first ∷ []) id))
        → has (cond b (absent others ids) (first ∷ absent (others ++ first ∷ []) ids)) id ≡ ((bytes_eq id first || has ids id) && not (has others id))
    by true is rest more = left_out (bytes_eq id first) (has ids id) (has others id) (has (absent others ids) id) (λ e. ap (has others) (same id first e) ∙ is) rest
    by false is rest more =
        kept (bytes_eq id first) (has ids id) (has others id) (has (absent (others ++ first ∷ []) ids) id) (λ e. ap (has others) (same id first e) ∙ is)
        (more ∙ ap (λ b. has ids id && not b) (has_append others (first ∷ []) id))

-- nothing is missing of ids that others have
pub none_absent : (ids others : List (List ℕ)) → ((id : List ℕ) → has ids id ≡ true → has others id ≡ true) → absent others ids ≡ []
none_absent [] others all = refl
none_absent (first ∷ ids) others all =
    by (has others first) (all first (ap (λ b. b || has ids first) (is_itself first))) (none_absent ids others (λ id in'. all id (ap (λ b. bytes_eq id first || b) in' ∙ or_true (bytes_eq id first))))
  where
    by : (b : Bool) → b ≡ true → absent others ids ≡ [] → cond b (absent others ids) (first ∷ absent (others ++ first ∷ []) ids) ≡ []
    by true is none = none
    by false is none = absurd (cc)
