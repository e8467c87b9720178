-- The order of attributes in canonical form, and lists that have the same attributes.
use Rattle.std.proofs.Common.{◌≡◌, ℕ, suc, ◌+◌, ◌<◌, Bool, true, false, cond, List, [], ◌∷◌, ◌++◌, length, refl, sym, ap, ◌∙◌, arith, Ordering}
use Rattle.std.specs.List.{All}
use Rattle.std.specs.Cmp.{IsTotalOrder}
use Rattle.std.specs.Cmp.Lexicographic.{slice_cmp}
use Rattle.std.specs.Ordering.{nat_cmp, ordering_then, ordering_reverse, is_le, is_eq, is_gt}
use Rattle.std.specs.declared.cmp.Ordering.TheVariants.{Less, Equal, Greater}
use Rattle.std.specs.FinMap.{IsAntisymmetric, nat_cmp-IsAntisymmetric, slice_cmp-IsAntisymmetric}
use Rattle.std.proofs.lemmas.Bool.{false≢true, true≢false, false_from_ne_true}
use Rattle.std.proofs.lemmas.Cmp.{nat_cmp_total, nat_list_cmp_total, on_total, then_total, upto, tied_itself}
use Rattle.std.proofs.lemmas.List.Sums.{sum_by-cons}
use Rattle.std.proofs.lemmas.List.Elements.{All-head, All-tail, All-weaker}
use Rattle.ts_name.specs.Canon.{CanonAttr, compare_attrs, attr_at_most, insert_attr, sort_attrs, is_same, count_of}

pub total : IsTotalOrder compare_attrs
unfolding compare_attrs
total = then_total (on_total (λ (a : CanonAttr). a.kind) nat_list_cmp_total) (then_total (on_total (λ (a : CanonAttr). a.tag) nat_cmp_total) (on_total (λ (a : CanonAttr). a.value) nat_list_cmp_total))

both_equal : (o p : Ordering) → ordering_then o p ≡ Equal → (o ≡ Equal) × (p ≡ Equal)
both_equal Less p e = absurd (false≢true (ap is_eq e))
both_equal Equal p e = (refl, e)
both_equal Greater p e = absurd (false≢true (ap is_eq e))

-- attributes that tie are one
tied : (a b : CanonAttr) → compare_attrs a b ≡ Equal → a ≡ b
unfolding compare_attrs
tied a b e =
    let octets : IsAntisymmetric (slice_cmp nat_cmp) = slice_cmp-IsAntisymmetric nat_cmp-IsAntisymmetric in
    let first = both_equal (slice_cmp nat_cmp a.kind b.kind) (ordering_then (nat_cmp a.tag b.tag) (slice_cmp nat_cmp a.value b.value)) e in
    let rest = both_equal (nat_cmp a.tag b.tag) (slice_cmp nat_cmp a.value b.value) first.1 in
    let kind = octets a.kind b.kind first.0 in
    let tag = nat_cmp-IsAntisymmetric a.tag b.tag rest.0 in
    let value = octets a.value b.value rest.1 in
    λ i. record { kind = kind i; tag = tag i; value = value i }

pub is_same-itself : (a : CanonAttr) → is_same a a ≡ true
is_same-itself a = ap is_eq (tied_itself total a)

pub one_if_same : (a b : CanonAttr) → is_same a b ≡ true → a ≡ b
one_if_same a b e = by_order (compare_attrs a b) refl e
  where
    by_order : (o : Ordering) → compare_attrs a b ≡ o → is_eq o ≡ true → a ≡ b
    by_order Less p e = absurd (false≢true e)
    by_order Equal p e = tied a b p
    by_order Greater p e = absurd (false≢true e)

-- ---- of two, one is at most the other; both are only where they are one

flipped : (o : Ordering) → is_le o ≡ false → is_le (ordering_reverse o) ≡ true
flipped Less e = absurd (true≢false e)
flipped Equal e = absurd (true≢false e)
flipped Greater e = refl

tie : (o : Ordering) → is_le o ≡ true → is_le (ordering_reverse o) ≡ true → o ≡ Equal
tie Less e f = absurd (false≢true f)
tie Equal e f = refl
tie Greater e f = absurd (false≢true e)

no_more : (o : Ordering) → is_le o ≡ true → is_gt o ≡ false
no_more Less e = refl
no_more Equal e = refl
no_more Greater e = absurd (false≢true e)

at_most_from : (o : Ordering) → is_gt o ≡ false → is_le o ≡ true
at_most_from Less e = refl
at_most_from Equal e = refl
at_most_from Greater e = absurd (true≢false e)

at_most-back : (a b : CanonAttr) → attr_at_most a b ≡ false → attr_at_most b a ≡ true
at_most-back a b e = ap is_le (total.antisymm b a) ∙ flipped (compare_attrs a b) e

at_most-both : (a b : CanonAttr) → attr_at_most a b ≡ true → attr_at_most b a ≡ true → a ≡ b
at_most-both a b e f = tied a b (tie (compare_attrs a b) e (sym (ap is_le (total.antisymm b a)) ∙ f))

at_most-trans : (a b c : CanonAttr) → attr_at_most a b ≡ true → attr_at_most b c ≡ true → attr_at_most a c ≡ true
at_most-trans a b c e f = at_most_from (compare_attrs a c) (upto total a b c (no_more (compare_attrs a b) e) (no_more (compare_attrs b c) f))

-- ---- two attributes are inserted in either order

insert-before : (a b : CanonAttr) (bs : List CanonAttr) (t : Bool) → attr_at_most a b ≡ t → insert_attr a (b ∷ bs) ≡ cond t (a ∷ b ∷ bs) (b ∷ insert_attr a bs)
insert-before a b bs t e = ap (λ u. cond u (a ∷ b ∷ bs) (b ∷ insert_attr a bs)) e

either_first : (a b : CanonAttr) (cs : List CanonAttr) → cond (attr_at_most a b) (a ∷ b ∷ cs) (b ∷ a ∷ cs) ≡ cond (attr_at_most b a) (b ∷ a ∷ cs) (a ∷ b ∷ cs)
either_first a b cs = by_test (attr_at_most a b) refl (attr_at_most b a) refl
  where
    by_test : (t : Bool) → attr_at_most a b ≡ t → (u : Bool) → attr_at_most b a ≡ u → cond t (a ∷ b ∷ cs) (b ∷ a ∷ cs) ≡ cond u (b ∷ a ∷ cs) (a ∷ b ∷ cs)
    by_test true e true f = let one = at_most-both a b e f in λ i. one i ∷ sym one i ∷ cs
    by_test true e false f = refl
    by_test false e true f = refl
    by_test false e false f = absurd (false≢true (sym f ∙ at_most-back a b e))

both_before : (a b c : CanonAttr) (cs : List CanonAttr) → attr_at_most a c ≡ true → attr_at_most b c ≡ true → insert_attr a (b ∷ c ∷ cs) ≡ insert_attr b (a ∷ c ∷ cs)
both_before a b c cs p q =
    ap (λ (ds : List CanonAttr). cond (attr_at_most a b) (a ∷ b ∷ c ∷ cs) (b ∷ ds)) (insert-before a c cs true p)
    ∙ either_first a b (c ∷ cs)
    ∙ sym (ap (λ (ds : List CanonAttr). cond (attr_at_most b a) (b ∷ a ∷ c ∷ cs) (a ∷ ds)) (insert-before b c cs true q))

one_before : (a b c : CanonAttr) (cs : List CanonAttr) → attr_at_most a c ≡ true → attr_at_most b c ≡ false → insert_attr a (c ∷ insert_attr b cs) ≡ insert_attr b (a ∷ c ∷ cs)
one_before a b c cs p q =
    let later = false_from_ne_true (attr_at_most b a) (λ t. false≢true (sym q ∙ at_most-trans b a c t p)) in
    insert-before a c (insert_attr b cs) true p
    ∙ sym (insert-before b a (c ∷ cs) false later ∙ ap (λ (ds : List CanonAttr). a ∷ ds) (insert-before b c cs false q))

pub insert-insert : (a b : CanonAttr) (cs : List CanonAttr) → insert_attr a (insert_attr b cs) ≡ insert_attr b (insert_attr a cs)
insert-insert a b [] = either_first a b []
insert-insert a b (c ∷ cs) = by_test (insert-insert a b cs) (attr_at_most a c) refl (attr_at_most b c) refl
  where
    by_test : insert_attr a (insert_attr b cs) ≡ insert_attr b (insert_attr a cs) → (t : Bool)
        → attr_at_most a c ≡ t → (u : Bool) → attr_at_most b c ≡ u
        → insert_attr a (insert_attr b (c ∷ cs)) ≡ insert_attr b (insert_attr a (c ∷ cs))
    by_test more true p true q = ap (insert_attr a) (insert-before b c cs true q) ∙ both_before a b c cs p q ∙ sym (ap (insert_attr b) (insert-before a c cs true p))
    by_test more true p false q = ap (insert_attr a) (insert-before b c cs false q) ∙ one_before a b c cs p q ∙ sym (ap (insert_attr b) (insert-before a c cs true p))
    by_test more false p true q = ap (insert_attr a) (insert-before b c cs true q) ∙ sym (one_before b a c cs q p) ∙ sym (ap (insert_attr b) (insert-before a c cs false p))
    by_test more false p false q =
        ap (insert_attr a) (insert-before b c cs false q)
        ∙ insert-before a c (insert_attr b cs) false p
        ∙ ap (λ (ds : List CanonAttr). c ∷ ds) more
        ∙ sym (insert-before b c (insert_attr a cs) false q)
        ∙ sym (ap (insert_attr b) (insert-before a c cs false p))

-- ---- how often attributes are in lists

abbrev once : CanonAttr → CanonAttr → ℕ
once z a = cond (is_same z a) 1 0

count_of-cons : (z a : CanonAttr) (bs : List CanonAttr) → count_of z (a ∷ bs) ≡ once z a + count_of z bs
count_of-cons z a bs = sum_by-cons (λ b. cond (is_same z b) 1 0) a bs

count_of-insert : (z a : CanonAttr) (bs : List CanonAttr) → count_of z (insert_attr a bs) ≡ once z a + count_of z bs
count_of-insert z a [] = count_of-cons z a []
count_of-insert z a (b ∷ bs) = by_test (count_of-insert z a bs) (attr_at_most a b)
  where
    by_test : count_of z (insert_attr a bs) ≡ once z a + count_of z bs → (t : Bool) → count_of z (cond t (a ∷ b ∷ bs) (b ∷ insert_attr a bs)) ≡ once z a + count_of z (b ∷ bs)
    by_test more true = count_of-cons z a (b ∷ bs)
    by_test more false = let x = count_of-cons z b (insert_attr a bs) in let y = count_of-cons z b bs in omega (arith, more)

count_of-sort : (z : CanonAttr) (bs : List CanonAttr) → count_of z (sort_attrs bs) ≡ count_of z bs
count_of-sort z [] = refl
count_of-sort z (b ∷ bs) = count_of-insert z b (sort_attrs bs) ∙ ap (λ n. once z b + n) (count_of-sort z bs) ∙ sym (count_of-cons z b bs)

length-insert_attr : (a : CanonAttr) (bs : List CanonAttr) → length (insert_attr a bs) ≡ suc (length bs)
length-insert_attr a [] = refl
length-insert_attr a (b ∷ bs) = by_test (length-insert_attr a bs) (attr_at_most a b)
  where
    by_test : length (insert_attr a bs) ≡ suc (length bs) → (t : Bool) → length (cond t (a ∷ b ∷ bs) (b ∷ insert_attr a bs)) ≡ suc (suc (length bs))
    by_test more true = refl
    by_test more false = ap suc more

length-sort : (bs : List CanonAttr) → length (sort_attrs bs) ≡ length bs
length-sort [] = refl
length-sort (b ∷ bs) = length-insert_attr b (sort_attrs bs) ∙ ap suc (length-sort bs)

-- lists whose sorted forms are one have one length, and each attribute as often
pub same_counts : (xs ys : List CanonAttr) → sort_attrs xs ≡ sort_attrs ys → (length xs ≡ length ys) × ((z : CanonAttr) → count_of z xs ≡ count_of z ys)
same_counts xs ys e =
    (sym (length-sort xs) ∙ ap length e ∙ length-sort ys, λ z. sym (count_of-sort z xs) ∙ ap (count_of z) e ∙ count_of-sort z ys)

-- ---- a list without the first of an attribute

abbrev without : CanonAttr → List CanonAttr → List CanonAttr
without a [] = []
without a (b ∷ bs) = cond (is_same a b) bs (b ∷ without a bs)

record TakesOut (a : CanonAttr) (bs : List CanonAttr) : Type 0 where
  size : length bs ≡ suc (length (without a bs))
  counts : (z : CanonAttr) → count_of z bs ≡ once z a + count_of z (without a bs)
  sorted : sort_attrs bs ≡ insert_attr a (sort_attrs (without a bs))

takes_out : (a : CanonAttr) (bs : List CanonAttr) → 0 < count_of a bs → TakesOut a bs
takes_out a [] h = absurd (omega arith)
takes_out a (b ∷ bs) h = by_test (takes_out a bs) (is_same a b) refl
  where
    by_test : (0 < count_of a bs → TakesOut a bs) → (t : Bool) → is_same a b ≡ t → TakesOut a (b ∷ bs)
    by_test more true e =
        let one = one_if_same a b e in
        let out : without a (b ∷ bs) ≡ bs = ap (λ t. cond t bs (b ∷ without a bs)) e in
        record {
          size = ap (λ (cs : List CanonAttr). suc (length cs)) (sym out);
          counts = λ z. count_of-cons z b bs ∙ ap (λ d. once z d + count_of z bs) (sym one) ∙ ap (λ cs. once z a + count_of z cs) (sym out);
          sorted = ap (λ d. insert_attr d (sort_attrs bs)) (sym one) ∙ ap (λ cs. insert_attr a (sort_attrs cs)) (sym out);
        }
    by_test more false e =
        let out : without a (b ∷ bs) ≡ b ∷ without a bs = ap (λ t. cond t bs (b ∷ without a bs)) e in
        let other : once a b ≡ 0 = ap (λ t. cond t 1 0) e in
        let rest = more (omega (arith, h, count_of-cons a b bs, other)) in
        record {
          size = ap suc rest.size ∙ ap (λ (cs : List CanonAttr). suc (length cs)) (sym out);
          counts = λ z. omega (arith, count_of-cons z b bs, rest.counts z, count_of-cons z b (without a bs), ap (count_of z) out);
          sorted = ap (insert_attr b) rest.sorted ∙ insert-insert b a (sort_attrs (without a bs)) ∙ ap (λ cs. insert_attr a (sort_attrs cs)) (sym out);
        }

-- lists of one length in which each attribute of the first occurs as often have one sorted form
pub counts_same : (xs ys : List CanonAttr) → length xs ≡ length ys → All (λ x. count_of x xs ≡ count_of x ys) xs → sort_attrs xs ≡ sort_attrs ys
counts_same [] [] n a = refl
counts_same [] (y ∷ ys) n a = absurd (omega arith)
counts_same (x ∷ xs) ys n a =
    let here : count_of x (x ∷ xs) ≡ count_of x ys = All-head (λ z. count_of z (x ∷ xs) ≡ count_of z ys) x xs a in
    let once_at_least : once x x ≡ 1 = ap (λ b. cond b 1 0) (is_same-itself x) in
    let out = takes_out x ys (omega (arith, count_of-cons x x xs, once_at_least, here)) in
    let rest = counts_same xs (without x ys) (omega (arith, n, out.size)) (All-weaker (λ z. count_of z (x ∷ xs) ≡ count_of z ys) (λ z. count_of z xs ≡ count_of z (without x ys))
    (λ z e. omega (arith, e, out.counts z, count_of-cons z x xs)) xs (All-tail (λ z. count_of z (x ∷ xs) ≡ count_of z ys) x xs a)) in
    ap (insert_attr x) rest ∙ sym out.sorted

-- an attribute more at the end of a list is one inserted
pub sort-push : (xs : List CanonAttr) (x : CanonAttr) → sort_attrs (xs ++ x ∷ []) ≡ insert_attr x (sort_attrs xs)
sort-push [] x = refl
sort-push (y ∷ xs) x = ap (insert_attr y) (sort-push xs x) ∙ insert-insert y x (sort_attrs xs)
