-- A page of the rows of a store: of its anchors, and of its lists as many as there is room for.
use Rattle.std.proofs.Common.{◌≡◌, ◌∙◌, ◌++◌, ◌-◌, ◌+◌, ℕ, List, map, take, drop, length, sym, ap, arith, append_assoc, length-append}
use Rattle.std.proofs.lemmas.List.{length-map}
use Rattle.std.specs.Borrow.{Bor}
use Rattle.ts_store.specs.declared.anchor.TrustAnchor.{TrustAnchor}
use Rattle.ts_store.specs.declared.stored.StoredCrl.{StoredCrl}
use Rattle.ts_store.specs.Contents.{Contents, anchor_in}
use Rattle.ts_store.specs.declared.snapshot.BorrowedAnchor.{BorrowedAnchor}
use Rattle.ts_question.specs.declared.reply.Reply.TheVariants.{Page}
use Rattle.ts_question.specs.Rows.{anchor_encoding, crl_encoding}
use Rattle.ts_listing.specs.Listing.{anchor_row, anchor_rows, crl_row, crl_rows, narrow, store_rows}
use Rattle.ts_listing.specs.Page.{page}
use Rattle.ts_listing.proofs.Pages.{map_drop, map_take, window}

-- the rows of some are some of the rows
pub rows_are : {A B : Type 0} (g : A → B) (m f : ℕ) (xs : List A) → map g (take m (drop f xs)) ≡ take m (drop f (map g xs))
rows_are g m f xs = map_take g m (drop f xs) ∙ ap (take m) (map_drop g f xs)

module _ (from : ℕ) (anchors : List TrustAnchor) (complete deltas : List StoredCrl) where
  abbrev all_anchors : List (List ℕ)
  all_anchors = anchor_rows anchors

  abbrev all_complete : List (List ℕ)
  all_complete = crl_rows complete

  abbrev all_deltas : List (List ℕ)
  all_deltas = crl_rows deltas

  -- of three lists, one behind another
  three : take 64 (drop from (all_anchors ++ (all_complete ++ all_deltas)))
      ≡ take 64 (drop from all_anchors)
      ++ (take (64 - length (take 64 (drop from all_anchors))) (drop (from - length all_anchors) all_complete)
      ++ take (64 - length (take 64 (drop from all_anchors)) - length
      (take (64 - length (take 64 (drop from all_anchors)))
      (drop (from - length all_anchors) all_complete)))
      (drop (from - length all_anchors - length all_complete) all_deltas))
  three =
      window 64 from all_anchors (all_complete ++ all_deltas)
      ∙ ap (λ l. take 64 (drop from all_anchors) ++ l) (window (64 - length (take 64 (drop from all_anchors))) (from - length all_anchors) all_complete all_deltas)

  pub whole : (r1 r2 r3 : List (List ℕ)) → r1 ≡ anchor_rows (take 64 (drop from anchors))
      → r2 ≡ r1 ++ crl_rows (take (64 - length r1) (drop (from - length anchors) complete))
      → r3 ≡ r2 ++ crl_rows (take (64 - length r2) (drop (from - length anchors - length complete) deltas))
      → r3 ≡ take 64 (drop from (all_anchors ++ (all_complete ++ all_deltas)))
  whole r1 r2 r3 e1 e2 e3 =
      let a : length all_anchors ≡ length anchors = length-map anchors (λ x. anchor_encoding (anchor_row x)) in
      let b : length all_complete ≡ length complete = length-map complete (λ x. crl_encoding (crl_row x)) in
      let f1 : r1 ≡ take 64 (drop from all_anchors) = e1 ∙ rows_are (λ x. anchor_encoding (anchor_row x)) 64 from anchors in
      let f2 : r2 ≡ r1 ++ take (64 - length r1) (drop (from - length all_anchors) all_complete) =
      e2 ∙ ap (λ l. r1 ++ l) (rows_are (λ x. crl_encoding (crl_row x)) (64 - length r1) (from - length anchors) complete ∙ ap (λ n. take (64 - length r1) (drop (from - n) all_complete)) (sym a)) in
      let n : 64 - length r2 ≡ 64 - length r1 - length (take (64 - length r1) (drop (from - length all_anchors) all_complete)) =
      omega (arith, ap length f2, length-append r1 (take (64 - length r1) (drop (from - length all_anchors) all_complete))) in
      let f3 : r3 ≡ r2 ++ take (64 - length r2) (drop (from - length all_anchors - length all_complete) all_deltas) =
      e3 ∙ ap (λ l. r2 ++ l)
      (rows_are (λ x. crl_encoding (crl_row x)) (64 - length r2)
      (from - length anchors - length complete) deltas
      ∙ ap (λ k. take (64 - length r2) (drop (from - k - length complete) all_deltas)) (sym a)
      ∙ ap (λ k. take (64 - length r2) (drop (from - length all_anchors - k) all_deltas))
      (sym b)) in
      let joined : r3 ≡ r1 ++ (take (64 - length r1) (drop (from - length all_anchors) all_complete)
      ++ take (64 - length r1 - length
      (take (64 - length r1) (drop (from - length all_anchors) all_complete)))
      (drop (from - length all_anchors - length all_complete) all_deltas)) =
      f3 ∙ ap (λ k. r2 ++ take k (drop (from - length all_anchors - length all_complete) all_deltas)) n
      ∙ ap (λ l. l ++ take (64 - length r1 - length (take (64 - length r1) (drop (from - length all_anchors) all_complete))) (drop (from - length all_anchors - length all_complete) all_deltas)) f2
      ∙ append_assoc r1 _ _ in
      joined
      ∙ ap (λ l. l ++ (take (64 - length l) (drop (from - length all_anchors) all_complete)
      ++ take (64 - length l - length
      (take (64 - length l) (drop (from - length all_anchors) all_complete)))
      (drop (from - length all_anchors - length all_complete) all_deltas))) f1
      ∙ sym three

-- ---- items that are borrowed

-- those of a page
borrowed : {A B : Type 0} (g : A → B) (some all : List A) (items : List B) (m f : ℕ) → some ≡ take m (drop f all) → map g all ≡ items → map g some ≡ take m (drop f items)
borrowed g some all items m f is same = ap (map g) is ∙ rows_are g m f all ∙ ap (λ l. take m (drop f l)) same

counted : {A B : Type 0} (g : A → B) (all : List A) (items : List B) → map g all ≡ items → length all ≡ length items
counted g all items same = sym (length-map all g) ∙ ap length same

abbrev list_in : Bor StoredCrl → StoredCrl
list_in c = c.now

-- what is borrowed from the tables, and the windows of it that are written one after another
pub record IsWritten (contents : Contents) (from total : ℕ) (rows : List (List ℕ)) : Type 0 where
  pub anchors : List BorrowedAnchor
  pub complete : List (Bor StoredCrl)
  pub deltas : List (Bor StoredCrl)
  pub anchors_are : map anchor_in anchors ≡ contents.anchors
  pub complete_are : map list_in complete ≡ contents.complete
  pub deltas_are : map list_in deltas ≡ contents.deltas
  pub first_anchors : List BorrowedAnchor
  pub first_complete : List (Bor StoredCrl)
  pub first_deltas : List (Bor StoredCrl)
  pub row1 : List (List ℕ)
  pub row2 : List (List ℕ)
  pub is1 : row1 ≡ anchor_rows (map anchor_in first_anchors)
  pub is2 : row2 ≡ row1 ++ crl_rows (map list_in first_complete)
  pub is3 : rows ≡ row2 ++ crl_rows (map list_in first_deltas)
  pub first1 : first_anchors ≡ take 64 (drop from anchors)
  pub first2 : first_complete ≡ take (64 - length row1) (drop (from - length anchors) complete)
  pub first3 : first_deltas ≡ take (64 - length row2) (drop (from - length anchors - length complete) deltas)
  pub total_is : total ≡ narrow (length anchors + (length complete + length deltas))

module _ (contents : Contents) (from total : ℕ) (rows : List (List ℕ)) (w : IsWritten contents from total rows) where
  rows_written : rows ≡ take 64 (drop from (store_rows contents))
  rows_written =
      let a = counted anchor_in w.anchors contents.anchors w.anchors_are in
      let b = counted list_in w.complete contents.complete w.complete_are in
      whole from contents.anchors contents.complete contents.deltas w.row1 w.row2 rows
      (w.is1 ∙ ap anchor_rows (borrowed anchor_in w.first_anchors w.anchors contents.anchors 64 from w.first1 w.anchors_are))
      (w.is2 ∙ ap (λ l. w.row1 ++ crl_rows l)
      (borrowed list_in w.first_complete w.complete contents.complete (64 - length w.row1)
      (from - length w.anchors) w.first2 w.complete_are
      ∙ ap (λ n. take (64 - length w.row1) (drop (from - n) contents.complete)) a))
      (w.is3 ∙ ap (λ l. w.row2 ++ crl_rows l)
      (borrowed list_in w.first_deltas w.deltas contents.deltas (64 - length w.row2)
      (from - length w.anchors - length w.complete) w.first3 w.deltas_are
      ∙ ap (λ n. take (64 - length w.row2) (drop (from - n - length w.complete) contents.deltas)) a
      ∙ ap (λ n. take (64 - length w.row2)
      (drop (from - length contents.anchors - n) contents.deltas)) b))

  all_rows : length (store_rows contents) ≡ length w.anchors + (length w.complete + length w.deltas)
  all_rows =
      length-append (anchor_rows contents.anchors) (crl_rows contents.complete ++ crl_rows contents.deltas)
      ∙ ap (λ n. length (anchor_rows contents.anchors) + n) (length-append (crl_rows contents.complete) (crl_rows contents.deltas))
      ∙ omega (
        arith,
        length-map contents.anchors (λ x. anchor_encoding (anchor_row x)),
        length-map
            contents.complete (λ x. crl_encoding (crl_row x)),
        length-map contents.deltas
            (λ x. crl_encoding (crl_row x)),
        counted anchor_in w.anchors contents.anchors w.anchors_are,
        counted list_in w.complete contents.complete w.complete_are,
        counted list_in w.deltas
            contents.deltas w.deltas_are,
      )

  pub page_written : Page total rows ≡ page from (store_rows contents)
  page_written = let n = w.total_is ∙ ap narrow (sym all_rows) in let r = rows_written in λ i. Page (n i) (r i)
