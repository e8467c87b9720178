-- Tables that are borrowed, and what path validation is asked over them.
use Rattle.std.proofs.Common.{◌≡◌, ◌<◌, ◌∷◌, ℕ, zero, suc, List, [], map, length, Some, slice_get, slice_index_or, refl, ap, arith}
use Rattle.ts_store.specs.Contents.{Contents, anchor_in, contents_of}
use Rattle.ts_store.specs.declared.snapshot.BorrowedAnchor.{BorrowedAnchor}
use Rattle.ts_store.specs.Tables.{Tables}
use Rattle.ts_answer.specs.Asked.{lists_in}

-- the id of an anchor that is borrowed
pub id_there : (anchors : List BorrowedAnchor) (number : ℕ) (d : BorrowedAnchor) → number < length anchors
    → slice_get (map (λ a. a.id) (map anchor_in anchors)) number ≡ Some
    (slice_index_or anchors number d).id
id_there [] number d within = absurd (omega (arith, within))
id_there (a ∷ anchors) zero d within = refl
id_there (a ∷ anchors) (suc number) d within = id_there anchors number d (omega (arith, within))

pub complete : (c : Contents) (tables : Tables) → c ≡ contents_of tables → lists_in c.complete ≡ lists_in tables.complete
complete c tables is = ap (λ (x : Contents). lists_in x.complete) is

pub deltas : (c : Contents) (tables : Tables) → c ≡ contents_of tables → lists_in c.deltas ≡ lists_in tables.deltas
deltas c tables is = ap (λ (x : Contents). lists_in x.deltas) is

pub anchors : (c : Contents) (tables : Tables) → c ≡ contents_of tables → c.anchors ≡ tables.anchors
anchors c tables is = ap (λ (x : Contents). x.anchors) is
