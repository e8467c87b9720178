use Rattle.std.proofs.Common.{◌≡◌, ◌∙◌, ℕ, List, Vec, Bor, Global, map, true, false, sym, ap, arith}
use Rattle.std.specs.List.{list_any}
use Rattle.std.specs.Str.{bytes_eq}
use Rattle.ts_listing.proofs.Others.{left_out, kept_more}
use Rattle.ts_listing.proofs.changes.missing.Goals as goal
use Rattle.ts_listing.proofs.changes.missing.Goals.{then-not-is_among+in_ok-push, else-not-is_among}

pub loop-row-preserved : goal.loop-row-preserved
loop-row-preserved c =
    let test = ap (λ (r : List ℕ). list_any (λ (other : Vec ℕ Global). bytes_eq r other.items) c.args.others.now) (sym c.as_slice.ensures.value) ∙ sym c.is_among.ensures in
    elim c.if-not-is_among.branch [
      | then-not-is_among+in_ok-push w ↦
          let out : c.is_among.result ≡ false = w.if-not-is_among.true in
          kept_more c.args.others.now c.args.rows.now c.loop-row.row-index c.row-item.result
          (omega arith) c.row-item.is c.loop-row.kept.items c.if-not-is_among.kept.items
          w.as_slice-then-not-is_among.result c.loop-row.invariant
          (test ∙ out) w.as_slice-then-not-is_among.ensures.value
          (ap (λ (v : Vec (Bor (List ℕ)) Global). v.items) w.kept-is
          ∙ w.in_ok-push.ensures.items)
      | else-not-is_among w ↦
          let in' : c.is_among.result ≡ true = w.if-not-is_among.false in
          ap (λ (v : Vec (Bor (List ℕ)) Global). map (λ (r : Bor (List ℕ)). r.now) v.items) w.kept-is
          ∙ left_out c.args.others.now c.args.rows.now c.loop-row.row-index c.row-item.result (omega arith) c.row-item.is c.loop-row.kept.items c.loop-row.invariant (test ∙ in')
    ]
