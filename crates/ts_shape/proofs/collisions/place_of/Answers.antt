use Rattle.std.proofs.Common.{rules, ◌≡◌, inl, inr, ℕ, false, get_or, sym, ap, ◌∙◌, is_lt, nat_cmp}
use Rattle.std.specs.Cmp.Lexicographic.{slice_cmp}
use Rattle.std.proofs.lemmas.List.Sorted.{IsPartitionPoint-from_clause}
use Rattle.ts_shape.specs.Repeats.{keys_in, is_among}
use Rattle.ts_shape.specs.inside.Collisions.{flag_of}
use Rattle.ts_shape.proofs.KeyTables.{flag-new, placed-nowhere, parted, from-here, from-nowhere, IsFrom, IsOther}
use Rattle.ts_shape.proofs.collisions.place_of.Goals.{else-place-table-via-then-place-table+else-eq, else-place-table-via-else-place-table}
use Rattle.ts_shape.proofs.collisions.place_of.Goals as goal

pub returns-then-not-flags-flag_of : goal.returns-then-not-flags-flag_of
returns-then-not-flags-flag_of g c =
    let k = c.args.key.now in
    let flags = c.args.flags.now in
    let unset : get_or flags (flag_of g.row.M c.args.factor k) false ≡ false = ap (λ (n : ℕ). get_or flags n false) (sym c.flag_of.ensures.flag) ∙ c.if-not-flags-flag_of.true in
    let new : is_among k (keys_in c.args.table.now) ≡ false = flag-new (flag_of g.row.M c.args.factor) flags k (keys_in c.args.table.now) c.requires.flagged unset in
    sym (placed-nowhere k (keys_in c.args.table.now) new)

pub returns-then-eq : goal.returns-then-eq
returns-then-eq g c =
    let k = c.args.key.now in
    let table = c.args.table.now in
    let from : IsFrom k table c.partition_point-place.result =
    IsPartitionPoint-from_clause (λ y. is_lt (slice_cmp nat_cmp y.now k)) table
    c.partition_point-place.result c.partition_point-place.ensures.partitioned
    (parted k table c.requires.ascending) (λ a r q h. search rules) in
    sym (from-here k table c.partition_point-place.result _ from c.if-place-table.true (sym c.eq.ensures ∙ c.if-eq.true))

pub returns : goal.returns
returns g c =
    let k = c.args.key.now in
    let table = c.args.table.now in
    let from : IsFrom k table c.partition_point-place.result =
    IsPartitionPoint-from_clause (λ y. is_lt (slice_cmp nat_cmp y.now k)) table
    c.partition_point-place.result c.partition_point-place.ensures.partitioned
    (parted k table c.requires.ascending) (λ a r q h. search rules) in
    let other : IsOther k table c.partition_point-place.result =
    elim c.else-place-table.branch [
      | else-place-table-via-then-place-table+else-eq w ↦ inr (_, sym w.eq.ensures ∙ w.if-eq.false)
      | else-place-table-via-else-place-table w ↦ inl w.if-place-table.false
    ] in
    sym (from-nowhere k table c.partition_point-place.result c.requires.ascending from other)
