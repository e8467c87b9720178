use Rattle.std.proofs.Common.{◌≡◌, ◌<◌, ◌+◌, ◌-◌, ◌∷◌, ◌++◌, ℕ, true, false, List, [], None, length, take, get_or, refl, sym, ap, subst, ◌∙◌, arith}
use Rattle.std.proofs.lemmas.Bool.{false≢true}
use Rattle.std.proofs.lemmas.Grind.{get_or-set_at}
use Rattle.std.proofs.lemmas.List.{append_assoc, length_push, length-replicate, length-set, map-append}
use lib.ListN.{set}
use Rattle.ts_der.specs.Element.{Place, inside}
use Rattle.ts_der.specs.View.{now}
use Rattle.ts_shape.specs.Items.{items_at}
use Rattle.ts_shape.specs.Repeats.{first_repeated, keys_in, is_among}
use Rattle.ts_shape.specs.inside.Collisions.{AreFlagged, AreCollisions, flag_of}
use Rattle.ts_shape.proofs.FirstRepeats.{seen_after, after-more, no-collisions, collisions-more, collisions-in, distinct-next, front-fewer, among-last, among-more, walk-length}
use Rattle.ts_shape.proofs.KeyTables.{flag-new, flag-more}
use Rattle.ts_shape.proofs.collisions.gather.Goals.{then-known-passed+then-seen-flag}
use Rattle.ts_shape.proofs.collisions.gather.Goals.{else-known-passed}
use Rattle.ts_shape.proofs.collisions.gather.Goals.{else-known-passed-via-then-known-passed+else-seen-flag}
use Rattle.ts_shape.proofs.collisions.gather.Goals.{else-known-passed-via-else-known-passed}
use Rattle.ts_shape.proofs.collisions.gather.Goals as goal

pub loop-items-init : goal.loop-items-init
loop-items-init g c =
    let key = g.T.FromElement.key_of in
    let all : c.args.known ≡ c.args.known - 0 = omega arith in
    let from = λ (p : Place) (n : ℕ). take n (items_at g.T.FromElement.reading p) in
    let same : from (inside (now c.args.list)) c.args.known ≡ from c.within-items.result.rest (c.args.known - 0) = rw (c.within-items.ensures, sym all) refl in
    let none : length c.args.table.now.items ≡ 0 = ap length c.requires.empty in (
      [],
      ap (items_at g.T.FromElement.reading) (sym c.within-items.ensures),
      refl,
      length-replicate g.row.M false,
      tt,
      no-collisions key (keys_in c.args.table.now.items) [],
      subst (λ (xs : List g.T.FromElement.Record). first_repeated key [] xs ≡ None) same c.requires.distinct,
      λ some. absurd (omega arith),
    )

pub overflow_add-passed : goal.overflow_add-passed
overflow_add-passed g c =
    let i = c.loop-items.invariant in
    let xs = items_at g.T.FromElement.reading (inside (now c.args.list)) in
    let fewer = front-fewer xs i.0 _ _ _ i.1 c.in-Some.ensures.steps in
    let octets = walk-length g.T.FromElement.reading (inside (now c.args.list)) in
    let bound = c.ranges.list.0 in
    let many = i.2 in
    omega arith

pub loop-items-preserved : goal.loop-items-preserved
loop-items-preserved g c =
    let key = g.T.FromElement.key_of in
    let x = g.T.FromElement.record_of c.in-Some.item in
    let i = c.loop-items.invariant in
    let seen = seen_after key [] i.0 in
    let flag : c.flag_of-flag.result ≡ flag_of g.row.M c.args.factor (key x) = c.flag_of-flag.ensures.flag ∙ ap (flag_of g.row.M c.args.factor) c.key.ensures in
    let distinct = distinct-next key seen _ x _ c.args.known c.loop-items.passed c.in-Some.ensures.steps i.6 in
    let many = i.3 in
    let within = c.flag_of-flag.ensures.within in
    let lt : c.flag_of-flag.result < length c.loop-items.seen = omega arith in
    let after = after-more key [] i.0 x in
    let front = i.0 ++ x ∷ [] in
    let old = keys_in c.loop-items.table.items in
    let kept : AreCollisions key (keys_in c.if-known-passed.table.items) [] (i.0 ++ x ∷ []) × (0 < length c.if-known-passed.table.items → c.args.known < c.loop-items.passed + 1) =
    elim c.if-known-passed.branch [
      | then-known-passed+then-seen-flag w ↦ (
          let taken : keys_in c.if-known-passed.table.items ≡ old ++ key x ∷ [] =
          ap (λ t. keys_in t.items) w.table-is ∙ ap keys_in w.push.ensures.items ∙ map-append (λ y. y.now) c.loop-items.table.items (w.key-then-seen-flag.result ∷ [])
          ∙ ap (λ (k : List ℕ). old ++ k ∷ []) w.key-then-seen-flag.ensures in
          let from = w.if-known-passed.true in (
            subst (λ (keys : List (List ℕ)). AreCollisions key keys [] front) (sym taken)
                (collisions-more key (old ++ key x ∷ []) [] i.0 x (collisions-in key old (old ++ key x ∷ []) [] i.0 (among-more old (key x)) i.5) (λ e. among-last old (key x))),
            λ some. omega arith,
          )
          )
      | else-known-passed w ↦ (
          let new : is_among (key x) seen ≡ false =
          elim w.else-known-passed.branch [
            | else-known-passed-via-then-known-passed+else-seen-flag w' ↦
                flag-new (flag_of g.row.M c.args.factor) c.loop-items.seen (key x) seen i.4
                (ap (λ (n : ℕ). get_or c.loop-items.seen n false) (sym flag)
                ∙ w'.if-seen-flag.false)
            | else-known-passed-via-else-known-passed w' ↦ distinct.0 (let front = w'.if-known-passed.false in omega arith)
          ] in
          let same : keys_in c.if-known-passed.table.items ≡ old = ap (λ t. keys_in t.items) w.table-is in
          let many : length c.if-known-passed.table.items ≡ length c.loop-items.table.items = ap (λ t. length t.items) w.table-is in (
            subst (λ (keys : List (List ℕ)). AreCollisions key keys [] front) (sym same) (collisions-more key old [] i.0 x i.5 (λ e. absurd (false≢true (sym new ∙ e)))),
            λ some. let before = i.7 (omega arith) in omega arith,
          )
          )
    ] in (
      front,
      i.1 ∙ ap (λ (ys : List g.T.FromElement.Record). i.0 ++ ys) c.in-Some.ensures.steps ∙ sym (append_assoc i.0 (x ∷ []) (items_at g.T.FromElement.reading c.next.new.self.rest)),
      (let length_now = i.2 in simp length_push (omega arith)),
      length-set c.loop-items.seen c.flag_of-flag.result true ∙ i.3,
      subst (λ (keys : List (List ℕ)). AreFlagged g.row.M c.args.factor
          (set c.loop-items.seen c.flag_of-flag.result true) keys) (sym after) (
            get_or-set_at c.loop-items.seen c.flag_of-flag.result
                (flag_of g.row.M c.args.factor (key x)) true false (sym flag) lt,
            flag-more
                (flag_of g.row.M c.args.factor) c.loop-items.seen c.flag_of-flag.result seen lt i.4,
          ),
      kept.0,
      subst (λ (keys : List (List ℕ)). first_repeated key keys (take (c.args.known - (c.loop-items.passed + 1)) (items_at g.T.FromElement.reading c.next.new.self.rest)) ≡ None) (sym after) distinct.1,
      kept.1,
    )
