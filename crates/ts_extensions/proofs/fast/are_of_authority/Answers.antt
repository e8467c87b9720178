use Rattle.std.proofs.Common.{◌≡◌, length, drop, sym, ap, ◌∙◌, arith}
use Rattle.std.proofs.lemmas.Bool.{eqb-true}
use Rattle.std.proofs.lemmas.List.{take_rest, length-drop}
use Rattle.ts_extensions.proofs.FastValues.{of-authority, bounded-authority}
use Rattle.ts_extensions.proofs.fast.are_of_authority.Goals as goal

pub returns-in_default-bound : goal.returns-in_default-bound
returns-in_default-bound c = λ e.
    let content = c.args.content.now in
    let none : length (drop 3 content) ≡ 0 = ap length (sym (take_rest content 3)) ∙ eqb-true _ 0 (sym c.is_empty.ensures ∙ e) in
    let three : length content ≡ 3 = omega (arith, none, length-drop 3 content, c.in-len3-up.len_at_least) in
    (_, of-authority content three c.if-tag-ne-BOOLEAN.false c.if-length-ne1.false c.if-ca.false)

pub returns : goal.returns
returns c = λ e.
    let content = c.args.content.now in
    let behind = take_rest content 3 in
    let three : length (drop 3 content) ≡ 3 = omega (arith, ap length behind, c.in-len3.len_at_least, c.in-len3.len_below) in (
      _,
      bounded-authority content three c.if-tag-ne-BOOLEAN.false c.if-length-ne1.false c.if-ca.false
          (rw behind at c.if-integer-ne-INTEGER.false) (rw behind at c.if-one-ne1.false)
          (rw behind at c.if-number-ge128.false),
    )
