use Rattle.std.proofs.Common.{◌-◌, length, drop, ◌∙◌, sym, arith}
use Rattle.std.proofs.lemmas.List.{length-drop, take_all}
use Rattle.ts_extensions.proofs.FastValues.{short-extension}
use Rattle.ts_extensions.proofs.fast.short_parts.Goals as goal

pub returns : goal.returns
returns c =
    let content = c.args.content.now in
    let behind = length-drop 5 content in
    let whole = take_all (length content - 5) (drop 5 content) (omega (arith, behind)) in
    let flag = c.behind_critical.ensures in
    let value = c.in_ok-value.ensures in (
      flag.1,
      short-extension content flag.0 c.behind_critical.result.now c.in_ok-value.value.now flag.1 c.in-len5-up.len_at_least
          c.if-tag-ne-OBJECT_IDENTIFIER.false c.if-length-ne3.false c.if-joint-ne85.false c.if-ce-ne29.false c.if-arc-ge128.false flag.2 (sym whole ∙ flag.3) value.0 value.1,
    )
