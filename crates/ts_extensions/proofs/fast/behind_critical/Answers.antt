use Rattle.std.proofs.Common.{◌-◌, length, drop, true, false, [], refl, arith}
use Rattle.std.proofs.lemmas.List.{length-drop, take_all}
use Rattle.ts_der.specs.Boolean.{boolean_content}
use Rattle.ts_der.specs.Element.{encode}
use Rattle.ts_extensions.proofs.FastValues.{true-flag}
use Rattle.ts_extensions.proofs.fast.behind_critical.Goals as goal

pub returns-in_default : goal.returns-in_default
returns-in_default c = ([], false, refl, refl)

pub returns-then-tag-ne-BOOLEAN : goal.returns-then-tag-ne-BOOLEAN
returns-then-tag-ne-BOOLEAN c = ([], false, refl, refl)

pub returns : goal.returns
returns c =
    let fields = c.args.fields.now in
    let behind = length-drop 3 fields in
    let whole = take_all (length fields - 3) (drop 3 fields) (omega (arith, behind)) in
    (encode 0x01 (boolean_content true), true, refl, rw whole (true-flag fields c.in-len3-up.len_at_least c.if-tag-ne-BOOLEAN.false c.if-length-ne1.false c.if-octet.false))
