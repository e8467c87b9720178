-- The first octet that is left decides.
use Rattle.std.proofs.Common.{◌∙◌, ap, sym}
use Rattle.std.proofs.lemmas.List.{at_drop_more, drop_all}
use Rattle.ts_api.specs.Asking.{is_json}
use Rattle.ts_api.proofs.Bodies.{begins, ends, goes_on}
use Rattle.ts_api.proofs.asking.is_json.Goals as goal

pub returns-then-octet-eq123 : goal.returns-then-octet-eq123
returns-then-octet-eq123 c =
    sym (sym c.loop-octet.invariant ∙ (at_drop_more is_json c.args.body.now c.loop-octet.octet-index 0 c.loop-octet-test.true ∙ begins _ _ c.if-octet-eq123.true))

pub returns-then-not-is_ascii_whitespace : goal.returns-then-not-is_ascii_whitespace
returns-then-not-is_ascii_whitespace c =
    let blank = sym c.is_ascii_whitespace.ensures.value ∙ c.if-not-is_ascii_whitespace.true in
    sym (sym c.loop-octet.invariant ∙ (at_drop_more is_json c.args.body.now c.loop-octet.octet-index 0 c.loop-octet-test.true ∙ ends _ _ c.if-octet-eq123.false blank))

pub loop-octet-preserved : goal.loop-octet-preserved
loop-octet-preserved c =
    let blank = sym c.is_ascii_whitespace.ensures.value ∙ c.if-not-is_ascii_whitespace.false in
    sym (at_drop_more is_json c.args.body.now c.loop-octet.octet-index 0 c.loop-octet-test.true ∙ goes_on _ _ c.if-octet-eq123.false blank) ∙ c.loop-octet.invariant

pub returns : goal.returns
unfolding is_json
returns c = sym (ap is_json (drop_all c.loop-octet.octet-index c.args.body.now c.loop-octet-test.false)) ∙ c.loop-octet.invariant
