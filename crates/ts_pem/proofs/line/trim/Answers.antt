-- The blanks at the end are taken one by one.
use Rattle.std.proofs.Common.{◌≤◌, length, sym, ◌∙◌, arith}
use Rattle.ts_pem.proofs.Trimmed.{trimmed_front, trimmed_whole, trimmed_none}
use Rattle.ts_pem.proofs.line.trim.Goals as goal

pub returns-then-not-is_blank : goal.returns-then-not-is_blank
returns-then-not-is_blank c =
    let some : 1 ≤ length c.loop-rest.rest.now = omega arith in
    let whole = trimmed_whole c.loop-rest.rest.now some (sym c.is_blank.ensures ∙ c.if-not-is_blank.true) in
    sym (c.loop-rest.invariant ∙ whole)

pub loop-rest-preserved : goal.loop-rest-preserved
loop-rest-preserved c =
    let some : 1 ≤ length c.loop-rest.rest.now = omega arith in
    c.loop-rest.invariant ∙ trimmed_front c.loop-rest.rest.now some (sym c.is_blank.ensures ∙ c.if-not-is_blank.false)

pub returns : goal.returns
returns c =
    let whole = trimmed_none c.loop-rest.rest.now (omega arith) in
    sym (c.loop-rest.invariant ∙ whole)
