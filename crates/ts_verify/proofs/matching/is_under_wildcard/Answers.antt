-- Pattern and host are cut at their first dots.
use Rattle.std.proofs.Common.{◌∙◌, sym}
use Rattle.std.proofs.lemmas.Bool.{false≢true}
use Rattle.ts_verify.proofs.Wildcards.{is_under, wildcard_parts, some_octet, no_octet}
use Rattle.ts_verify.proofs.matching.is_under_wildcard.Goals as goal

pub returns-then-not-is_empty : goal.returns-then-not-is_empty
returns-then-not-is_empty c =
    let some = some_octet c.in-Some-split_label.label.now
    (sym c.is_empty.ensures ∙ c.if-not-is_empty.true) in (
      λ same. is_under c.args.pattern.now c.args.host.now c.in-Some.rest.now
          c.in-Some-split_label.label.now c.in-Some-split_label.others.now c.in-Some.ensures
          c.in-Some-split_label.ensures.0 c.in-Some-split_label.ensures.1 some
          (c.eq_ignore_ascii_case.ensures.test.0 same),
      λ under. c.eq_ignore_ascii_case.ensures.test.1
          (wildcard_parts c.args.pattern.now c.args.host.now c.in-Some.rest.now c.in-Some-split_label.label.now
          c.in-Some-split_label.others.now c.in-Some.ensures c.in-Some-split_label.ensures.0
          c.in-Some-split_label.ensures.1 under).1,
    )

pub returns-else-not-is_empty : goal.returns-else-not-is_empty
returns-else-not-is_empty c =
    let none = no_octet c.in-Some-split_label.label.now
    (sym c.is_empty.ensures ∙ c.if-not-is_empty.false) in
    rw c.if-not-is_empty.false (
      λ yes. absurd (false≢true yes),
      λ under. absurd (none (wildcard_parts c.args.pattern.now c.args.host.now c.in-Some.rest.now
          c.in-Some-split_label.label.now c.in-Some-split_label.others.now c.in-Some.ensures
          c.in-Some-split_label.ensures.0 c.in-Some-split_label.ensures.1 under).0),
    )
