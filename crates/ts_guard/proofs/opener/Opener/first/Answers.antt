-- The first record, or why there is none.
use Rattle.std.proofs.Common.{◌∙◌, sym, arith}
use Rattle.ts_guard.specs.inside.Parts.{IsWhole}
use Rattle.ts_guard.proofs.Fronts.{bad_tag, false_true, first_record, head_fault}
use Rattle.ts_guard.proofs.opener.Opener.first.Goals as goal

pub returns-in-Err-clause-first : goal.returns-in-Err-clause-first
returns-in-Err-clause-first c key context for =
    let held = c.args.self.now.held in
    head_fault key context c.args.self.now.number held c.in-Err.fault (omega arith)
    (rw c.octets-octets.ensures at c.in-Err.ensures)

pub returns-then-not-is_same_tag-clause-first : goal.returns-then-not-is_same_tag-clause-first
returns-then-not-is_same_tag-clause-first c key context for =
    let held = c.args.self.now.held in
    let whole : IsWhole held c.in-Ok-Some.size =
    rw (c.in-Ok-Some.field-0-is, c.octets-octets.ensures) at c.in-Ok-Some.ensures in
    let given = rw c.octets-octets.ensures at c.copy_from_slice.ensures.after in
    let tags = rw c.octets-octets.ensures at (c.tag_of.ensures key context for) in (
      omega arith,
      bad_tag key context c.args.self.now.number held c.copy_from_slice.new.self
          c.in-Ok-Some.size whole given (λ same. false_true
          (c.if-not-is_same_tag.ensures.1 (same ∙ sym tags))),
    )

pub returns-clause-first : goal.returns-clause-first
returns-clause-first c key context for =
    let held = c.args.self.now.held in
    let whole : IsWhole held c.in-Ok-Some.size =
    rw (c.in-Ok-Some.field-0-is, c.octets-octets.ensures) at c.in-Ok-Some.ensures in
    let given = rw c.octets-octets.ensures at c.copy_from_slice.ensures.after in
    let tags = rw c.octets-octets.ensures at (c.tag_of.ensures key context for) in
    let items = rw c.octets-octets.ensures at c.in_ok-from_slice.ensures.items in
    first_record key context c.args.self.now.number held c.copy_from_slice.new.self
    c.in_ok-from_slice.field-0.items c.in-Ok-Some.size whole given
    (c.is_same_tag.ensures.0 c.if-not-is_same_tag.false ∙ tags) items
