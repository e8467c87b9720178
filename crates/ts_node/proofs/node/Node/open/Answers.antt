use Rattle.std.proofs.Common.{◌∙◌, ap, refl, sym, subst}
use Rattle.ts_record.specs.Facts.{OpensTo}
use Rattle.ts_record.specs.Kept.{member}
use Rattle.ts_record.specs.Opening.{NothingNew}
use Rattle.ts_node.specs.Node.{member_as}
use Rattle.ts_node.proofs.Breaks.{both_not}
use Rattle.ts_node.proofs.Images.{from_either}
use Rattle.ts_node.proofs.node.Node.open.Goals as goal

pub returns-in-Ok-open-clause-opens : goal.returns-in-Ok-open-clause-opens
returns-in-Ok-open-clause-opens g c = λ ca cb a b.
    let kept = c.in-Ok.kept in
    let same = sym (ap member_as c.in-Ok-open.ensures.config ∙ (λ i. record { node = c.node.ensures i; nodes = c.nodes.ensures i })) in
    subst (λ m. OpensTo g.C.Codec.octets m kept.facts ca cb) same (from_either g.C.Codec.octets (member kept) kept.swapped kept.facts ca cb (c.in-Ok.ensures.opens ca cb a b))

pub returns-in-Ok-open-clause-only : goal.returns-in-Ok-open-clause-only
returns-in-Ok-open-clause-only g c = λ whose facts opens.
    let read = c.in-Ok.ensures.only whose facts opens in
    (read.0, ap member_as c.in-Ok-open.ensures.config ∙ (λ i. record { node = c.node.ensures i; nodes = c.nodes.ensures i }) ∙ read.1)

pub returns-in-Err-open-clause-moments : goal.returns-in-Err-open-clause-moments
returns-in-Err-open-clause-moments g c =
    let state = g.D.Disk.state in
    subst (λ x. NothingNew (state c.args.a) (state c.args.b) (state x) (state c.close-a.result.1)) (sym c.close-a.ensures.a)
    (subst (λ y. NothingNew (state c.args.a) (state c.args.b) (state c.in-Ok.kept.a) (state y)) (sym c.close-a.ensures.b) c.in-Ok.ensures.moments)

pub returns-in-Ok-open-clause-whole : goal.returns-in-Ok-open-clause-whole
returns-in-Ok-open-clause-whole g c = both_not _ _ c.in-Ok.ensures.whole refl
