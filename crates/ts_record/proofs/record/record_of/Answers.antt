use Rattle.std.proofs.Common.{refl}
use Rattle.ts_journal.specs.Choice.{header_of_owner}
use Rattle.ts_journal.proofs.Rests.{any}
use Rattle.ts_record.proofs.Reopened.{keeps_of, none_under_way}
use Rattle.ts_record.proofs.record.record_of.Goals as goal

pub invariant_of-result : goal.invariant_of-result
invariant_of-result g c = λ whole.
    let found = c.args.found in
    let facts = found.contents.facts.items in
    let k = keeps_of g.D.Disk.state g.C.Codec.octets _ facts c.requires.live c.requires.other c.requires.durable c.requires.still c.requires.read in
    (k.0, k.1, k.2, k.3, none_under_way g.C.Codec.octets found.choice.stage (header_of_owner found.choice.owner) (g.D.Disk.state c.args.spare).read facts c.new.result.items k.1 0 c.requires.other)

pub returns-clause-opens : goal.returns-clause-opens
returns-clause-opens g c = λ ca cb left_a left_b.
    let k = invariant_of-result g c refl in
    (k.0, any g.D.Disk.state _ k.0 k.1 k.2 ca cb left_a left_b, k.3)
