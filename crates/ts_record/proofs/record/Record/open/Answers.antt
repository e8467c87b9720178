use Rattle.std.proofs.Common.{◌∙◌}
use Rattle.ts_record.proofs.Reopened.{owner_read, read_all, no_fault, placed, placed_swapped}
use Rattle.ts_record.proofs.record.Record.open.Goals as goal

pub returns-then-found-clause-only : goal.returns-then-found-clause-only
returns-then-found-clause-only g c = λ owner facts opens.
    let state = g.D.Disk.state in
    let found = c.in-Ok.found in (
      c.record_of.ensures.facts
          ∙ read_all g.C.Codec.octets c.one_encoding.ensures found.choice owner (state c.args.a).read
          (state c.args.b).read found.contents.facts.items facts found.contents.end
          c.in-Ok.ensures.chosen c.in-Ok.ensures.read opens,
      owner_read g.C.Codec.octets found.choice owner (state c.args.a).read (state c.args.b).read facts _ _ c.in-Ok.ensures.chosen opens c.record_of.ensures.node c.record_of.ensures.nodes,
    )

pub returns-else-found-clause-only : goal.returns-else-found-clause-only
returns-else-found-clause-only g c = λ owner facts opens.
    let state = g.D.Disk.state in
    let found = c.in-Ok.found in (
      c.record_of-else-found.ensures.facts
          ∙ read_all g.C.Codec.octets c.one_encoding.ensures found.choice owner (state c.args.a).read
          (state c.args.b).read found.contents.facts.items facts found.contents.end
          c.in-Ok.ensures.chosen c.in-Ok.ensures.read opens,
      owner_read g.C.Codec.octets found.choice owner (state c.args.a).read
          (state c.args.b).read facts _ _ c.in-Ok.ensures.chosen opens
          c.record_of-else-found.ensures.node c.record_of-else-found.ensures.nodes,
    )

pub returns-in-Err-clause-only : goal.returns-in-Err-clause-only
returns-in-Err-clause-only g c = λ owner facts opens.
    let state = g.D.Disk.state in
    no_fault g.C.Codec.octets owner (state c.args.a) (state c.args.b) (state c.open_disks.new.a) (state c.open_disks.new.b) c.in-Err.fault facts c.in-Err.ensures.fault opens

pub returns-then-found-clause-moments : goal.returns-then-found-clause-moments
returns-then-found-clause-moments g c =
    placed_swapped g.D.Disk.state c.args.a c.args.b c.open_disks.new.a c.open_disks.new.b _ _
    c.in-Ok.found.choice.swapped c.if-found.true c.record_of.ensures.a c.record_of.ensures.b
    c.open_disks.ensures.moments

pub returns-else-found-clause-moments : goal.returns-else-found-clause-moments
returns-else-found-clause-moments g c =
    placed g.D.Disk.state c.args.a c.args.b c.open_disks.new.a c.open_disks.new.b _ _
    c.in-Ok.found.choice.swapped c.if-found.false c.record_of-else-found.ensures.a
    c.record_of-else-found.ensures.b c.open_disks.ensures.moments
