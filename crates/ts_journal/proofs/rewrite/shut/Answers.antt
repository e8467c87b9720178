use Rattle.ts_disk.specs.Disk.{Torn}
use Rattle.ts_journal.specs.Choice.{header_of_owner}
use Rattle.ts_journal.specs.Images.{Behind}
use Rattle.ts_journal.proofs.Moments.{weaker}
use Rattle.ts_journal.proofs.Rewrites.{torn_shut}
use Rattle.ts_journal.proofs.rewrite.shut.Goals as goal

pub returns-then-is_live-clause-moments : goal.returns-then-is_live-clause-moments
returns-then-is_live-clause-moments g c =
    let state = g.D.Disk.state in
    let image = (state c.args.disk.now).read in
    weaker (Torn 24 1 image) (Behind (header_of_owner c.args.owner.now)) (state c.args.disk.now) (state c.put.new.disk)
    (λ left torn. torn_shut (header_of_owner c.args.owner.now) image left (c.requires.earlier c.if-is_live.true) torn) c.put.ensures.moments
