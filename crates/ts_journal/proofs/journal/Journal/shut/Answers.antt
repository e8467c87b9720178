use Rattle.std.proofs.Common.{subst}
use Rattle.ts_disk.specs.Disk.{EveryImage}
use Rattle.ts_journal.specs.Images.{Behind}
use Rattle.ts_journal.proofs.Others.{behind_moves}
use Rattle.ts_journal.proofs.journal.Journal.shut.Goals as goal

pub returns-in_err-shut-clause-moments : goal.returns-in_err-shut-clause-moments
returns-in_err-shut-clause-moments g c = λ bodies copied holds.
    let j = c.args.self.now in
    let state = g.D.Disk.state in
    behind_moves state g.D.Disk.lawful j c.shut.new.disk bodies copied holds
    (subst (λ h. EveryImage (Behind h) (state j.spare) (state c.shut.new.disk)) c.owner-owner.ensures c.shut.ensures.moments)

pub returns-clause-moments : goal.returns-clause-moments
returns-clause-moments g c = λ bodies copied holds.
    let j = c.args.self.now in
    let state = g.D.Disk.state in
    behind_moves state g.D.Disk.lawful j c.shut.new.disk bodies copied holds
    (subst (λ h. EveryImage (Behind h) (state j.spare) (state c.shut.new.disk)) c.owner-owner.ensures c.shut.ensures.moments)
