use Rattle.std.proofs.Common.{length, refl}
use Rattle.ts_journal.specs.Settled.{header_of}
use Rattle.ts_journal.proofs.Journals.{journal_next}
use Rattle.ts_journal.proofs.Pairs.{moves}
use Rattle.ts_journal.proofs.journal.Journal.append.Goals as goal

pub returns-in_err-extend-clause-moments : goal.returns-in_err-extend-clause-moments
returns-in_err-extend-clause-moments g c = λ bodies copied body fits are holds.
    moves g.D.Disk.state g.D.Disk.lawful c.args.self.now c.extend.new.disk bodies copied body c.args.octets.now are holds fits c.extend.ensures.moments

pub returns-clause-moments : goal.returns-clause-moments
returns-clause-moments g c = λ bodies copied body fits are holds.
    moves g.D.Disk.state g.D.Disk.lawful c.args.self.now c.extend.new.disk bodies copied body c.args.octets.now are holds fits c.extend.ensures.moments

pub returns-clause-holds : goal.returns-clause-holds
returns-clause-holds g c = λ bodies copied body fits are holds.
    let j = c.args.self.now in
    let state = g.D.Disk.state in
    record {
      right = holds.right;
      live = holds.live;
      is_live = holds.is_live;
      journal = journal_next (header_of j) holds.live bodies body j.end (length c.args.octets.now)
          c.args.octets.now (state j.current) (state c.extend.new.disk) holds.journal fits are refl
          c.in_ok-extend.ensures.durable c.in_ok-extend.ensures.opened;
      spare = holds.spare;
    }
