use Rattle.std.proofs.Common.{◌+◌, subst, sym, arith}
use Rattle.ts_disk.specs.Disk.{IsDurable}
use Rattle.ts_journal.specs.Images.{IsEarlier}
use Rattle.ts_journal.specs.Settled.{IsJournal, next, header_of}
use Rattle.ts_journal.proofs.Others.{ready, switch_moves, switched_moves, live_journal, next_right, earlier}
use Rattle.ts_journal.proofs.journal.Journal.switch.Goals as goal

pub returns-in_err-put-clause-moments : goal.returns-in_err-put-clause-moments
returns-in_err-put-clause-moments g c = λ bodies copied holds.
    let j = c.args.self.now in
    let state = g.D.Disk.state in
    switch_moves state g.D.Disk.lawful j c.put.new.disk bodies copied (ready state bodies copied j holds c.requires.stage) c.put.ensures.moments

pub returns-clause-moments : goal.returns-clause-moments
returns-clause-moments g c = λ bodies copied holds.
    let j = c.args.self.now in
    let state = g.D.Disk.state in
    switched_moves state g.D.Disk.lawful j c.put.new.disk c.swap.new.x c.swap.new.y bodies copied
    c.swap.ensures.x_after c.swap.ensures.y_after
    (ready state bodies copied j holds c.requires.stage) c.put.ensures.moments

pub returns-clause-holds : goal.returns-clause-holds
returns-clause-holds g c = λ bodies copied holds.
    let j = c.args.self.now in
    let state = g.D.Disk.state in
    let r = ready state bodies copied j holds c.requires.stage in
    let h = header_of j in
    record {
      right = next_right h holds.right r.not_last;
      live = 1;
      is_live = omega arith;
      journal = subst (λ d. IsJournal (next h) 1 copied j.copy_end (state d)) (sym c.swap.ensures.x_after)
          (live_journal (next h) copied j.copy_end (state j.spare) (state c.put.new.disk) r.journal c.in_ok-put.ensures.durable c.in_ok-put.ensures.written);
      spare = subst (λ d. IsDurable (state d) × IsEarlier (next h) (state d).read) (sym c.swap.ensures.y_after)
          (holds.journal.durable, earlier h holds.live bodies (state j.current).read holds.right holds.is_live holds.journal.stands);
    }
