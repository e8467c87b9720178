use Rattle.std.proofs.Common.{length, refl, ◌+◌, ◌++◌, ◌∷◌, [], sym, subst}
use Rattle.ts_journal.specs.Settled.{IsSpare, next, header_of}
use Rattle.ts_journal.proofs.Journals.{journal_next}
use Rattle.ts_journal.proofs.Others.{behind_moves, copying_is_behind}
use Rattle.ts_journal.proofs.journal.Journal.copy.Goals as goal

pub returns-in_err-extend-clause-moments : goal.returns-in_err-extend-clause-moments
returns-in_err-extend-clause-moments g c = λ bodies copied holds.
    let j = c.args.self.now in
    let state = g.D.Disk.state in
    let k = subst (λ st. IsSpare st (header_of j) copied j.copy_end (state j.spare)) c.requires.stage holds.spare in
    let b = c.requires.body in
    behind_moves state g.D.Disk.lawful j c.extend.new.disk bodies copied holds
    (copying_is_behind (next (header_of j)) (header_of j) copied b.0 j.copy_end c.args.octets.now (state j.spare) (state c.extend.new.disk) k.0 b.1 b.2 c.extend.ensures.moments)

pub returns-clause-moments : goal.returns-clause-moments
returns-clause-moments g c = λ bodies copied holds.
    let j = c.args.self.now in
    let state = g.D.Disk.state in
    let k = subst (λ st. IsSpare st (header_of j) copied j.copy_end (state j.spare)) c.requires.stage holds.spare in
    let b = c.requires.body in
    behind_moves state g.D.Disk.lawful j c.extend.new.disk bodies copied holds
    (copying_is_behind (next (header_of j)) (header_of j) copied b.0 j.copy_end c.args.octets.now (state j.spare) (state c.extend.new.disk) k.0 b.1 b.2 c.extend.ensures.moments)

pub returns-clause-holds : goal.returns-clause-holds
returns-clause-holds g c = λ bodies copied body fits are holds.
    let j = c.args.self.now in
    let state = g.D.Disk.state in
    let h = header_of j in
    let k = subst (λ st. IsSpare st h copied j.copy_end (state j.spare)) c.requires.stage holds.spare in
    let after = journal_next (next h) 0 copied body j.copy_end (length c.args.octets.now)
    c.args.octets.now (state j.spare) (state c.extend.new.disk) k.0 fits are refl
    c.in_ok-extend.ensures.durable c.in_ok-extend.ensures.opened in
    record {
      right = holds.right;
      live = holds.live;
      is_live = holds.is_live;
      journal = holds.journal;
      spare = subst (λ st. IsSpare st h (copied ++ body ∷ []) (j.copy_end + length c.args.octets.now) (state c.extend.new.disk)) (sym c.requires.stage) (after, k.1);
    }
