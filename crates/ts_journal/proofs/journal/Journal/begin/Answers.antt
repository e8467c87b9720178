use Rattle.std.proofs.Common.{[], ◌∷◌, ◌∙◌, ap, subst}
use Rattle.ts_journal.specs.Images.{head, Begins}
use Rattle.ts_journal.specs.Settled.{IsSpare, next, header_of}
use Rattle.ts_journal.proofs.Others.{behind_moves, shut_is_behind, begun_journal}
use Rattle.ts_journal.proofs.journal.Journal.begin.Goals as goal

pub returns-in_err-begin-clause-moments : goal.returns-in_err-begin-clause-moments
returns-in_err-begin-clause-moments g c = λ bodies copied holds.
    let j = c.args.self.now in
    let state = g.D.Disk.state in
    behind_moves state g.D.Disk.lawful j c.begin.new.disk bodies copied holds (shut_is_behind (header_of j) (state j.spare) (state c.begin.new.disk) c.begin.ensures.moments)

pub returns-clause-moments : goal.returns-clause-moments
returns-clause-moments g c = λ bodies copied holds.
    let j = c.args.self.now in
    let state = g.D.Disk.state in
    behind_moves state g.D.Disk.lawful j c.begin.new.disk bodies copied holds (shut_is_behind (header_of j) (state j.spare) (state c.begin.new.disk) c.begin.ensures.moments)

pub returns-clause-holds : goal.returns-clause-holds
returns-clause-holds g c = λ bodies copied holds.
    let j = c.args.self.now in
    let state = g.D.Disk.state in
    let h = header_of j in
    let k = subst (λ st. IsSpare st h copied j.copy_end (state j.spare)) c.requires.stage holds.spare in
    let begun = subst (λ octets. Begins octets (0 ∷ []) (state c.begin.new.disk).read) (c.head_octets-octets.ensures ∙ ap head c.owner.ensures) c.in_ok-begin.ensures.begun in
    record {
      right = holds.right;
      live = holds.live;
      is_live = holds.is_live;
      journal = holds.journal;
      spare = (begun_journal (next h) 0 (state c.begin.new.disk) begun.0 c.in_ok-begin.ensures.durable begun.1, k.2);
    }
