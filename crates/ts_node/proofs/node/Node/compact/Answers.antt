use Rattle.std.proofs.Common.{◌∙◌, sym, subst}
use Rattle.ts_journal.specs.Images.{EveryPair}
use Rattle.ts_record.specs.Record.{OpensToForce}
use Rattle.ts_synod.proofs.Same.{same_log}
use Rattle.ts_node.specs.Growing.{IsPart}
use Rattle.ts_node.proofs.Breaks.{both_not}
use Rattle.ts_node.proofs.Images.{stand_force}
use Rattle.ts_node.proofs.node.Node.compact.Goals as goal

pub returns-in-Ok-clause-sound : goal.returns-in-Ok-clause-sound
returns-in-Ok-clause-sound g c = λ whole.
    let old = c.args.self.now in
    let w = c.requires.sound (both_not _ _ c.requires.whole c.requires.still) in
    let force = c.in-Ok.ensures.force in
    record {
      opens = c.in-Ok.ensures.opens;
      whose = c.compact.ensures.owner ∙ w.whose;
      stand = stand_force old.roles old.kept.facts c.compact.new.self.facts force w.stand;
      part = subst (IsPart (g.M.Machine.commands old.machine)) (sym (same_log c.compact.new.self.facts old.kept.facts force)) w.part;
    }

pub returns-in-Ok-clause-moments : goal.returns-in-Ok-clause-moments
returns-in-Ok-clause-moments g c =
    let old = c.args.self.now in
    let state = g.D.Disk.state in
    subst (λ m. EveryPair (OpensToForce g.C.Codec.octets m old.kept.facts) (state old.kept.a)
    (state old.kept.b) (state c.compact.new.self.a) (state c.compact.new.self.b))
    (c.requires.sound (both_not _ _ c.requires.whole c.requires.still)).whose
    (c.compact.ensures.moments c.requires.whole)

pub returns-in-Err-clause-moments : goal.returns-in-Err-clause-moments
returns-in-Err-clause-moments g c =
    let old = c.args.self.now in
    let state = g.D.Disk.state in
    subst (λ m. EveryPair (OpensToForce g.C.Codec.octets m old.kept.facts) (state old.kept.a)
    (state old.kept.b) (state c.compact.new.self.a) (state c.compact.new.self.b))
    (c.requires.sound (both_not _ _ c.requires.whole c.requires.still)).whose
    (c.compact.ensures.moments c.requires.whole)
