-- A turn of its own: it is made in memory, and its facts are kept.
use Rattle.std.proofs.Common.{◌∙◌, true≢false, refl, sym, subst, arith}
use Rattle.ts_record.specs.Kept.{member}
use Rattle.ts_node.specs.Machine.{store_of}
use Rattle.ts_synod.specs.Laws.{node_with}
use Rattle.ts_synod.specs.Turn.{turn}
use Rattle.ts_node.specs.Node.{config, owner, volatile}
use Rattle.ts_node.specs.inside.Roles.{facts_in, volatile_after}
use Rattle.ts_node.specs.Turn.{EndsBehind, inputs_of}
use Rattle.ts_node.proofs.Breaks.{both_not, second_not}
use Rattle.ts_node.proofs.Coming.{one_step}
use Rattle.ts_node.proofs.Images.{rests}
use Rattle.ts_node.proofs.Stages.{come_failed, come_kept, come_refused, moments_kept, moments_none, none_then, staged_whole, whole_staged}
use Rattle.ts_node.proofs.node.Node.follow.Goals as goal

pub returns-in_default-clause-come : goal.returns-in_default-clause-come
returns-in_default-clause-come g c =
    let old = c.args.self.now in
    let kept = old.kept in
    let plan = c.args.plan in
    let w = c.requires.sound (both_not _ _ c.requires.whole c.requires.still) in
    record {
      looked = 0;
      made = plan.messages.items;
      more = facts_in plan.change;
      then' = volatile_after old.roles plan.change;
      so = λ fs sent event stand makes. one_step (store_of g.row.M-Question.Denot g.M.Machine.client_id g.M.Machine.outcome) fs sent event old.roles plan plan.messages.items makes;
      comes = record { kept = refl; volatile = refl; ahead = refl };
      few = omega arith;
      alone = λ none. absurd (true≢false (sym c.requires.own ∙ none));
      moments = rests g.C.Codec.octets (member kept) (owner old) kept.swapped kept.facts _
          (g.D.Disk.state kept.a) (g.D.Disk.state kept.b) w.whose (g.D.Disk.lawful kept.a)
          (g.D.Disk.lawful kept.b) w.opens;
      ends = tt;
    }

pub begin-requires-clause-staged : goal.begin-requires-clause-staged
begin-requires-clause-staged g c =
    whole_staged g.D.Disk.state g.C.Codec.octets g.M.Machine.commands c.args.self.now
    c.empty-staged.result.facts.items c.empty-staged.ensures.facts
    (c.requires.sound (both_not _ _ c.requires.whole c.requires.still))

pub returns-in-Ok-append_staged-clause-come : goal.returns-in-Ok-append_staged-clause-come
returns-in-Ok-append_staged-clause-come g c =
    let old = c.args.self.now in
    let store = store_of g.row.M-Question.Denot g.M.Machine.client_id g.M.Machine.outcome in
    let b = c.in-Ok.ensures.begun in
    let none = c.empty-staged.ensures.facts in
    let keeps = c.in-Ok-append_staged.ensures.keeps in
    record {
      looked = b.looked;
      made = b.made;
      more = b.more;
      then' = b.then';
      so = b.so;
      comes = come_kept g.D.Disk.state g.C.Codec.octets g.M.Machine.commands store old
          c.begin.new.self c.append_staged.new.self c.args.plan c.args.reply
          c.empty-staged.result.facts.items c.begin.new.staged.facts.items none c.begin.ensures.kept
          c.begin.ensures.config c.in-Ok.output b keeps.1 keeps.0;
      few = b.few;
      alone = λ only. absurd (true≢false (sym c.requires.own ∙ only));
      moments = moments_kept g.D.Disk.state g.C.Codec.octets g.M.Machine.commands store old
          c.begin.new.self c.append_staged.new.self c.args.plan c.args.reply
          c.empty-staged.result.facts.items c.begin.new.staged.facts.items none c.begin.ensures.kept
          c.begin.ensures.config c.in-Ok.output b c.append_staged.ensures.moments;
      ends = λ fs sent event stand makes. subst
          (λ xs. EndsBehind g.C.Codec.octets store xs (config old) fs sent b.looked b.made
          (turn store (config old) (node_with fs (volatile old)) sent
          (inputs_of (config old).me sent event b.looked b.made))) none
          (b.ends fs sent event stand makes);
    }

pub returns-in-Err-append_staged-clause-come : goal.returns-in-Err-append_staged-clause-come
returns-in-Err-append_staged-clause-come g c =
    let old = c.args.self.now in
    let store = store_of g.row.M-Question.Denot g.M.Machine.client_id g.M.Machine.outcome in
    let b = c.in-Ok.ensures.begun in
    let none = c.empty-staged.ensures.facts in
    record {
      looked = b.looked;
      made = b.made;
      more = b.more;
      then' = b.then';
      so = b.so;
      comes = come_failed g.D.Disk.state g.C.Codec.octets g.M.Machine.commands store old
          c.begin.new.self c.append_staged.new.self c.args.plan c.args.reply
          c.empty-staged.result.facts.items c.begin.new.staged.facts.items none c.begin.ensures.kept
          c.begin.ensures.config (Unit {0}) c.in-Ok.output c.in-Err-append_staged.fault
          (volatile c.begin.new.self) b c.in-Err-append_staged.ensures.keeps;
      few = b.few;
      alone = λ only. absurd (true≢false (sym c.requires.own ∙ only));
      moments = moments_kept g.D.Disk.state g.C.Codec.octets g.M.Machine.commands store old
          c.begin.new.self c.append_staged.new.self c.args.plan c.args.reply
          c.empty-staged.result.facts.items c.begin.new.staged.facts.items none c.begin.ensures.kept
          c.begin.ensures.config c.in-Ok.output b c.append_staged.ensures.moments;
      ends = tt;
    }

pub returns-in-Err-clause-come : goal.returns-in-Err-clause-come
returns-in-Err-clause-come g c =
    let old = c.args.self.now in
    let store = store_of g.row.M-Question.Denot g.M.Machine.client_id g.M.Machine.outcome in
    let b = c.in-Err.ensures.begun in
    let none = c.empty-staged.ensures.facts in
    record {
      looked = b.looked;
      made = b.made;
      more = b.more;
      then' = b.then';
      so = b.so;
      comes = come_refused g.D.Disk.state g.C.Codec.octets g.M.Machine.commands store old
          c.begin.new.self c.begin.new.self c.args.plan c.args.reply
          c.empty-staged.result.facts.items c.begin.new.staged.facts.items none c.begin.ensures.kept
          c.begin.ensures.config c.in-Err.fault b;
      few = b.few;
      alone = λ only. absurd (true≢false (sym c.requires.own ∙ only));
      moments = moments_none g.D.Disk.state g.C.Codec.octets g.M.Machine.commands store old
          c.begin.new.self c.begin.new.self c.args.plan c.args.reply
          c.empty-staged.result.facts.items c.begin.new.staged.facts.items none c.begin.ensures.kept
          c.begin.ensures.config b.more (g.D.Disk.lawful old.kept.a) (g.D.Disk.lawful old.kept.b)
          (c.requires.sound (both_not _ _ c.requires.whole c.requires.still));
      ends = tt;
    }

pub returns-in-Err-clause-sound : goal.returns-in-Err-clause-sound
returns-in-Err-clause-sound g c = λ up.
    let still = second_not _ _ up in
    let store = store_of g.row.M-Question.Denot g.M.Machine.client_id g.M.Machine.outcome in
    let none = none_then g.D.Disk.state g.C.Codec.octets g.M.Machine.commands store c.args.self.now
    c.begin.new.self c.begin.new.self c.args.plan c.args.reply c.empty-staged.result.facts.items
    c.begin.new.staged.facts.items c.empty-staged.ensures.facts c.begin.ensures.kept
    c.begin.ensures.config c.in-Err.fault c.in-Err.ensures.begun still in
    staged_whole g.D.Disk.state g.C.Codec.octets g.M.Machine.commands c.begin.new.self c.begin.new.staged.facts.items none (c.begin.ensures.staged still)
