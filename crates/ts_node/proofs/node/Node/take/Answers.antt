use Rattle.std.proofs.Common.{◌∙◌, ◌++◌, List, ap, subst, sym}
use Rattle.ts_journal.specs.Images.{EveryPair, Member}
use Rattle.ts_synod.specs.declared.message.Fact.{Fact}
use Rattle.ts_synod.specs.Laws.{node_with}
use Rattle.ts_synod.specs.Node.{step}
use Rattle.ts_node.specs.Growing.{IsPart}
use Rattle.ts_node.specs.Machine.{store_of}
use Rattle.ts_record.specs.Kept.{member}
use Rattle.ts_node.specs.Node.{ToEither, config, facts, member_as, owner, volatile}
use Rattle.ts_node.specs.Roles.{config_of}
use Rattle.ts_node.proofs.Breaks.{both_not}
use Rattle.ts_node.proofs.Fits.{an_event, no_failure, plan_fits}
use Rattle.ts_node.proofs.Images.{rests}
use Rattle.ts_node.proofs.node.Node.take.Goals as goal

pub returns-in-Err-clause-moments : goal.returns-in-Err-clause-moments
returns-in-Err-clause-moments g c = λ sent event is.
    let kept = c.args.self.now.kept in
    let w = c.requires.sound (both_not _ _ c.requires.whole c.requires.still) in
    rests g.C.Codec.octets (member kept) (owner c.args.self.now) kept.swapped kept.facts _
    (g.D.Disk.state kept.a) (g.D.Disk.state kept.b) w.whose (g.D.Disk.lawful kept.a)
    (g.D.Disk.lawful kept.b) w.opens

pub returns-in-Err-clause-failed : goal.returns-in-Err-clause-failed
returns-in-Err-clause-failed g c = λ is.
    let old = c.args.self.now in
    let m = g.M.Machine in
    let store = store_of g.row.M-Question.Denot m.client_id m.outcome in
    let w = c.requires.sound (both_not _ _ c.requires.whole c.requires.still) in
    let e = an_event c.args.input.now c.requires.event in
    absurd (no_failure (m.is_answer (m.basis old.machine)) c.plan_input.new.self c.in-Err.fault
    (step store (config old) (node_with (facts old) (volatile old)) e.0 e.1) is
    (c.in-Err.ensures.step (facts old) e.0 e.1 w.stand e.2))

pub commit-requires-clause-sound : goal.commit-requires-clause-sound
commit-requires-clause-sound g c = λ whole.
    let w = c.requires.sound (both_not _ _ c.requires.whole c.requires.still) in
    let stand = c.plan_input.ensures.same.stand c.args.self.now.kept.facts w.stand in
    record {
      opens = w.opens;
      whose = w.whose
          ∙ ap member_as (sym c.plan_input.ensures.same.config);
      stand = stand;
      part =
          subst (IsPart (g.M.Machine.commands c.plan_input.new.machine)) stand.log
          c.plan_input.ensures.part;
    }

pub commit-requires-clause-fit : goal.commit-requires-clause-fit
commit-requires-clause-fit g c =
    let old = c.args.self.now in
    let m = g.M.Machine in
    let w = c.requires.sound (both_not _ _ c.requires.whole c.requires.still) in
    (plan_fits g.C.Codec.octets (store_of g.row.M-Question.Denot m.client_id m.outcome) (config old)
    (node_with (facts old) (volatile old)) (m.is_answer (m.basis old.machine)) c.plan_input.new.self
    (c.in-Ok.plan, c.in-Ok.reply) c.args.input.now c.requires.fits c.requires.event
    (λ sent event is. c.in-Ok.ensures.step (facts old) sent event w.stand is)).fit

pub commit-requires-clause-short : goal.commit-requires-clause-short
commit-requires-clause-short g c =
    let old = c.args.self.now in
    let m = g.M.Machine in
    let w = c.requires.sound (both_not _ _ c.requires.whole c.requires.still) in
    (plan_fits g.C.Codec.octets (store_of g.row.M-Question.Denot m.client_id m.outcome) (config old)
    (node_with (facts old) (volatile old)) (m.is_answer (m.basis old.machine)) c.plan_input.new.self
    (c.in-Ok.plan, c.in-Ok.reply) c.args.input.now c.requires.fits c.requires.event
    (λ sent event is. c.in-Ok.ensures.step (facts old) sent event w.stand is)).short

pub returns-in-Err-commit-clause-moments : goal.returns-in-Err-commit-clause-moments
returns-in-Err-commit-clause-moments g c = λ sent event is.
    let old = c.args.self.now in
    let w = c.requires.sound (both_not _ _ c.requires.whole c.requires.still) in
    let made = c.in-Ok.ensures.step (facts old) sent event w.stand is in
    let state = g.D.Disk.state in
    let new = c.commit.new.self in
    let pairs = λ (m : Member) (more : List (Fact g.row.C.Denot)). EveryPair
    (ToEither g.C.Codec.octets m old.kept.facts more) (state old.kept.a) (state old.kept.b)
    (state new.kept.a) (state new.kept.b) in
    subst (λ m. pairs m (step
    (store_of g.row.M-Question.Denot g.M.Machine.client_id g.M.Machine.outcome) (config old)
    (node_with (facts old) (volatile old)) sent event).effect.facts)
    (ap member_as c.plan_input.ensures.same.config)
    (subst (pairs (member_as (config_of c.plan_input.new.self))) made.0.facts c.commit.ensures.moments)

pub returns-in-Ok-commit-clause-moments : goal.returns-in-Ok-commit-clause-moments
returns-in-Ok-commit-clause-moments g c = λ sent event is.
    let old = c.args.self.now in
    let w = c.requires.sound (both_not _ _ c.requires.whole c.requires.still) in
    let made = c.in-Ok.ensures.step (facts old) sent event w.stand is in
    let state = g.D.Disk.state in
    let new = c.commit.new.self in
    let pairs = λ (m : Member) (more : List (Fact g.row.C.Denot)). EveryPair
    (ToEither g.C.Codec.octets m old.kept.facts more) (state old.kept.a) (state old.kept.b)
    (state new.kept.a) (state new.kept.b) in
    subst (λ m. pairs m (step
    (store_of g.row.M-Question.Denot g.M.Machine.client_id g.M.Machine.outcome) (config old)
    (node_with (facts old) (volatile old)) sent event).effect.facts)
    (ap member_as c.plan_input.ensures.same.config)
    (subst (pairs (member_as (config_of c.plan_input.new.self))) made.0.facts c.commit.ensures.moments)

pub returns-in-Ok-commit-clause-step : goal.returns-in-Ok-commit-clause-step
returns-in-Ok-commit-clause-step g c = λ sent event is.
    let old = c.args.self.now in
    let w = c.requires.sound (both_not _ _ c.requires.whole c.requires.still) in
    let made = c.in-Ok.ensures.step (facts old) sent event w.stand is in
    record {
      facts = c.in-Ok-commit.ensures.facts ∙ ap (λ more. facts old ++ more) made.0.facts;
      volatile = c.in-Ok-commit.ensures.volatile ∙ made.0.volatile;
      messages = c.in-Ok-commit.ensures.messages ∙ made.0.messages;
      reply = made.1;
    }
