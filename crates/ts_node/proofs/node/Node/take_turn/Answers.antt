-- A turn of an event.
use Rattle.std.proofs.Common.{◌≡◌, ◌∙◌, [], IfOk, true≢false, ap, refl, sym, subst, arith}
use Rattle.ts_synod.specs.Node.{step}
use Rattle.ts_synod.specs.Laws.{node_with}
use Rattle.ts_record.specs.Kept.{member}
use Rattle.ts_node.specs.Growing.{IsPart}
use Rattle.ts_node.specs.Machine.{store_of}
use Rattle.ts_node.specs.Node.{config, facts, member_as, owner, volatile}
use Rattle.ts_node.specs.Turn.{given_out}
use Rattle.ts_node.proofs.Breaks.{both_not, ok_both}
use Rattle.ts_node.proofs.Coming.{come_turned, failed_of, given_of, refused_call, refused_turn}
use Rattle.ts_node.proofs.Fits.{an_event, no_failure, plan_fits}
use Rattle.ts_node.proofs.Images.{rests, stand_force}
use Rattle.ts_node.proofs.node.Node.take_turn.Goals as goal

pub returns-in-Err-clause-turn : goal.returns-in-Err-clause-turn
returns-in-Err-clause-turn g c =
    let old = c.args.self.now in
    let kept = old.kept in
    let m = g.M.Machine in
    let store = store_of g.row.M-Question.Denot m.client_id m.outcome in
    let up = both_not _ _ c.requires.whole c.requires.still in
    let w = c.requires.sound up in
    let same = c.plan_input.ensures.same in
    let e = an_event c.args.input.now c.requires.event in
    record {
      made = [];
      looked = 0;
      turned = λ whole fs sent event force is. record {
        handles = refused_turn g.D.Disk.state g.C.Codec.octets store m.basis m.is_answer old fs sent event c.in-Err.fault c.plan_input.new.self _
            (c.in-Err.ensures.step fs sent event (stand_force old.roles (facts old) fs force w.stand) is)
            (record { kept = refl; volatile = same.volatile; ahead = refl });
        moments = rests g.C.Codec.octets (member kept) (owner old) kept.swapped kept.facts _
            (g.D.Disk.state kept.a) (g.D.Disk.state kept.b) w.whose (g.D.Disk.lawful kept.a)
            (g.D.Disk.lawful kept.b) w.opens;
        ends = tt;
        few = omega arith;
        alone = λ none. refused_call g.D.Disk.state g.C.Codec.octets store m.basis m.is_answer old fs sent event c.in-Err.fault c.plan_input.new.self _
            (c.in-Err.ensures.step fs sent event (stand_force old.roles (facts old) fs force w.stand) is)
            (record { kept = refl; volatile = same.volatile; ahead = refl });
      };
      given = tt;
      compacts = λ whole is. absurd (c.requires.event is);
      exhausted = λ whole is. absurd (c.requires.event is);
      same_config = same.config;
      same_basis = c.plan_input.ensures.basis;
      whole = tt;
      failed = λ is. absurd
          (no_failure (m.is_answer (m.basis old.machine)) c.plan_input.new.self c.in-Err.fault
          (step store (config old) (node_with (facts old) (volatile old)) e.0 e.1) is
          (c.in-Err.ensures.step (facts old) e.0 e.1 w.stand e.2));
      broken = λ broken. absurd (true≢false (sym broken ∙ up));
    }

pub go_on-requires-clause-sound : goal.go_on-requires-clause-sound
go_on-requires-clause-sound g c = λ whole.
    let w = c.requires.sound (both_not _ _ c.requires.whole c.requires.still) in
    let stand = c.plan_input.ensures.same.stand c.args.self.now.kept.facts w.stand in
    record {
      opens = w.opens;
      whose = w.whose
          ∙ ap member_as (sym c.plan_input.ensures.same.config);
      stand = stand;
      part =
          subst (IsPart (g.M.Machine.commands c.plan_input.new.machine)) stand.log
          c.plan_input.ensures.part;
    }

pub go_on-requires-clause-fit : goal.go_on-requires-clause-fit
go_on-requires-clause-fit g c =
    let old = c.args.self.now in
    let m = g.M.Machine in
    let w = c.requires.sound (both_not _ _ c.requires.whole c.requires.still) in
    (plan_fits g.C.Codec.octets (store_of g.row.M-Question.Denot m.client_id m.outcome) (config old)
    (node_with (facts old) (volatile old)) (m.is_answer (m.basis old.machine)) c.plan_input.new.self
    (c.in-Ok.plan, c.in-Ok.reply) c.args.input.now c.requires.fits c.requires.event
    (λ sent event is. c.in-Ok.ensures.step (facts old) sent event w.stand is)).fit

pub go_on-requires-clause-short : goal.go_on-requires-clause-short
go_on-requires-clause-short g c =
    let old = c.args.self.now in
    let m = g.M.Machine in
    let w = c.requires.sound (both_not _ _ c.requires.whole c.requires.still) in
    (plan_fits g.C.Codec.octets (store_of g.row.M-Question.Denot m.client_id m.outcome) (config old)
    (node_with (facts old) (volatile old)) (m.is_answer (m.basis old.machine)) c.plan_input.new.self
    (c.in-Ok.plan, c.in-Ok.reply) c.args.input.now c.requires.fits c.requires.event
    (λ sent event is. c.in-Ok.ensures.step (facts old) sent event w.stand is)).short

pub returns-in-Ok-clause-turn : goal.returns-in-Ok-clause-turn
returns-in-Ok-clause-turn g c =
    let old = c.args.self.now in
    let m = g.M.Machine in
    let store = store_of g.row.M-Question.Denot m.client_id m.outcome in
    let up = both_not _ _ c.requires.whole c.requires.still in
    let w = c.requires.sound up in
    let same = c.plan_input.ensures.same in
    let come = c.go_on.ensures.come in
    let roles = c.plan_input.new.self in
    let mid = record old { roles = roles; machine = c.plan_input.new.machine } in
    record {
      made = come.made;
      looked = come.looked;
      turned = λ whole fs sent event force is.
          let stand = stand_force old.roles (facts old) fs force w.stand in
          let made = c.in-Ok.ensures.step fs sent event stand is in
          come_turned g.D.Disk.state g.C.Codec.octets store m.basis m.is_answer old fs sent event
          roles c.plan_input.new.machine same.config same.volatile c.in-Ok.plan c.in-Ok.reply
          c.go_on.result c.go_on.new.self come (same.stand fs stand) made.0 made.1;
      given = subst (λ k. IfOk c.go_on.result
          (λ output. output.messages.items ≡ given_out k.me come.looked come.made)) same.config
          (given_of g.D.Disk.state c.in-Ok.reply come.looked come.made come.more come.then' mid
          c.go_on.new.self c.go_on.result come.comes);
      compacts = λ whole is. absurd (c.requires.event is);
      exhausted = λ whole is. absurd (c.requires.event is);
      same_config = c.go_on.ensures.config ∙ same.config;
      same_basis = c.go_on.ensures.basis ∙ c.plan_input.ensures.basis;
      whole = ok_both c.go_on.result _ _ c.go_on.ensures.whole c.go_on.ensures.still;
      failed = λ is. failed_of g.D.Disk.state c.in-Ok.reply come.looked come.made come.more come.then' mid c.go_on.new.self c.go_on.result is come.comes;
      broken = λ broken. absurd (true≢false (sym broken ∙ up));
    }
