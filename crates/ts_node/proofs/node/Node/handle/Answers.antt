use Rattle.std.proofs.Common.{◌∙◌, List, true≢false, refl, sym, subst}
use Rattle.ts_synod.specs.Node.{Step}
use Rattle.ts_synod.proofs.Same.{same_step}
use Rattle.ts_node.specs.Machine.{store_of}
use Rattle.ts_node.specs.Node.{Handles, Moments, config, facts, volatile}
use Rattle.ts_node.proofs.Breaks.{both_not, no_event, ok_any, ok_both}
use Rattle.ts_node.proofs.node.Node.handle.Goals as goal

pub returns-in_default-clause-call : goal.returns-in_default-clause-call
returns-in_default-clause-call g c =
    let old = c.args.self.now in
    let m = g.M.Machine in
    let store = store_of g.row.M-Question.Denot m.client_id m.outcome in
    let whole0 = c.is_broken.ensures.whole c.if-is_broken.false in
    let still = c.is_broken.ensures.still c.if-is_broken.false in
    record {
      step = λ whole kept sent event force is. subst
          (λ (s : Step g.row.C.Denot g.row.M-Outcome.Denot g.row.M-Question.Denot
          (List g.row.C.Denot)). Handles (m.is_answer (m.basis old.machine)) old c.take.result
          c.take.new.self s) (sym
          (same_step store (config old) kept (facts old) force (volatile old) sent event))
          (c.take.ensures.step sent event is);
      moments = λ whole kept sent event force is. subst
          (λ (s : Step g.row.C.Denot g.row.M-Outcome.Denot g.row.M-Question.Denot
          (List g.row.C.Denot)). Moments g.D.Disk.state g.C.Codec.octets old s.effect.facts
          c.take.new.self) (sym
          (same_step store (config old) kept (facts old) force (volatile old) sent event))
          (c.take.ensures.moments sent event is);
      compacts = λ whole is. absurd (c.in_default.not-Compact is);
      exhausted = λ whole is. absurd (c.in_default.not-Compact is);
      same_config = c.take.ensures.config;
      same_basis = c.take.ensures.basis;
      whole = ok_both c.take.result _ _ c.take.ensures.whole (ok_any c.take.result _ (c.take.ensures.ahead ∙ still));
      failed = c.take.ensures.failed;
      broken = λ broken. absurd (true≢false (sym broken ∙ both_not _ _ whole0 still));
    }

pub returns-in-Compact-clause-call : goal.returns-in-Compact-clause-call
returns-in-Compact-clause-call g c =
    let whole0 = c.is_broken.ensures.whole c.if-is_broken.false in
    let still = c.is_broken.ensures.still c.if-is_broken.false in
    record {
      step = λ whole kept sent event force is. absurd (no_event sent c.args.input.now event c.in-Compact.is is);
      moments = λ whole kept sent event force is. absurd (no_event sent c.args.input.now event c.in-Compact.is is);
      compacts = λ whole is. (c.compact.ensures.step, c.compact.ensures.moments);
      exhausted = λ whole is last. c.compact.ensures.exhausted last;
      same_config = c.compact.ensures.config;
      same_basis = c.compact.ensures.basis;
      whole = ok_both c.compact.result _ _ c.compact.ensures.whole (ok_any c.compact.result _ (c.compact.ensures.ahead ∙ still));
      failed = c.compact.ensures.failed;
      broken = λ broken. absurd (true≢false (sym broken ∙ both_not _ _ whole0 still));
    }

pub returns-then-is_broken-clause-call : goal.returns-then-is_broken-clause-call
returns-then-is_broken-clause-call g c =
    let is_so = sym c.is_broken.ensures.broken ∙ c.if-is_broken.true in
    record {
      step = λ whole kept sent event force is. absurd (true≢false (sym is_so ∙ whole));
      moments = λ whole kept sent event force is. absurd (true≢false (sym is_so ∙ whole));
      compacts = λ whole is. absurd (true≢false (sym is_so ∙ whole));
      exhausted = λ whole is last. absurd (true≢false (sym is_so ∙ whole));
      same_config = refl;
      same_basis = refl;
      whole = tt;
      failed = λ is. absurd (cc);
      broken = λ broken. (refl, refl);
    }
