-- A broken node makes no turn, and a compaction is none.
use Rattle.std.proofs.Common.{◌∙◌, [], true≢false, refl, sym}
use Rattle.ts_node.proofs.Breaks.{both_not, no_event, ok_any, ok_both}
use Rattle.ts_node.proofs.Coming.{compact_given}
use Rattle.ts_node.proofs.node.Node.turn.Goals as goal

pub returns-then-is_broken-clause-turn : goal.returns-then-is_broken-clause-turn
returns-then-is_broken-clause-turn g c =
    let is_so = sym c.is_broken.ensures.broken ∙ c.if-is_broken.true in
    record {
      made = [];
      looked = 0;
      turned = λ whole kept sent event force is. absurd (true≢false (sym is_so ∙ whole));
      given = tt;
      compacts = λ whole is. absurd (true≢false (sym is_so ∙ whole));
      exhausted = λ whole is last. absurd (true≢false (sym is_so ∙ whole));
      same_config = refl;
      same_basis = refl;
      whole = tt;
      failed = λ is. absurd (cc);
      broken = λ broken. (refl, refl);
    }

pub returns-in-Compact-clause-turn : goal.returns-in-Compact-clause-turn
returns-in-Compact-clause-turn g c =
    let whole0 = c.is_broken.ensures.whole c.if-is_broken.false in
    let still = c.is_broken.ensures.still c.if-is_broken.false in
    record {
      made = [];
      looked = 0;
      turned = λ whole kept sent event force is. absurd (no_event sent c.args.input.now event c.in-Compact.is is);
      given = compact_given c.args.self.now c.compact.new.self c.compact.result c.compact.ensures.step;
      compacts = λ whole is. (c.compact.ensures.step, c.compact.ensures.moments);
      exhausted = λ whole is last. c.compact.ensures.exhausted last;
      same_config = c.compact.ensures.config;
      same_basis = c.compact.ensures.basis;
      whole = ok_both c.compact.result _ _ c.compact.ensures.whole (ok_any c.compact.result _ (c.compact.ensures.ahead ∙ still));
      failed = c.compact.ensures.failed;
      broken = λ broken. absurd (true≢false (sym broken ∙ both_not _ _ whole0 still));
    }
