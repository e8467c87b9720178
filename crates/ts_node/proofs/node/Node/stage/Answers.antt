-- An input is taken in memory; or what waits is kept first, and it is a turn by itself.
use Rattle.std.proofs.Common.{◌≡◌, ◌∙◌, Ok, Err, true≢false, inl, inr, ap, refl, sym, subst}
use Rattle.ts_node.specs.Ahead.{IsKept}
use Rattle.ts_node.specs.Machine.{store_of}
use Rattle.ts_node.specs.Node.{config}
use Rattle.ts_node.proofs.Breaks.{second_not}
use Rattle.ts_node.proofs.node.Node.stage.Goals as goal

pub returns-in-Ok-Some-clause-stage : goal.returns-in-Ok-Some-clause-stage
returns-in-Ok-Some-clause-stage g c =
    let up = sym c.is_broken.ensures.broken ∙ c.if-is_broken.false in
    let next = rw c.in-Ok-Some.field-0-is at c.in-Ok-Some.ensures.next in
    record {
      comes = λ whole. inl (record { taken = next.1; kept = c.stage_input.ensures.kept; still = next.0 });
      broken = λ down. absurd (true≢false (sym down ∙ up));
      same_config = c.stage_input.ensures.config;
      same_basis = c.stage_input.ensures.basis;
    }

pub returns-in-Ok-Some-clause-ahead : goal.returns-in-Ok-Some-clause-ahead
returns-in-Ok-Some-clause-ahead g c = λ up.
    let still = second_not c.stage_input.new.self.kept.broken c.stage_input.new.self.ahead up in
    (c.stage_input.ensures.staged still, c.stage_input.ensures.ready still)

pub returns-in-Ok-clause-stage : goal.returns-in-Ok-clause-stage
returns-in-Ok-clause-stage g c =
    let m = g.M.Machine in
    let old = c.args.self.now in
    let first = c.stage_input.new.self in
    let mid = c.keep_staged.new.self in
    let up = sym c.is_broken.ensures.broken ∙ c.if-is_broken.false in
    let next = rw c.in-Ok-None.field-0-is at c.in-Ok-None.ensures.next in
    let kept = c.in-Ok.ensures.kept in
    record {
      comes = λ whole. inr (inl (record {
        first = first;
        mid = mid;
        stop = next.3;
        unmoved = record { kept = c.stage_input.ensures.kept; volatile = next.2; ahead = next.0 ∙ sym (second_not old.kept.broken old.ahead up) };
        keeps = subst (λ fs. IsKept g.D.Disk.state g.C.Codec.octets first fs (Ok tt) c.keep_staged.new.staged.facts.items mid) next.1 kept;
        turned = c.turn.ensures.turn;
      }));
      broken = λ down. absurd (true≢false (sym down ∙ up));
      same_config = c.turn.ensures.turn.same_config ∙ (ap (λ n. config n) kept.same ∙ c.stage_input.ensures.config);
      same_basis = c.turn.ensures.turn.same_basis ∙ (ap (λ n. m.basis n.machine) kept.same ∙ c.stage_input.ensures.basis);
    }

pub returns-in-Err-keep_staged-clause-stage : goal.returns-in-Err-keep_staged-clause-stage
returns-in-Err-keep_staged-clause-stage g c =
    let m = g.M.Machine in
    let old = c.args.self.now in
    let first = c.stage_input.new.self in
    let up = sym c.is_broken.ensures.broken ∙ c.if-is_broken.false in
    let next = rw c.in-Ok-None.field-0-is at c.in-Ok-None.ensures.next in
    let kept = c.in-Err-keep_staged.ensures.kept in
    record {
      comes = λ whole. inr (inr (inl (record {
        first = first;
        fault = c.in-Err-keep_staged.fault;
        stop = next.3;
        unmoved = record { kept = c.stage_input.ensures.kept; volatile = next.2; ahead = next.0 ∙ sym (second_not old.kept.broken old.ahead up) };
        keeps = subst (λ fs. IsKept g.D.Disk.state g.C.Codec.octets first fs (Err c.in-Err-keep_staged.fault) c.keep_staged.new.staged.facts.items c.keep_staged.new.self) next.1 kept;
        is = refl;
      })));
      broken = λ down. absurd (true≢false (sym down ∙ up));
      same_config = ap (λ n. config n) kept.same ∙ c.stage_input.ensures.config;
      same_basis = ap (λ n. m.basis n.machine) kept.same ∙ c.stage_input.ensures.basis;
    }
