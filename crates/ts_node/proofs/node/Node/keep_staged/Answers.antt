-- What waits is kept, and nothing waits then.
use Rattle.std.proofs.Common.{◌≡◌, ◌∙◌, [], true≢false, ap, sym, subst}
use Rattle.std.specs.Prelude.{OnOk}
use Rattle.ts_node.specs.Node.{Moments, volatile}
use Rattle.ts_node.specs.Staged.{Keeps}
use Rattle.ts_node.proofs.Breaks.{ok_any, ok_both}
use Rattle.ts_node.proofs.Stages.{ready_none, whole_staged}
use Rattle.ts_node.proofs.node.Node.keep_staged.Goals as goal

pub returns-clause-kept : goal.returns-clause-kept
returns-clause-kept g c =
    let old = c.args.self.now in
    let new = c.append_staged.new.self in
    let state = g.D.Disk.state in
    let up = sym c.is_broken.ensures.broken ∙ c.if-is_broken.false in
    let all = ap (λ staged. staged.facts.items) c.replace-waiting.ensures.value in
    record {
      keeps = λ whole. subst (λ fs. Keeps state old fs (volatile old) c.append_staged.result new) all c.append_staged.ensures.keeps;
      moments = λ whole. subst (λ fs. Moments state g.C.Codec.octets old fs new) all c.append_staged.ensures.moments;
      left = ok_any c.append_staged.result _ (ap (λ staged. staged.facts.items) c.replace-waiting.ensures.after ∙ c.empty.ensures.facts);
      none = subst (λ fs. OnOk c.append_staged.result (fs ≡ [] → new.kept ≡ old.kept)) all c.append_staged.ensures.none;
      same = c.append_staged.ensures.same;
      whole = ok_both c.append_staged.result _ _ c.append_staged.ensures.whole c.append_staged.ensures.still;
      broken = λ down. absurd (true≢false (sym down ∙ up));
    }

pub returns-clause-ahead : goal.returns-clause-ahead
returns-clause-ahead g c = λ up.
    let left = c.replace-waiting.new.dest in
    let none = ap (λ staged. staged.facts.items) c.replace-waiting.ensures.after ∙ c.empty.ensures.facts in (
      whole_staged g.D.Disk.state g.C.Codec.octets g.M.Machine.commands c.append_staged.new.self left.facts.items none (c.append_staged.ensures.sound up),
      ready_none g.C.Codec.octets left none (ap (λ staged. staged.size) c.replace-waiting.ensures.after ∙ c.empty.ensures.size),
    )
