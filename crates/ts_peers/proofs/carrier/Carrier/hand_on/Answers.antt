-- The line of the node has the frame too, and the others are as they were.
use Rattle.std.proofs.Common.{◌≡◌, ◌∙◌, true, ap, subst, sym}
use Rattle.ts_peers.proofs.Placing.{one_passes, set_passes}
use Rattle.ts_peers.specs.Waiting.{all_pass}
use Rattle.ts_peers.proofs.carrier.Carrier.hand_on.Goals as goal

pub returns-in-Some-clause-lines : goal.returns-in-Some-clause-lines
returns-in-Some-clause-lines c = λ test all one.
    let lines = c.args.self.now.lines.items in
    let line = c.index_mut.result.now in
    let passes = subst (λ line. all_pass test line ≡ true) (sym c.index_mut.ensures.value) (one_passes (all_pass test) lines c.in-Some.place line all c.in-Some.ensures.0) in
    let node = ap (λ line. line.node) c.index_mut.ensures.value ∙ c.in-Some.ensures.1 line in
    set_passes (all_pass test) lines c.in-Some.place c.put.new.self all
    (c.put.ensures.passes test passes (subst (λ node. test node c.args.frame.items ≡ true) (sym node) one))
