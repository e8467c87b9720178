-- Where there is memory the frame is behind those that are left, else they are left alone.
use Rattle.std.proofs.Common.{◌≡◌, ℕ, Bool, true, subst, sym}
use Rattle.std.specs.Global.{Vec}
use Rattle.std.specs.List.{list_all}
use Rattle.ts_carrier.proofs.Room.{left_pass, put_passes}
use Rattle.ts_peers.specs.Waiting.{all_pass}
use Rattle.ts_peers.proofs.line.Line.put.Goals as goal
use Rattle.ts_peers.proofs.line.Line.put.Goals.{in-Ok, in-Err}

pub returns-clause-passes : goal.returns-clause-passes
returns-clause-passes c = λ test all one.
    let p : Vec ℕ → Bool = λ frame. test c.args.self.now.node frame.items in
    let old = c.args.self.now.mailbox.frames.items in
    subst (λ line. all_pass test line ≡ true) (sym c.count_dropped.ensures) (elim c.match-put.branch [
      | in-Ok w ↦ subst (λ frames. list_all p frames ≡ true) (sym w.in-Ok.ensures.put) (put_passes p c.most-most.result old c.args.frame all one)
      | in-Err w ↦ subst (λ frames. list_all p frames ≡ true) (sym w.in-Err.ensures.lost) (left_pass p _ old all)
    ])
