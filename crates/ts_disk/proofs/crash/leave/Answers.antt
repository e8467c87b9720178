use Rattle.std.proofs.Common.{◌∙◌}
use Rattle.ts_disk.proofs.Crashes.{next_left}
use Rattle.ts_disk.proofs.crash.leave.Goals as goal

pub loop-call-preserved : goal.loop-call-preserved
loop-call-preserved c =
    next_left c.args.torn c.loop-call.read.items c.loop-call.left.items c.step.new.read.items c.step.new.left.items c.args.calls.now c.loop-call.call-index c.call-item.result
    c.loop-call-test.true c.call-item.is c.in_ok-step.ensures.read c.in_ok-step.ensures.left
    ∙ c.loop-call.invariant
