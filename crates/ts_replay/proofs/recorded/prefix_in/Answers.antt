use Rattle.std.proofs.Common.{◌≡◌, ◌∙◌, ◌++◌, ◌∷◌, [], ap, arith}
use Rattle.ts_log.specs.Log.{learned_of}
use Rattle.ts_replay.proofs.Prefixes.{goes_on, no_gap}
use Rattle.ts_replay.proofs.recorded.prefix_in.Goals as goal

pub returns-in-None : goal.returns-in-None
returns-in-None c =
    absurd (no_gap (learned_of c.in_ok-log.log) c.loop-known.known (omega (arith, c.prefix-known-end.ensures, c.loop-known-test.true)) c.in-None.ensures)

pub loop-known-preserved : goal.loop-known-preserved
loop-known-preserved c =
    let added : c.push.new.self.items ≡ c.loop-known.commands.items ++ c.in-Some.command.now ∷ [] =
    c.in_ok-push-in-Some.ensures.items ∙ ap (λ d. c.loop-known.commands.items ++ d ∷ []) c.in_ok-try_copy-in-Some.ensures in
    goes_on (learned_of c.in_ok-log.log) c.loop-known.known c.in-Some.command.now c.loop-known.commands.items c.push.new.self.items
    (omega (arith, c.prefix-known-end.ensures, c.loop-known-test.true)) c.in-Some.ensures c.loop-known.invariant added
