use Rattle.std.proofs.Common.{sym, arith, ◌+◌}
use Rattle.std.proofs.lemmas.List.{take_all}
use Rattle.ts_sent.proofs.asking.up_to.Goals as goal

pub returns-else-place-sent : goal.returns-else-place-sent
returns-else-place-sent c = sym (take_all (c.args.place + 1) c.args.sent.now (omega (arith, c.if-place-sent.false)))
