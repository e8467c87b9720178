use Rattle.ts_serve.proofs.Exchanges.{given, none_given}
use Rattle.ts_serve.proofs.carrying.is_given.Goals as goal

pub returns-in-Some : goal.returns-in-Some
returns-in-Some c = given c.args.frames.now c.in-Some.messages.now c.in-Some.last.now c.are_given.result c.in-Some.ensures.cases.0 c.are_given.ensures

pub returns-in-None : goal.returns-in-None
returns-in-None c = none_given c.args.frames.now c.in-None.ensures.cases
