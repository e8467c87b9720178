use Rattle.ts_command.proofs.Encoded.{at_least, at_most}
use Rattle.ts_answer.proofs.deliverable.is_short.Goals as goal

pub returns : goal.returns
returns c = record { some = at_least c.args.command.now c.has_encoding.ensures; short = at_most c.args.command.now c.has_encoding.ensures }
