use Rattle.std.proofs.Common.{arith, ◌∙◌}
use Rattle.std.proofs.lemmas.Result.{IfOk-weaker}
use Rattle.ts_codec.proofs.Laws.{found, only}
use Rattle.ts_command.proofs.OneEncoding.{command_part}
use Rattle.ts_command.proofs.command.Command.read.Goals as goal

pub returns-clause-found : goal.returns-clause-found
returns-clause-found c = IfOk-weaker c.read_command.result _ _ (λ read is. found command_part c.args.octets.now (λ i. omega (arith, c.type_inv.octets i)) read is) c.read_command.ensures

pub returns-clause-only : goal.returns-clause-only
returns-clause-only c = λ command fits is. IfOk-weaker c.read_command.result _ _ (λ read e. e ∙ only command_part c.args.octets.now command fits is) c.read_command.ensures
