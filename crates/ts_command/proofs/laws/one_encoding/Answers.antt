use Rattle.ts_command.proofs.OneEncoding.{one_command}
use Rattle.ts_command.proofs.laws.one_encoding.Goals as goal

pub returns-clause-command : goal.returns-clause-command
returns-clause-command c = one_command
