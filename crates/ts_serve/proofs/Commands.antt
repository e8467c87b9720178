-- A command that has an encoding fits a record.
use Rattle.ts_command.specs.Commands.{CommandFits}
use Rattle.ts_command.specs.Octets.{octets_of}
use Rattle.ts_command.specs.declared.command.Command.{Command}
use Rattle.ts_command.proofs.Encoded.{at_least, at_most}
use Rattle.ts_node.specs.Inputs.{IsShort}

pub command_short : (c : Command) → CommandFits c → IsShort (octets_of c)
command_short c fit = record { some = at_least c fit; short = at_most c fit }
