use Rattle.ts_command.proofs.Encoded.{fits_test, test_fits}
use Rattle.ts_command.proofs.laws.which_fit.Goals as goal

pub returns : goal.returns
returns c = λ command. (test_fits command, fits_test command)
