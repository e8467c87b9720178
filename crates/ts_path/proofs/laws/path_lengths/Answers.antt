-- The condition at one certificate, and along the chain.
use Rattle.ts_path.proofs.PathLengths.{goes_on, self_issued_goes_on, holds_everywhere}
use Rattle.ts_path.proofs.laws.path_lengths.Goals as goal

pub returns-clause-chain : goal.returns-clause-chain
returns-clause-chain c = holds_everywhere

pub returns-clause-certificate : goal.returns-clause-certificate
returns-clause-certificate c = goes_on

pub returns-clause-self_issued : goal.returns-clause-self_issued
returns-clause-self_issued c = self_issued_goes_on
