use Rattle.ts_access.proofs.Written.{names_it}
use Rattle.ts_access.proofs.laws.reads_what_it_writes.Goals as goal

pub returns : goal.returns
returns c key small role long bytes = names_it key small role long bytes
