use Rattle.ts_exchange.proofs.Walks.{all_of}
use Rattle.ts_exchange.proofs.laws.walks_get_all.Goals as goal

pub returns : goal.returns
returns c = all_of
