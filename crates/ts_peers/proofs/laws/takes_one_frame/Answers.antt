use Rattle.ts_peers.proofs.Octets.{one_frame}
use Rattle.ts_peers.proofs.laws.takes_one_frame.Goals as goal

pub returns : goal.returns
returns c = one_frame
