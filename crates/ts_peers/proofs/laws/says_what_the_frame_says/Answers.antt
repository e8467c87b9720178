use Rattle.ts_peers.proofs.Octets.{frame_says}
use Rattle.ts_peers.proofs.laws.says_what_the_frame_says.Goals as goal

pub returns : goal.returns
returns c = frame_says
