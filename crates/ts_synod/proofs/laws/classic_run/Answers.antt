use Rattle.std.proofs.Common.{refl}
use Rattle.ts_synod.specs.Log.{prefix}
use Rattle.ts_synod.proofs.laws.classic_run.Goals as goal

pub returns : goal.returns
unfolding prefix
returns c = record { rounds = refl; chosen_once = refl; messages = refl; node_1 = refl; node_2 = refl; node_3 = refl }
