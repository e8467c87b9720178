use Rattle.ts_node.proofs.Simulation.{promised}
use Rattle.ts_node.proofs.laws.headline.Goals as goal

pub returns : goal.returns
returns g c = λ basis n start run most begins allowed.
    let m = g.M.Machine in
    promised g.C.Codec.octets m.client_id m.outcome (m.is_answer basis) n start run most begins allowed
