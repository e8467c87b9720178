use Rattle.ts_node.specs.Machine.{store_of}
use Rattle.ts_node.proofs.Allowing.{all_calls_are}
use Rattle.ts_node.proofs.laws.calls_are_allowed.Goals as goal

pub returns : goal.returns
returns g c = λ basis n.
    let m = g.M.Machine in
    all_calls_are g.D.Disk.state g.C.Codec.octets (store_of g.row.M-Question.Denot m.client_id m.outcome) m.commands m.basis m.is_answer n basis
