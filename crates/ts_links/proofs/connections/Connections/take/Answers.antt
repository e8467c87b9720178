-- A slot's turn is that of its connection.
use Rattle.std.proofs.Common.{◌≡◌, Some, slice_get, arith}
use Rattle.std.proofs.lemmas.Grind.{common_steps}
use Rattle.std.proofs.lemmas.Option.{slice_get_read}
use Rattle.ts_links.proofs.Reached.{gives_of}
use Rattle.ts_links.proofs.connections.Connections.take.Goals as goal

pub returns-clause-gives : goal.returns-clause-gives
returns-clause-gives g c =
    let was : slice_get c.args.self.now.links.items c.args.slot ≡ Some c.index_mut-link.result.now = grind (arith, common_steps, slice_get_read) in
    gives_of g.S.Service.turn c.args.self.now.links.items c.args.slot c.args.now
    c.index_mut-link.result.now c.take.new.self c.args.service.now c.take.new.service c.take.result
    was c.take.ensures.gives
