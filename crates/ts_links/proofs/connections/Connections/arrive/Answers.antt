-- Octets came on a slot, or it takes none.
use Rattle.std.proofs.Common.{◌≡◌, Some, slice_get, arith, refl}
use Rattle.std.proofs.lemmas.Grind.{common_steps}
use Rattle.std.proofs.lemmas.Option.{slice_get_read}
use Rattle.ts_links.proofs.Slots.{is_full, not_open}
use Rattle.ts_links.proofs.connections.Connections.arrive.Goals as goal

pub returns-then-not-is_open : goal.returns-then-not-is_open
returns-then-not-is_open c =
    let was : slice_get c.args.self.now.links.items c.args.slot ≡ Some c.index_mut-link.result.now = grind (arith, common_steps, slice_get_read) in
    not_open c.args.self.now.links.items c.args.slot c.index_mut-link.result.now was (c.is_open.ensures.other c.if-not-is_open.true)

pub returns-then-not-has_room : goal.returns-then-not-has_room
returns-then-not-has_room c =
    let was : slice_get c.args.self.now.links.items c.args.slot ≡ Some c.index_mut-link.result.now = grind (arith, common_steps, slice_get_read) in
    is_full c.args.self.now.links.items c.args.slot c.index_mut-link.result.now was (c.is_open.ensures.open c.if-not-is_open.false) (c.has_room.ensures.full c.if-not-has_room.true)

pub returns-in-Ok : goal.returns-in-Ok
returns-in-Ok c =
    let was : slice_get c.args.self.now.links.items c.args.slot ≡ Some c.index_mut-link.result.now = grind (arith, common_steps, slice_get_read) in
    record { before = c.index_mut-link.result.now; after = c.arrive.new.self; was = was; is = refl; makes = c.in-Ok.ensures.came }
