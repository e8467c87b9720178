use Rattle.std.proofs.Common.{◌<◌, ◌≤◌, length, arith}
use Rattle.ts_serve.proofs.Outboxes.{holds_more, no_room, room}
use Rattle.ts_serve.proofs.outbox.put_one.Goals as goal

pub returns-then-len-lt-MAX_WAITING-clause-put : goal.returns-then-len-lt-MAX_WAITING-clause-put
returns-then-len-lt-MAX_WAITING-clause-put c =
    let some : length c.args.frames.now.items < 256 = omega arith in
    room c.args.frames.now c.push_reserved.new.self c.args.message c.requires some c.push_reserved.ensures.items

pub returns-then-len-lt-MAX_WAITING-clause-outbox : goal.returns-then-len-lt-MAX_WAITING-clause-outbox
returns-then-len-lt-MAX_WAITING-clause-outbox c =
    let some : length c.args.frames.now.items < 256 = omega arith in
    holds_more c.args.frames.now c.push_reserved.new.self c.args.message c.requires some c.push_reserved.ensures.items c.push_reserved.ensures.capacity

pub returns-else-len-lt-MAX_WAITING-clause-put : goal.returns-else-len-lt-MAX_WAITING-clause-put
returns-else-len-lt-MAX_WAITING-clause-put c =
    let full : 256 ≤ length c.args.frames.now.items = omega arith in
    no_room c.args.frames.now c.args.message c.requires full
