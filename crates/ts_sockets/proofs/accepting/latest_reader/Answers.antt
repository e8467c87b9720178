-- One slot more, and all of them.
use Rattle.std.proofs.Common.{Some, None, map, subst, ◌+◌, sym}
use Rattle.ts_sockets.specs.Rooms.{reader_at}
use Rattle.ts_sockets.proofs.Finding.{Later, IsFound, all_found, moment_at, moments_within, none_found, one_later, passed_over}
use Rattle.ts_sockets.proofs.accepting.latest_reader.Goals as goal
use Rattle.ts_sockets.proofs.accepting.latest_reader.Goals.{in-Some, in_default}

pub loop-slot-preserved : goal.loop-slot-preserved
loop-slot-preserved c =
    let moments = map reader_at c.args.doors.now in
    let slot = c.loop-slot.slot in
    let found = c.loop-slot.found in
    let place = c.index-doors-slot.result in
    elim c.match-reader_since.branch [
      | in-Some w ↦
          let has = moment_at reader_at c.args.doors.now slot place (Some w.in-Some.since) c.loop-slot-test.true c.index-doors-slot.is w.in-Some.ensures in
          subst (IsFound Later moments (slot + 1)) (sym w.found-is)
          (one_later moments slot w.in-Some.since found w.later.result has w.later.ensures c.loop-slot.invariant)
      | in_default w ↦
          let none = moment_at reader_at c.args.doors.now slot place None c.loop-slot-test.true c.index-doors-slot.is w.in_default.ensures in
          subst (IsFound Later moments (slot + 1)) (sym w.found-is) (passed_over Later moments slot found none c.loop-slot.invariant)
    ]

pub returns-in-Some-found : goal.returns-in-Some-found
returns-in-Some-found c =
    let moments = map reader_at c.args.doors.now in
    all_found Later moments c.loop-slot.slot (c.in-Some-found.slot, c.in-Some-found.field-0-1)
    (moments_within reader_at c.args.doors.now c.loop-slot.slot c.loop-slot-test.false)
    (subst (IsFound Later moments c.loop-slot.slot) c.in-Some-found.is c.loop-slot.invariant)

pub returns-in-None : goal.returns-in-None
returns-in-None c =
    let moments = map reader_at c.args.doors.now in
    none_found Later moments c.loop-slot.slot
    (moments_within reader_at c.args.doors.now c.loop-slot.slot c.loop-slot-test.false)
    (subst (IsFound Later moments c.loop-slot.slot) c.in-None.is c.loop-slot.invariant)
