-- One slot more, and all of them.
use Rattle.std.proofs.Common.{Some, None, map, subst, ◌+◌, sym}
use Rattle.ts_sockets.specs.Rooms.{unknown_at}
use Rattle.ts_sockets.proofs.Finding.{Earlier, IsFound, all_found, moment_at, moments_within, none_found, one_earlier, passed_over}
use Rattle.ts_sockets.proofs.accepting.longest_unknown.Goals as goal
use Rattle.ts_sockets.proofs.accepting.longest_unknown.Goals.{in-Some, in_default}

pub loop-slot-preserved : goal.loop-slot-preserved
loop-slot-preserved c =
    let moments = map unknown_at c.args.doors.now in
    let slot = c.loop-slot.slot in
    let found = c.loop-slot.found in
    let place = c.index-doors-slot.result in
    elim c.match-unknown_since.branch [
      | in-Some w ↦
          let has = moment_at unknown_at c.args.doors.now slot place (Some w.in-Some.since) c.loop-slot-test.true c.index-doors-slot.is w.in-Some.ensures in
          subst (IsFound Earlier moments (slot + 1)) (sym w.found-is)
          (one_earlier moments slot w.in-Some.since found w.earlier.result has w.earlier.ensures c.loop-slot.invariant)
      | in_default w ↦
          let none = moment_at unknown_at c.args.doors.now slot place None c.loop-slot-test.true c.index-doors-slot.is w.in_default.ensures in
          subst (IsFound Earlier moments (slot + 1)) (sym w.found-is) (passed_over Earlier moments slot found none c.loop-slot.invariant)
    ]

pub returns-in-Some-found : goal.returns-in-Some-found
returns-in-Some-found c =
    let moments = map unknown_at c.args.doors.now in
    all_found Earlier moments c.loop-slot.slot (c.in-Some-found.slot, c.in-Some-found.field-0-1)
    (moments_within unknown_at c.args.doors.now c.loop-slot.slot c.loop-slot-test.false)
    (subst (IsFound Earlier moments c.loop-slot.slot) c.in-Some-found.is c.loop-slot.invariant)

pub returns-in-None : goal.returns-in-None
returns-in-None c =
    let moments = map unknown_at c.args.doors.now in
    none_found Earlier moments c.loop-slot.slot
    (moments_within unknown_at c.args.doors.now c.loop-slot.slot c.loop-slot-test.false)
    (subst (IsFound Earlier moments c.loop-slot.slot) c.in-None.is c.loop-slot.invariant)
