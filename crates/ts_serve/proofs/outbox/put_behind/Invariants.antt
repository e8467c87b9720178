-- The messages so far are after those that were there, as far as there is room.
use Rattle.std.proofs.Common.{◌≡◌, ◌++◌, map, take}
use Rattle.ts_wire.specs.declared.frame.Frame.TheVariants.{Peer}
use Rattle.ts_serve.specs.inside.Outbox.{IsOutbox}
use Rattle.ts_serve.proofs.outbox.put_behind.Given as goal

abbrev pub invariant-loop-message : goal.invariant-loop-message
invariant-loop-message l = record {
  can_next : goal.iterator-loop-message.can_next l.message-iterator;
  is_finite : goal.iterator-loop-message.is_finite l.message-iterator;
  put : l.frames.items ≡ take 256 (l.initial.frames.items ++ map Peer l.yielded);
  outbox : IsOutbox l.frames;
}
