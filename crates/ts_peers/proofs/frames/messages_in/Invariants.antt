use Rattle.std.proofs.Common.{◌≡◌, ◌++◌}
use Rattle.std.specs.List.{flat_map}
use Rattle.ts_wire.specs.Frames.{frame_encoding}
use Rattle.ts_wire.specs.declared.frame.Frame.TheVariants.{Peer}
use Rattle.ts_peers.proofs.frames.messages_in.Given as goal

abbrev pub invariant-loop-frame : goal.invariant-loop-frame
invariant-loop-frame l = l.octets ≡ flat_map (λ m. frame_encoding (Peer m)) l.messages.items ++ l.feed
