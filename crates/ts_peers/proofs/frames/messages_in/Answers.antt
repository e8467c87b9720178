-- No message, where there is no memory for the octets.
use Rattle.std.proofs.Common.{refl}
use Rattle.ts_peers.proofs.frames.messages_in.Goals as goal

pub returns-then-is_err : goal.returns-then-is_err
returns-then-is_err c = record {
  rest = c.args.octets.now;
  is = rw c.new-messages.ensures.items refl;
}
