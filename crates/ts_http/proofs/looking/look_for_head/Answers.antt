-- The event is another.
use Rattle.std.proofs.Common.{inr, refl}
use Rattle.ts_http.proofs.Events.{not_of_head}
use Rattle.ts_http.proofs.looking.look_for_head.Goals as goal

pub returns-in_default : goal.returns-in_default
returns-in_default c = inr (record {
  spans = c.read.new.headers;
  count = c.in-Ok.read.consumed;
  event = c.in-Ok.read.event;
  read = c.in-Ok.ensures.ok;
  other = not_of_head _ c.in_default.not-NeedMore c.in_default.not-Head;
  status_is = refl;
})
