-- The event says what was read.
use Rattle.std.proofs.Common.{rules, inr, refl}
use Rattle.ts_http.proofs.Events.{as_read, not_of_body}
use Rattle.ts_http.proofs.looking.look_for_body.Goals as goal

pub returns-in_ok-piece-in-Data : goal.returns-in_ok-piece-in-Data
returns-in_ok-piece-in-Data c = record {
  spans = c.read.new.headers;
  span = c.in-Data.span;
  read = as_read _ _ _ _ _ _ c.in-Ok.ensures.ok c.in-Data.is;
  piece_is = search rules;
  within = c.in-Ok.ensures.consumed;
}

pub returns-in-End : goal.returns-in-End
returns-in-End c = record {
  spans = c.read.new.headers;
  trailers = c.in-End.field-0;
  read = as_read _ _ _ _ _ _ c.in-Ok.ensures.ok c.in-End.is;
  within = c.in-Ok.ensures.consumed;
}

pub returns-in_default : goal.returns-in_default
returns-in_default c = inr (record {
  spans = c.read.new.headers;
  count = c.in-Ok.read.consumed;
  event = c.in-Ok.read.event;
  read = c.in-Ok.ensures.ok;
  other = not_of_body _ c.in_default.not-NeedMore c.in_default.not-Data c.in_default.not-End;
  status_is = refl;
})
