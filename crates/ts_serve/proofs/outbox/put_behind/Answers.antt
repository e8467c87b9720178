use Rattle.ts_serve.proofs.Outboxes.{none_yet, one_more}
use Rattle.ts_serve.proofs.outbox.put_behind.Goals as goal

pub loop-message-init : goal.loop-message-init
loop-message-init c = record { can_next = tt; is_finite = tt; put = none_yet c.args.frames.now c.requires; outbox = c.requires }

pub loop-message-preserved : goal.loop-message-preserved
loop-message-preserved c = record {
  can_next = tt;
  is_finite = tt;
  put = one_more c.args.frames.now.items c.loop-message.frames.items c.loop-message.yielded c.in-Some.message c.put_one.new.frames.items c.loop-message.invariant.put c.put_one.ensures.put;
  outbox = c.put_one.ensures.outbox;
}
