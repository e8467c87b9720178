use Rattle.std.proofs.Common.{◌∙◌, ap, ◌++◌, take}
use Rattle.ts_serve.proofs.Outboxes.{first_stay}
use Rattle.ts_serve.proofs.outbox.Outbox.put.Goals as goal

pub returns : goal.returns
returns c = first_stay c.self.inside.frames c.put_behind.new.frames c.args.messages.items c.self.invariant c.put_behind.ensures.put ∙ ap (λ l. take 256 (l ++ c.args.messages.items)) c.self.view_is
