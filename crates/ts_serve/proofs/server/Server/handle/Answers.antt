-- A call of the node was answered.
use Rattle.std.proofs.Common.{◌∙◌, ap, ◌∷◌, [], ◌++◌, take, List}
use Rattle.ts_synod.specs.declared.message.Message.{Message}
use Rattle.ts_command.specs.declared.command.Command.{Command}
use Rattle.ts_question.specs.Question.{StoreQuestion}
use Rattle.ts_node.specs.Machine.{store_of}
use Rattle.ts_wire.specs.declared.frame.Frame.{Frame}
use Rattle.ts_serve.proofs.Framing.{all_framed}
use Rattle.ts_serve.proofs.server.Server.handle.Goals as goal

pub answer_of-frame-requires : goal.answer_of-frame-requires
answer_of-frame-requires g c =
    all_framed g.D.Disk.state (store_of StoreQuestion g.M.Machine.client_id g.M.Machine.outcome)
    g.M.Machine.basis g.M.Machine.is_answer c.args.staged c.args.self.now.node
    c.call-called.new.node c.args.self.now.staged c.call-called.new.waiting
    c.args.input.now c.call-called.result c.call-called.ensures.hands c.requires.within

pub returns-clause-handled : goal.returns-clause-handled
returns-clause-handled g c = record {
  result = c.call-called.result;
  call = c.call-called.ensures.hands;
  said = ap (λ (f : Frame). f ∷ []) c.answer_of-frame.ensures.frame;
  outbox = c.put.ensures ∙ ap (λ (l : List (Message Command)). take 256 (c.args.self.now.outbox ++ l)) c.answer_of-frame.ensures.messages;
  failed = c.failed_then-self.ensures;
}
