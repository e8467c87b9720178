-- Only requests are answered by a turn.
use Rattle.std.proofs.Common.{◌≡◌, Bool, refl, true, List}
use Rattle.ts_disk.specs.Disk.{State}
use Rattle.ts_synod.specs.Store.{Store}
use Rattle.ts_command.specs.declared.command.Command.{Command}
use Rattle.ts_command.specs.declared.outcome.Outcome.{Outcome}
use Rattle.ts_question.specs.Question.{StoreQuestion}
use Rattle.ts_question.specs.Reply.{NumberedReply}
use Rattle.ts_wire.specs.declared.frame.Frame.{Frame}
use Rattle.ts_wire.specs.declared.frame.Frame.TheVariants as frames
use Rattle.ts_serve.specs.declared.server.Server.{Server}
use Rattle.ts_serve.specs.Requests.{is_request}
use Rattle.ts_serve.specs.Turn.{TurnBy}

module _ {D M B : Type 0} (state : D → State)
    (store : Store Command Outcome (List Command) StoreQuestion (List Command)) (basis : M → B)
    (is_answer : B → List Command → StoreQuestion → NumberedReply → Type 0) where
  pub only_requests : (staged : Bool) (old new : Server D M) (frame : Frame) (answers : List Frame) → TurnBy state store basis is_answer staged old frame answers new → is_request frame ≡ true
  only_requests staged old new (frames.Peer message) answers t = refl
  only_requests staged old new (frames.Submit command) answers t = refl
  only_requests staged old new (frames.Question question) answers t = refl
  only_requests staged old new frames.Take answers t = refl
  only_requests staged old new (frames.Outcome id) answers t = refl
  only_requests staged old new frames.CatchUp answers t = refl
  only_requests staged old new frames.Status answers t = refl
  only_requests staged old new frames.Compact answers t = refl
  only_requests staged old new frames.Identify answers t = refl
  only_requests staged old new frames.Report answers t = refl
  only_requests staged old new (frames.Done count) answers t = absurd t
  only_requests staged old new (frames.Started position ballot) answers t = absurd t
  only_requests staged old new (frames.Settled position outcome) answers t = absurd t
  only_requests staged old new (frames.Answer answer) answers t = absurd t
  only_requests staged old new frames.Unknown answers t = absurd t
  only_requests staged old new (frames.NodeFault fault) answers t = absurd t
  only_requests staged old new (frames.FrameFault fault) answers t = absurd t
  only_requests staged old new (frames.Prefix prefix) answers t = absurd t
  only_requests staged old new (frames.Identity node nodes group) answers t = absurd t
  only_requests staged old new (frames.Reported text) answers t = absurd t
