-- The fields of a frame read from front to back.
use Rattle.std.specs.Prelude.{◌==◌, ℕ, List, [], ◌∷◌, length, Option, Some, None, Result, Ok, Err}
use Rattle.std.specs.Prelude.{if◌then◌else◌}
use Rattle.std.specs.Int.{w32}
use Rattle.ts_codec.specs.Reading.{Reader, ◌and◌, ◌into◌, bare, number_at, octets_at, node_at}
use Rattle.ts_codec.specs.Reading.{blob32_at}
use Rattle.ts_codec.specs.Reading.{position_at, prefix_at, ballot_at, within_blob_at, code_at}
use Rattle.ts_codec.specs.Reading.{of_kind, by_kind}
use Rattle.ts_question.specs.QuestionReading.{question_at}
use Rattle.ts_question.specs.ReplyReading.{answer_at}
use Rattle.ts_synod.specs.declared.message.Body.{Body}
use Rattle.ts_synod.specs.declared.message.Body.TheVariants.{Prepare, Promise, Busy, Accept}
use Rattle.ts_synod.specs.declared.message.Body.TheVariants.{Accepted, Ask, Give}
use Rattle.ts_synod.specs.declared.message.Vote.{Vote}
use Rattle.ts_command.specs.declared.command.Command.{Command}
use Rattle.ts_command.specs.declared.outcome.Outcome.{Outcome as Came}
use Rattle.ts_command.specs.declared.outcome.Outcome.TheVariants.{Applied, Repeated, Refused}
use Rattle.ts_command.specs.Outcomes.{refusals}
use Rattle.ts_command.specs.Reading.{command_at}
use Rattle.ts_wire.specs.Frames.{is_kind}
use Rattle.ts_wire.specs.declared.route.Route.{Route}
use Rattle.ts_synod.specs.declared.fault.NodeFault.{NodeFault as NodeFaultOf}
use Rattle.ts_synod.specs.declared.fault.NodeFault.TheVariants.{Memory, DiskFailed, Broken}
use Rattle.ts_synod.specs.declared.fault.NodeFault.TheVariants.{RoundsExhausted, PositionsExhausted}
use Rattle.ts_synod.specs.declared.fault.NodeFault.TheVariants.{GenerationsExhausted}
use Rattle.ts_wire.specs.declared.fault.FrameFault.{FrameFault as FrameFaultOf}
use Rattle.ts_wire.specs.declared.fault.FrameFault.TheVariants.{Length, Version, Kind, Field}
use Rattle.ts_wire.specs.declared.fault.FrameFault.TheVariants.{Trailing}
use Rattle.ts_wire.specs.declared.frame.Frame.{Frame}
use Rattle.ts_wire.specs.declared.frame.Frame.TheVariants.{Peer, Submit, Question, Take, Outcome}
use Rattle.ts_wire.specs.declared.frame.Frame.TheVariants.{CatchUp, Status, Compact, Done, Started}
use Rattle.ts_wire.specs.declared.frame.Frame.TheVariants.{Settled, Answer, Unknown, NodeFault}
use Rattle.ts_wire.specs.declared.frame.Frame.TheVariants.{FrameFault, Prefix, Identify, Identity}
use Rattle.ts_wire.specs.declared.frame.Frame.TheVariants.{Report, Reported}

abbrev pub route_of : ℕ × (ℕ × ℕ) → Route
route_of x = record { from = x.0; to = x.1.0; position = x.1.1 }

-- from which node, to which, and about which position a message is
unfoldable pub route_at : Reader Route
route_at = node_at and node_at and position_at into route_of

unfoldable pub blob_command_at : Reader Command
blob_command_at = within_blob_at command_at

abbrev pub vote_of : ℕ × Command → Vote Command
vote_of x = record { ballot = x.0; command = x.1 }

unfoldable pub vote_at : Reader (Vote Command)
vote_at = ballot_at and blob_command_at into vote_of

unfoldable pub taken_at : Reader (Option (Vote Command))
taken_at = by_kind ((0, bare None) ∷ (1, vote_at into Some) ∷ [])

abbrev pub peer : Route → Body Command → Frame
peer route body = Peer (record { from = route.from; to = route.to; body = body })

unfoldable pub prepare_at : Reader Frame
prepare_at = route_at and ballot_at into (λ x. peer x.0 (Prepare x.0.position x.1))

unfoldable pub promise_at : Reader Frame
promise_at = route_at and ballot_at and taken_at
    into (λ x. peer x.0 (Promise x.0.position x.1.0 x.1.1))

unfoldable pub busy_at : Reader Frame
busy_at = route_at and ballot_at and ballot_at
    into (λ x. peer x.0 (Busy x.0.position x.1.0 x.1.1))

unfoldable pub accept_at : Reader Frame
accept_at = route_at and ballot_at and blob_command_at
    into (λ x. peer x.0 (Accept x.0.position x.1.0 x.1.1))

unfoldable pub accepted_at : Reader Frame
accepted_at = route_at and ballot_at and blob_command_at
    into (λ x. peer x.0 (Accepted x.0.position x.1.0 x.1.1))

unfoldable pub ask_at : Reader Frame
ask_at = route_at into (λ x. peer x (Ask x.position))

unfoldable pub give_at : Reader Frame
give_at = route_at and blob_command_at into (λ x. peer x.0 (Give x.0.position x.1))

unfoldable pub started_at : Reader Frame
started_at = position_at and ballot_at into (λ x. Started x.0 x.1)

unfoldable pub refused_at : Reader Came
refused_at = code_at refusals into Refused

unfoldable pub outcome_at : Reader Came
outcome_at = by_kind ((0, bare Applied) ∷ (1, position_at into Repeated) ∷ (2, refused_at) ∷ [])

unfoldable pub settled_at : Reader Frame
settled_at = position_at and outcome_at into (λ x. Settled x.0 x.1)

abbrev pub node_faults : List (ℕ × NodeFaultOf)
node_faults = (1, Memory) ∷ (2, DiskFailed) ∷ (3, Broken) ∷ (4, RoundsExhausted)
    ∷ (5, PositionsExhausted) ∷ (6, GenerationsExhausted) ∷ []

abbrev pub frame_faults : List (ℕ × FrameFaultOf)
frame_faults = (1, Length) ∷ (2, Version) ∷ (3, Kind) ∷ (4, Field) ∷ (5, Trailing) ∷ []

unfoldable pub identity_at : Reader Frame
identity_at = node_at and node_at and number_at w32 into (λ x. Identity x.0 x.1.0 x.1.1)

-- how the fields of each kind are read
abbrev pub readers : List (ℕ × Reader Frame)
readers = (1, prepare_at) ∷ (2, promise_at) ∷ (3, busy_at) ∷ (4, accept_at) ∷ (5, accepted_at)
    ∷ (6, ask_at) ∷ (7, give_at)
    ∷ (16, blob_command_at into Submit) ∷ (17, within_blob_at question_at into Question)
    ∷ (18, bare Take) ∷ (19, octets_at 16 into Outcome) ∷ (20, bare CatchUp)
    ∷ (21, bare Status) ∷ (22, bare Compact) ∷ (23, bare Identify) ∷ (24, bare Report)
    ∷ (32, number_at w32 into Done) ∷ (33, started_at) ∷ (34, settled_at)
    ∷ (35, answer_at into Answer) ∷ (36, bare Unknown) ∷ (37, code_at node_faults into NodeFault)
    ∷ (38, code_at frame_faults into FrameFault) ∷ (39, prefix_at into Prefix)
    ∷ (40, identity_at) ∷ (41, blob32_at into Reported) ∷ []

unfoldable pub fields_at : ℕ → Reader Frame
fields_at = of_kind readers

-- a frame that is all of its fields, or the fault
abbrev pub whole_frame : Option (Frame × List ℕ) → Result Frame FrameFaultOf
whole_frame None = Err Field
whole_frame (Some frame) = if length frame.1 == 0 then Ok frame.0 else Err Trailing

-- what follows a frame's length
unfoldable pub frame_in : List ℕ → Result Frame FrameFaultOf
frame_in [] = Err Length
frame_in (version ∷ []) = Err Length
frame_in (version ∷ kind ∷ octets) = if version == 2
    then (if is_kind kind then whole_frame (fields_at kind octets) else Err Kind) else Err Version
