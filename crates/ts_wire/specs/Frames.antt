-- Frames, how each is encoded, and which have an encoding.
use Rattle.std.specs.Prelude.{◌≡◌, ◌≤◌, ◌<◌, ◌+◌, ◌^◌, ◌||◌, ◌&&◌, ℕ, Bool, true, nat_le, nat_lt}
use Rattle.std.specs.Prelude.{List, [], ◌∷◌, ◌++◌, length, Option, Some, None}
use Rattle.std.specs.Int.{to_be_bytes, w32, w64}
use Rattle.ts_synod.specs.declared.message.Body.{Body}
use Rattle.ts_synod.specs.declared.message.Body.TheVariants.{Prepare, Promise, Busy, Accept}
use Rattle.ts_synod.specs.declared.message.Body.TheVariants.{Accepted, Ask, Give}
use Rattle.ts_synod.specs.declared.message.Vote.{Vote}
use Rattle.ts_command.specs.declared.command.Command.{Command}
use Rattle.ts_command.specs.Commands.{command_encoding as command_octets, CommandFits}
use Rattle.ts_codec.specs.Parts.{blob32}
use Rattle.ts_codec.specs.Ranges.{is_node_number, is_position, is_ballot}
use Rattle.ts_question.specs.Question.{question_encoding as question_octets, QuestionFits}
use Rattle.ts_question.specs.Reply.{answer_encoding as answer_octets, AnswerFits}
use Rattle.ts_wire.specs.Outcomes.{outcome_encoding, OutcomeFits}
use Rattle.ts_wire.specs.Outcomes.{node_fault_code, frame_fault_code}
use Rattle.ts_wire.specs.declared.frame.Frame.{Frame}
use Rattle.ts_wire.specs.declared.frame.Frame.TheVariants.{Peer, Submit, Question, Take, Outcome}
use Rattle.ts_wire.specs.declared.frame.Frame.TheVariants.{CatchUp, Status, Compact, Done, Started}
use Rattle.ts_wire.specs.declared.frame.Frame.TheVariants.{Settled, Answer, Unknown, NodeFault}
use Rattle.ts_wire.specs.declared.frame.Frame.TheVariants.{FrameFault, Prefix, Identify, Identity}
use Rattle.ts_wire.specs.declared.frame.Frame.TheVariants.{Report, Reported}

abbrev pub body_kind : Body Command → ℕ
body_kind (Prepare position ballot) = 1
body_kind (Promise position ballot taken) = 2
body_kind (Busy position ballot promised) = 3
body_kind (Accept position ballot command) = 4
body_kind (Accepted position ballot command) = 5
body_kind (Ask position) = 6
body_kind (Give position command) = 7

-- the octet that names a frame's kind, 10 to 29 being hexadecimal
abbrev pub frame_kind : Frame → ℕ
frame_kind (Peer message) = body_kind message.body
frame_kind (Submit command) = 16
frame_kind (Question question) = 17
frame_kind Take = 18
frame_kind (Outcome id) = 19
frame_kind CatchUp = 20
frame_kind Status = 21
frame_kind Compact = 22
frame_kind Identify = 23
frame_kind Report = 24
frame_kind (Done count) = 32
frame_kind (Started position ballot) = 33
frame_kind (Settled position outcome) = 34
frame_kind (Answer answer) = 35
frame_kind Unknown = 36
frame_kind (NodeFault fault) = 37
frame_kind (FrameFault fault) = 38
frame_kind (Prefix prefix) = 39
frame_kind (Identity node nodes group) = 40
frame_kind (Reported text) = 41

-- 01 to 07, 10 to 18 and 20 to 29, hexadecimal
abbrev pub is_kind : ℕ → Bool
is_kind kind = (nat_le 1 kind && nat_le kind 7) || (nat_le 16 kind && nat_le kind 24)
    || (nat_le 32 kind && nat_le kind 41)

-- 00, or 01, the ballot and the command
abbrev pub taken_encoding : Option (Vote Command) → List ℕ
taken_encoding None = 0 ∷ []
taken_encoding (Some vote) = 1
    ∷ (to_be_bytes w64 vote.ballot ++ blob32 (command_octets vote.command))

abbrev pub body_encoding : Body Command → List ℕ
body_encoding (Prepare position ballot) = to_be_bytes w32 position ++ to_be_bytes w64 ballot
body_encoding (Promise position ballot taken) =
    to_be_bytes w32 position ++ (to_be_bytes w64 ballot ++ taken_encoding taken)
body_encoding (Busy position ballot promised) =
    to_be_bytes w32 position ++ (to_be_bytes w64 ballot ++ to_be_bytes w64 promised)
body_encoding (Accept position ballot command) =
    to_be_bytes w32 position ++ (to_be_bytes w64 ballot ++ blob32 (command_octets command))
body_encoding (Accepted position ballot command) =
    to_be_bytes w32 position ++ (to_be_bytes w64 ballot ++ blob32 (command_octets command))
body_encoding (Ask position) = to_be_bytes w32 position
body_encoding (Give position command) = to_be_bytes w32 position ++ blob32 (command_octets command)

abbrev pub frame_fields : Frame → List ℕ
frame_fields (Peer message) = message.from ∷ message.to ∷ body_encoding message.body
frame_fields (Submit command) = blob32 (command_octets command)
frame_fields (Question question) = blob32 (question_octets question)
frame_fields Take = []
frame_fields (Outcome id) = id
frame_fields CatchUp = []
frame_fields Status = []
frame_fields Compact = []
frame_fields Identify = []
frame_fields Report = []
frame_fields (Done count) = to_be_bytes w32 count
frame_fields (Started position ballot) = to_be_bytes w32 position ++ to_be_bytes w64 ballot
frame_fields (Settled position outcome) = to_be_bytes w32 position ++ outcome_encoding outcome
frame_fields (Answer answer) = answer_octets answer
frame_fields Unknown = []
frame_fields (NodeFault fault) = node_fault_code fault ∷ []
frame_fields (FrameFault fault) = frame_fault_code fault ∷ []
frame_fields (Prefix prefix) = to_be_bytes w32 prefix
frame_fields (Identity node nodes group) = node ∷ nodes ∷ to_be_bytes w32 group
frame_fields (Reported text) = blob32 text

-- four octets of the length of what follows; the version, 02; the kind; the fields
abbrev pub frame_encoding : Frame → List ℕ
frame_encoding frame = to_be_bytes w32 (2 + length (frame_fields frame)) ++
    (2 ∷ frame_kind frame ∷ frame_fields frame)

-- ---- which have an encoding

abbrev pub TakenFits : Option (Vote Command) → Type 0
TakenFits None = Unit {0}
TakenFits (Some vote) = (is_ballot vote.ballot ≡ true) × CommandFits vote.command

abbrev pub BodyFits : Body Command → Type 0
BodyFits (Prepare position ballot) = (is_position position ≡ true) × (is_ballot ballot ≡ true)
BodyFits (Promise position ballot taken) =
    (is_position position ≡ true) × (is_ballot ballot ≡ true) × TakenFits taken
BodyFits (Busy position ballot promised) =
    (is_position position ≡ true) × (is_ballot ballot ≡ true) × (is_ballot promised ≡ true)
BodyFits (Accept position ballot command) =
    (is_position position ≡ true) × (is_ballot ballot ≡ true) × CommandFits command
BodyFits (Accepted position ballot command) =
    (is_position position ≡ true) × (is_ballot ballot ≡ true) × CommandFits command
BodyFits (Ask position) = is_position position ≡ true
BodyFits (Give position command) = (is_position position ≡ true) × CommandFits command

-- each field is in its range
abbrev pub FrameFieldsFit : Frame → Type 0
FrameFieldsFit (Peer message) = (is_node_number message.from ≡ true)
    × (is_node_number message.to ≡ true)
    × BodyFits message.body
FrameFieldsFit (Submit command) = CommandFits command
FrameFieldsFit (Question question) = QuestionFits question
FrameFieldsFit (Outcome id) = length id ≡ 16
FrameFieldsFit (Done count) = nat_lt count 4294967296 ≡ true
FrameFieldsFit (Started position ballot) = (is_position position ≡ true) × (is_ballot ballot ≡ true)
FrameFieldsFit (Settled position outcome) = (is_position position ≡ true) × OutcomeFits outcome
FrameFieldsFit (Answer answer) = AnswerFits answer
FrameFieldsFit (Prefix prefix) = nat_le prefix 1000000 ≡ true
FrameFieldsFit (Identity node nodes group) = (is_node_number node ≡ true)
    × (is_node_number nodes ≡ true)
    × (nat_lt group 4294967296 ≡ true)
FrameFieldsFit (Reported text) = length text < 2 ^ 32
FrameFieldsFit other = Unit {0}

-- the fields fit, and the length is at most 8,388,608
pub record FrameFits (frame : Frame) : Type 0 where
  pub ranges : FrameFieldsFit frame
  pub short : 2 + length (frame_fields frame) ≤ 8388608
