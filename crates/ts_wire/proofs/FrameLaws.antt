-- The fields of each frame are read in one way.
use Rattle.std.proofs.Common.{◌≡◌, ℕ, true, List, [], ◌∷◌, ◌++◌, Option, Some, None, refl, arith}
use Rattle.std.specs.Prelude.{nat_lt}
use Rattle.std.specs.List.{AllByRecursion}
use Rattle.std.specs.Int.{w32, w64, to_be_bytes}
use Rattle.ts_codec.specs.Parts.{blob32}
use Rattle.ts_codec.specs.Ranges.{is_node_number, is_position, is_ballot}
use Rattle.ts_codec.specs.Reading.{◌>>=◌, ◌and◌, ◌into◌, bare, lookup, number_at, node_at, position_at, ballot_at, within_blob_at, code_at}
use Rattle.ts_codec.proofs.Laws.{Part}
use Rattle.ts_codec.proofs.Numbers.{octets_part}
use Rattle.ts_codec.proofs.Rows.{fitting, recoded, and_part, into_part, parts_again, Case, case, bare_case, ◌also◌, kind_part, fields_part, code_part}
use Rattle.ts_codec.proofs.Lists.{within_blob, blob32_part}
use Rattle.ts_codec.proofs.Values.{node_part, position_part, prefix_part, ballot_part, word_part}
use Rattle.ts_synod.specs.declared.message.Body.{Body}
use Rattle.ts_synod.specs.declared.message.Body.TheVariants.{Prepare, Promise, Busy, Accept, Accepted, Ask, Give}
use Rattle.ts_synod.specs.declared.message.Vote.{Vote}
use Rattle.ts_command.specs.Commands.{command_encoding as command_octets, CommandFits}
use Rattle.ts_command.specs.declared.command.Command.{Command}
use Rattle.ts_command.specs.declared.outcome.Outcome.{Outcome as Came}
use Rattle.ts_command.specs.declared.outcome.Outcome.TheVariants.{Applied, Repeated, Refused}
use Rattle.ts_command.specs.declared.outcome.Refusal.{Refusal}
use Rattle.ts_command.specs.declared.outcome.Refusal.TheVariants.{AnchorThere, NoAnchor, Malformed, OlderCrl, CriticalCrlExtension, StoreFull, DeltaCrl, NoCrl, RelativeName, Indirect}
use Rattle.ts_command.proofs.OneEncoding.{command_part}
use Rattle.ts_command.proofs.Encoded.{encoding_short}
use Rattle.ts_question.specs.Question.{question_encoding as question_octets, QuestionFits}
use Rattle.ts_question.specs.QuestionReading.{question_at}
use Rattle.ts_question.proofs.Fields.{question_part}
use Rattle.ts_question.proofs.Replies.{answer_part}
use Rattle.ts_wire.proofs.Lengths.{question_short}
use Rattle.ts_command.specs.Outcomes.{refusal_code, refusals}
use Rattle.ts_wire.specs.Outcomes.{outcome_encoding, OutcomeFits, node_fault_code, frame_fault_code}
use Rattle.ts_wire.specs.Frames.{frame_kind, taken_encoding, frame_fields, TakenFits, BodyFits, FrameFieldsFit}
use Rattle.ts_wire.specs.inside.FrameReading.{route_of, route_at, blob_command_at, vote_of, vote_at}
use Rattle.ts_wire.specs.inside.FrameReading.{taken_at, peer, prepare_at, promise_at, busy_at}
use Rattle.ts_wire.specs.inside.FrameReading.{accept_at, accepted_at, ask_at, give_at, started_at}
use Rattle.ts_wire.specs.inside.FrameReading.{refused_at, outcome_at, settled_at}
use Rattle.ts_wire.specs.inside.FrameReading.{node_faults, frame_faults, identity_at, readers}
use Rattle.ts_wire.specs.inside.FrameReading.{fields_at}
use Rattle.ts_wire.specs.declared.route.Route.{Route}
use Rattle.ts_synod.specs.declared.fault.NodeFault.{NodeFault as NodeFaultOf}
use Rattle.ts_synod.specs.declared.fault.NodeFault.TheVariants.{Memory, DiskFailed, Broken, RoundsExhausted, PositionsExhausted, GenerationsExhausted}
use Rattle.ts_wire.specs.declared.fault.FrameFault.{FrameFault as FrameFaultOf}
use Rattle.ts_wire.specs.declared.fault.FrameFault.TheVariants.{Length, Version, Kind, Field, Trailing}
use Rattle.ts_wire.specs.declared.frame.Frame.{Frame}
use Rattle.ts_wire.specs.declared.frame.Frame.TheVariants.{Peer, Submit, Question, Take, Outcome}
use Rattle.ts_wire.specs.declared.frame.Frame.TheVariants.{CatchUp, Status, Compact, Done, Started}
use Rattle.ts_wire.specs.declared.frame.Frame.TheVariants.{Settled, Answer, Unknown, NodeFault}
use Rattle.ts_wire.specs.declared.frame.Frame.TheVariants.{FrameFault, Prefix, Identify, Identity}
use Rattle.ts_wire.specs.declared.frame.Frame.TheVariants.{Report, Reported}

-- ---- parts of frames

pub record Routed (r : Route) : Type 0 where
  pub from : is_node_number r.from ≡ true
  pub to : is_node_number r.to ≡ true
  pub position : is_position r.position ≡ true

abbrev route_octets : Route → List ℕ
route_octets r = r.from ∷ r.to ∷ to_be_bytes w32 r.position

route_part : Part route_octets Routed route_at
unfolding route_at
route_part = into_part (and_part node_part (and_part node_part position_part)) route_of (record {
  parts = λ r. (r.from, (r.to, r.position));
  same = λ r fit. refl;
  fit = λ r fit. (fit.from, (fit.to, fit.position));
  fits = λ x fit. record { from = fit.0; to = fit.1.0; position = fit.1.1 };
  octets = λ x fit. refl;
})

blob_command_part : Part (λ c. blob32 (command_octets c)) CommandFits blob_command_at
unfolding blob_command_at
blob_command_part = fitting (within_blob command_part) CommandFits (λ c fit. fit.0) (λ c fit. (fit, omega (arith, encoding_short c fit)))

blob_question_part : Part (λ q. blob32 (question_octets q)) QuestionFits (within_blob_at question_at)
blob_question_part = fitting (within_blob question_part) QuestionFits (λ q fit. fit.0) (λ q fit. (fit, question_short q fit))

abbrev VoteFits : Vote Command → Type 0
VoteFits v = (is_ballot v.ballot ≡ true) × CommandFits v.command

vote_part : Part (λ v. to_be_bytes w64 v.ballot ++ blob32 (command_octets v.command)) VoteFits vote_at
unfolding vote_at
vote_part = into_part (and_part ballot_part blob_command_part) vote_of (record {
  parts = λ v. (v.ballot, v.command);
  same = λ v fit. refl;
  fit = λ v fit. fit;
  fits = λ x fit. fit;
  octets = λ x fit. refl;
})

abbrev flag_of : Option (Vote Command) → ℕ
flag_of None = 0
flag_of (Some v) = 1

abbrev vote_octets : Option (Vote Command) → List ℕ
vote_octets None = []
vote_octets (Some v) = to_be_bytes w64 v.ballot ++ blob32 (command_octets v.command)

taken_part : Part taken_encoding TakenFits taken_at
unfolding taken_at
taken_part = recoded (kind_part {kind_of = flag_of} {encode = vote_octets} {Fit = TakenFits} (record {
  cases = (bare_case None 0 refl tt refl, (case vote_part Some 1 (λ v fit. (fit, refl, refl)), tt));
  again = again;
})) taken_encoding same
  where
    again : (t : Option (Vote Command)) (rest : List ℕ) → TakenFits t
        → (lookup (flag_of t) ((0, λ o. Some (None, o)) ∷ (1, vote_at into Some) ∷ []) >>= λ read.
        read (vote_octets t ++ rest)) ≡ Some (t, rest)
    again None rest fit = refl
    again (Some v) rest fit = parts_again vote_part Some v rest fit

    same : (t : Option (Vote Command)) → taken_encoding t ≡ flag_of t ∷ vote_octets t
    same None = refl
    same (Some v) = refl

-- ---- codes

refusal_part : Part (λ r. refusal_code r ∷ []) (λ r. Unit {0}) (code_at refusals)
refusal_part = code_part refusal_code refusals (refl, (refl, (refl, (refl, (refl, (refl, (refl, (refl, (refl, (refl, tt)))))))))) each
  where
    each : (r : Refusal) → lookup (refusal_code r) refusals ≡ Some r
    each AnchorThere = refl
    each NoAnchor = refl
    each Malformed = refl
    each OlderCrl = refl
    each CriticalCrlExtension = refl
    each StoreFull = refl
    each DeltaCrl = refl
    each NoCrl = refl
    each RelativeName = refl
    each Indirect = refl

node_fault_part : Part (λ x. node_fault_code x ∷ []) (λ x. Unit {0}) (code_at node_faults)
node_fault_part = code_part node_fault_code node_faults (refl, (refl, (refl, (refl, (refl, (refl, tt)))))) each
  where
    each : (x : NodeFaultOf) → lookup (node_fault_code x) node_faults ≡ Some x
    each Memory = refl
    each DiskFailed = refl
    each Broken = refl
    each RoundsExhausted = refl
    each PositionsExhausted = refl
    each GenerationsExhausted = refl

frame_fault_part : Part (λ x. frame_fault_code x ∷ []) (λ x. Unit {0}) (code_at frame_faults)
frame_fault_part = code_part frame_fault_code frame_faults (refl, (refl, (refl, (refl, (refl, tt))))) each
  where
    each : (x : FrameFaultOf) → lookup (frame_fault_code x) frame_faults ≡ Some x
    each Length = refl
    each Version = refl
    each Kind = refl
    each Field = refl
    each Trailing = refl

-- ---- outcomes

abbrev came_as : Came → ℕ
came_as Applied = 0
came_as (Repeated position) = 1
came_as (Refused refusal) = 2

abbrev came_octets : Came → List ℕ
came_octets Applied = []
came_octets (Repeated position) = to_be_bytes w32 position
came_octets (Refused refusal) = refusal_code refusal ∷ []

outcome_part : Part outcome_encoding OutcomeFits outcome_at
unfolding outcome_at refused_at
outcome_part = recoded (kind_part {kind_of = came_as} {encode = came_octets} {Fit = OutcomeFits} (record {
  cases = (bare_case Applied 0 refl tt refl, (case position_part Repeated 1 (λ p fit. (fit, refl, refl)), (case refusal_part Refused 2 (λ r fit. (tt, refl, refl)), tt)));
  again = again;
})) outcome_encoding same
  where
    again : (x : Came) (rest : List ℕ) → OutcomeFits x
        → (lookup (came_as x) ((0, λ o. Some (Applied, o)) ∷ (1, position_at into Repeated)
        ∷ (2, code_at refusals into Refused) ∷ []) >>= λ read. read (came_octets x ++ rest)) ≡ Some
        (x, rest)
    again Applied rest fit = refl
    again (Repeated p) rest fit = parts_again position_part Repeated p rest fit
    again (Refused r) rest fit = parts_again refusal_part Refused r rest tt

    same : (x : Came) → outcome_encoding x ≡ came_as x ∷ came_octets x
    same Applied = refl
    same (Repeated p) = refl
    same (Refused r) = refl

-- ---- messages: what follows their route

prepare_part : Part (λ x. route_octets x.0 ++ to_be_bytes w64 x.1) (λ x. Routed x.0 × (is_ballot x.1 ≡ true)) (route_at and ballot_at)
prepare_part = and_part route_part ballot_part

promise_part : Part (λ x. route_octets x.0 ++ (to_be_bytes w64 x.1.0 ++ taken_encoding x.1.1)) (λ x. Routed x.0 × ((is_ballot x.1.0 ≡ true) × TakenFits x.1.1)) (route_at and ballot_at and taken_at)
promise_part = and_part route_part (and_part ballot_part taken_part)

busy_part : Part (λ x. route_octets x.0 ++ (to_be_bytes w64 x.1.0 ++ to_be_bytes w64 x.1.1))
    (λ x. Routed x.0 × ((is_ballot x.1.0 ≡ true) × (is_ballot x.1.1 ≡ true)))
    (route_at and ballot_at and ballot_at)
busy_part = and_part route_part (and_part ballot_part ballot_part)

accept_part : Part (λ x. route_octets x.0
    ++ (to_be_bytes w64 x.1.0 ++ blob32 (command_octets x.1.1)))
    (λ x. Routed x.0 × ((is_ballot x.1.0 ≡ true) × CommandFits x.1.1))
    (route_at and ballot_at and blob_command_at)
accept_part = and_part route_part (and_part ballot_part blob_command_part)

give_part : Part (λ x. route_octets x.0 ++ blob32 (command_octets x.1)) (λ x. Routed x.0 × CommandFits x.1) (route_at and blob_command_at)
give_part = and_part route_part blob_command_part

routed : (from to position : ℕ) → is_node_number from ≡ true → is_node_number to ≡ true → is_position position ≡ true → Routed (record { from = from; to = to; position = position })
routed from to position f t p = record { from = f; to = t; position = p }

abbrev IsRead : Frame → List ℕ → Type 0
IsRead f rest = (lookup (frame_kind f) readers >>= λ read. read (frame_fields f ++ rest)) ≡ Some (f, rest)

peer_again : (from to : ℕ) (body : Body Command) (rest : List ℕ) → is_node_number from ≡ true
    → is_node_number to ≡ true → BodyFits body
    → IsRead (Peer (record { from = from; to = to; body = body })) rest
unfolding prepare_at promise_at busy_at accept_at accepted_at ask_at give_at
peer_again from to (Prepare p b) rest f t fit = parts_again prepare_part (λ x. peer x.0 (Prepare x.0.position x.1)) (route_of (from, (to, p)), b) rest (routed from to p f t fit.0, fit.1)
peer_again from to (Promise p b x) rest f t fit =
    parts_again promise_part (λ x. peer x.0 (Promise x.0.position x.1.0 x.1.1))
    (route_of (from, (to, p)), (b, x)) rest (routed from to p f t fit.0, (fit.1, fit.2))
peer_again from to (Busy p b q) rest f t fit =
    parts_again busy_part (λ x. peer x.0 (Busy x.0.position x.1.0 x.1.1))
    (route_of (from, (to, p)), (b, q)) rest (routed from to p f t fit.0, (fit.1, fit.2))
peer_again from to (Accept p b c) rest f t fit =
    parts_again accept_part (λ x. peer x.0 (Accept x.0.position x.1.0 x.1.1))
    (route_of (from, (to, p)), (b, c)) rest (routed from to p f t fit.0, (fit.1, fit.2))
peer_again from to (Accepted p b c) rest f t fit =
    parts_again accept_part (λ x. peer x.0 (Accepted x.0.position x.1.0 x.1.1))
    (route_of (from, (to, p)), (b, c)) rest (routed from to p f t fit.0, (fit.1, fit.2))
peer_again from to (Ask p) rest f t fit = parts_again route_part (λ x. peer x (Ask x.position)) (route_of (from, (to, p))) rest (routed from to p f t fit)
peer_again from to (Give p c) rest f t fit = parts_again give_part (λ x. peer x.0 (Give x.0.position x.1)) (route_of (from, (to, p)), c) rest (routed from to p f t fit.0, fit.1)

-- ---- frames

started_part : Part (λ x. to_be_bytes w32 x.0 ++ to_be_bytes w64 x.1) (λ x. (is_position x.0 ≡ true) × (is_ballot x.1 ≡ true)) (position_at and ballot_at)
started_part = and_part position_part ballot_part

settled_part : Part (λ x. to_be_bytes w32 x.0 ++ outcome_encoding x.1) (λ x. (is_position x.0 ≡ true) × OutcomeFits x.1) (position_at and outcome_at)
settled_part = and_part position_part outcome_part

identity_part : Part (λ x. x.0 ∷ x.1.0 ∷ to_be_bytes w32 x.1.1)
    (λ x. (is_node_number x.0 ≡ true)
    × ((is_node_number x.1.0 ≡ true) × (nat_lt x.1.1 4294967296 ≡ true)))
    (node_at and node_at and number_at w32)
identity_part = and_part node_part (and_part node_part word_part)

again : (f : Frame) (rest : List ℕ) → FrameFieldsFit f → IsRead f rest
unfolding started_at settled_at identity_at
again (Peer m) rest fit = peer_again m.from m.to m.body rest fit.0 fit.1 fit.2
again (Submit c) rest fit = parts_again blob_command_part Submit c rest fit
again (Question q) rest fit = parts_again blob_question_part Question q rest fit
again Take rest fit = refl
again (Outcome id) rest fit = parts_again (octets_part 16) Outcome id rest fit
again CatchUp rest fit = refl
again Status rest fit = refl
again Compact rest fit = refl
again Identify rest fit = refl
again Report rest fit = refl
again (Done n) rest fit = parts_again word_part Done n rest fit
again (Started p b) rest fit = parts_again started_part (λ x. Started x.0 x.1) (p, b) rest fit
again (Settled p x) rest fit = parts_again settled_part (λ x. Settled x.0 x.1) (p, x) rest fit
again (Answer a) rest fit = parts_again answer_part Answer a rest fit
again Unknown rest fit = refl
again (NodeFault x) rest fit = parts_again node_fault_part NodeFault x rest tt
again (FrameFault x) rest fit = parts_again frame_fault_part FrameFault x rest tt
again (Prefix p) rest fit = parts_again prefix_part Prefix p rest fit
again (Identity n m g) rest fit = parts_again identity_part (λ x. Identity x.0 x.1.0 x.1.1) (n, (m, g)) rest (fit.0, (fit.1, fit.2))
again (Reported t) rest fit = parts_again blob32_part Reported t rest fit

empty : (f : Frame) (n : ℕ) → frame_fields f ≡ [] → FrameFieldsFit f → frame_kind f ≡ n → Case frame_kind frame_fields FrameFieldsFit n (bare f)
empty f n none fit is = bare_case f n none fit is

cases : AllByRecursion (λ row. Case frame_kind frame_fields FrameFieldsFit row.0 row.1) readers
unfolding prepare_at promise_at busy_at accept_at accepted_at ask_at give_at started_at settled_at identity_at
cases =
    case prepare_part (λ x. peer x.0 (Prepare x.0.position x.1)) 1 (λ x fit. ((fit.0.from, fit.0.to, (fit.0.position, fit.1)), refl, refl))
    also case promise_part (λ x. peer x.0 (Promise x.0.position x.1.0 x.1.1)) 2 (λ x fit. ((fit.0.from, fit.0.to, (fit.0.position, fit.1.0, fit.1.1)), refl, refl))
    also case busy_part (λ x. peer x.0 (Busy x.0.position x.1.0 x.1.1)) 3 (λ x fit. ((fit.0.from, fit.0.to, (fit.0.position, fit.1.0, fit.1.1)), refl, refl))
    also case accept_part (λ x. peer x.0 (Accept x.0.position x.1.0 x.1.1)) 4 (λ x fit. ((fit.0.from, fit.0.to, (fit.0.position, fit.1.0, fit.1.1)), refl, refl))
    also case accept_part (λ x. peer x.0 (Accepted x.0.position x.1.0 x.1.1)) 5 (λ x fit. ((fit.0.from, fit.0.to, (fit.0.position, fit.1.0, fit.1.1)), refl, refl))
    also case route_part (λ x. peer x (Ask x.position)) 6 (λ x fit. ((fit.from, fit.to, fit.position), refl, refl))
    also case give_part (λ x. peer x.0 (Give x.0.position x.1)) 7 (λ x fit. ((fit.0.from, fit.0.to, (fit.0.position, fit.1)), refl, refl))
    also case blob_command_part Submit 16 (λ x fit. (fit, refl, refl))
    also case blob_question_part Question 17 (λ x fit. (fit, refl, refl))
    also empty Take 18 refl tt refl
    also case (octets_part 16) Outcome 19 (λ x fit. (fit, refl, refl))
    also empty CatchUp 20 refl tt refl
    also empty Status 21 refl tt refl
    also empty Compact 22 refl tt refl
    also empty Identify 23 refl tt refl
    also empty Report 24 refl tt refl
    also case word_part Done 32 (λ x fit. (fit, refl, refl))
    also case started_part (λ x. Started x.0 x.1) 33 (λ x fit. (fit, refl, refl))
    also case settled_part (λ x. Settled x.0 x.1) 34 (λ x fit. (fit, refl, refl))
    also case answer_part Answer 35 (λ x fit. (fit, refl, refl))
    also empty Unknown 36 refl tt refl
    also case node_fault_part NodeFault 37 (λ x fit. (tt, refl, refl))
    also case frame_fault_part FrameFault 38 (λ x fit. (tt, refl, refl))
    also case prefix_part Prefix 39 (λ x fit. (fit, refl, refl))
    also case identity_part (λ x. Identity x.0 x.1.0 x.1.1) 40 (λ x fit. ((fit.0, fit.1.0, fit.1.1), refl, refl))
    also case blob32_part Reported 41 (λ x fit. (fit, refl, refl))
    also tt

-- the fields of one kind
pub frame_part : (kind : ℕ) → Part frame_fields (λ f. FrameFieldsFit f × (frame_kind f ≡ kind)) (fields_at kind)
unfolding fields_at
frame_part kind = fields_part (record { cases = cases; again = again }) kind
