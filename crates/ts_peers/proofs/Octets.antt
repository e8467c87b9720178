-- What the octets of a frame begin with, and what they say.
use Rattle.std.proofs.Common.{◌≡◌, ◌<◌, ◌+◌, ◌/◌, ◌%◌, ◌^◌, ◌∙◌, ℕ, List, [], ◌∷◌, ◌++◌, length, take, Some, None, refl, ap, sym, subst, rules, arith, length-append}
use Rattle.std.specs.Int.{w32, to_be_bytes, from_be_bytes}
use Rattle.std.specs.Prelude.{nat_le, true, if◌then◌else◌}
use Rattle.std.proofs.lemmas.Nat.{from_be_bytes-to_be_bytes_4}
use Rattle.std.proofs.Math.Seq.{take-append_seam}
use Rattle.std.proofs.lemmas.Bool.Decides.{nat_tests}
use Rattle.ts_carrier.specs.Event.{whole_frame, event_of, number_of}
use Rattle.ts_command.specs.declared.command.Command.{Command}
use Rattle.ts_synod.specs.declared.message.Body.{Body}
use Rattle.ts_synod.specs.declared.message.Body.TheVariants.{Prepare, Promise, Busy, Accept, Accepted, Ask, Give}
use Rattle.ts_wire.specs.Frames.{FrameFits, body_encoding, body_kind, frame_encoding, frame_fields, frame_kind}
use Rattle.ts_wire.specs.declared.frame.Frame.{Frame}
use Rattle.ts_wire.specs.declared.frame.Frame.TheVariants.{Peer, Submit, Question, Take, Outcome}
use Rattle.ts_wire.specs.declared.frame.Frame.TheVariants.{CatchUp, Status, Compact, Done, Started}
use Rattle.ts_wire.specs.declared.frame.Frame.TheVariants.{Settled, Answer, Unknown, NodeFault}
use Rattle.ts_wire.specs.declared.frame.Frame.TheVariants.{FrameFault, Prefix, Identify, Identity}
use Rattle.ts_wire.specs.declared.frame.Frame.TheVariants.{Report, Reported}
use Rattle.ts_peers.specs.Events.{event_in, message_event}

-- ---- the length in front says how many octets follow

four : (a b c d : ℕ) → from_be_bytes w32 (a ∷ b ∷ c ∷ d ∷ []) ≡ number_of a b c d
four a b c d = search rules

again : (n : ℕ) → n < 2 ^ 32 → number_of (n / 16777216 % 256) (n / 65536 % 256) (n / 256 % 256) (n % 256) ≡ n
again n small = sym (four (n / 16777216 % 256) (n / 65536 % 256) (n / 256 % 256) (n % 256)) ∙ from_be_bytes-to_be_bytes_4 n small

enough : (xs rest : List ℕ) → nat_le (length xs) (length (xs ++ rest)) ≡ true
enough xs rest = grind (arith, nat_tests, length-append xs rest)

front : (a b c d : ℕ) (xs rest : List ℕ) → take (4 + length xs) (a ∷ b ∷ c ∷ d ∷ (xs ++ rest)) ≡ a ∷ b ∷ c ∷ d ∷ xs
front a b c d xs rest =
    let count : length (a ∷ b ∷ c ∷ d ∷ xs) ≡ 4 + length xs = omega arith in
    subst (λ n. take n (a ∷ b ∷ c ∷ d ∷ (xs ++ rest)) ≡ a ∷ b ∷ c ∷ d ∷ xs) count (take-append_seam (a ∷ b ∷ c ∷ d ∷ xs) rest)

whole_at : (a b c d : ℕ) (xs rest : List ℕ) → number_of a b c d ≡ length xs → whole_frame (a ∷ b ∷ c ∷ d ∷ (xs ++ rest)) ≡ Some (a ∷ b ∷ c ∷ d ∷ xs)
whole_at a b c d xs rest is =
    subst (λ n. (if nat_le n (length (xs ++ rest)) then Some (take (4 + n) (a ∷ b ∷ c ∷ d ∷ (xs ++ rest))) else None) ≡ Some (a ∷ b ∷ c ∷ d ∷ xs)) (sym is)
    (rw (enough xs rest) (ap Some (front a b c d xs rest)))

whole : (n : ℕ) (xs rest : List ℕ) → n < 2 ^ 32 → n ≡ length xs → whole_frame ((to_be_bytes w32 n ++ xs) ++ rest) ≡ Some (to_be_bytes w32 n ++ xs)
whole n xs rest small is = whole_at (n / 16777216 % 256) (n / 65536 % 256) (n / 256 % 256) (n % 256) xs rest (again n small ∙ is)

pub one_frame : (f : Frame) (rest : List ℕ) → FrameFits f → whole_frame (frame_encoding f ++ rest) ≡ Some (frame_encoding f)
one_frame f rest fits = whole (2 + length (frame_fields f)) (2 ∷ frame_kind f ∷ frame_fields f) rest (omega (arith, fits.short)) (omega arith)

-- ---- the kind behind it says what the frame says

pub message_says : (n from : ℕ) (rest : List ℕ) (body : Body Command) → event_of (to_be_bytes w32 n ++ (2 ∷ body_kind body ∷ from ∷ rest)) ≡ message_event body from
message_says n from rest (Prepare position ballot) = refl
message_says n from rest (Promise position ballot taken) = refl
message_says n from rest (Busy position ballot promised) = refl
message_says n from rest (Accept position ballot command) = refl
message_says n from rest (Accepted position ballot command) = refl
message_says n from rest (Ask position) = refl
message_says n from rest (Give position command) = refl

pub frame_says : (f : Frame) → event_of (frame_encoding f) ≡ event_in f
frame_says (Peer message) = message_says (2 + length (frame_fields (Peer message))) message.from (message.to ∷ body_encoding message.body) message.body
frame_says (Submit command) = refl
frame_says (Question question) = refl
frame_says Take = refl
frame_says (Outcome id) = refl
frame_says CatchUp = refl
frame_says Status = refl
frame_says Compact = refl
frame_says Identify = refl
frame_says Report = refl
frame_says (Done count) = refl
frame_says (Started position ballot) = refl
frame_says (Settled position outcome) = refl
frame_says (Answer answer) = refl
frame_says Unknown = refl
frame_says (NodeFault fault) = refl
frame_says (FrameFault fault) = refl
frame_says (Prefix prefix) = refl
frame_says (Identity node nodes group) = refl
frame_says (Reported text) = refl
