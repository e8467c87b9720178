-- What a frame hands to a node fits a record.
use Rattle.std.proofs.Common.{◌≡◌, ℕ, ◌%◌, ◌&&◌, true}
use Rattle.std.proofs.lemmas.Bool.{leb-true, ltb-true}
use Rattle.std.specs.Prelude.{nat_le, nat_lt}
use Rattle.ts_synod.specs.declared.message.Body.{Body}
use Rattle.ts_synod.specs.declared.message.Body.TheVariants.{Accept, Accepted, Ask, Busy, Give, Prepare, Promise}
use Rattle.ts_synod.specs.declared.message.Message.{Message}
use Rattle.ts_command.specs.declared.command.Command.{Command}
use Rattle.ts_record.specs.Facts.{IsBallot, IsPosition}
use Rattle.ts_node.specs.Inputs.{BodyFits}
use Rattle.ts_command.specs.Octets.{octets_of}
use Rattle.ts_serve.proofs.Commands.{command_short}
use Rattle.ts_codec.specs.Ranges.{is_ballot, is_node_number, is_position}
use Rattle.ts_codec.proofs.Truths.{first_true, second_true}
use Rattle.ts_wire.specs.Frames.{BodyFits as FieldsFit, FrameFits}
use Rattle.ts_wire.specs.declared.frame.Frame.TheVariants.{Peer}

position : (p : ℕ) → is_position p ≡ true → IsPosition p
position p is = record { from = leb-true 1 p (first_true (nat_le 1 p) (nat_le p 1000000) is); to = leb-true p 1000000 (second_true (nat_le 1 p) (nat_le p 1000000) is) }

ballot : (b : ℕ) → is_ballot b ≡ true → IsBallot b
ballot b is =
    let low = first_true (nat_le 16 b && nat_lt b 68719476736) (is_node_number (b % 16)) is in
    let node = second_true (nat_le 16 b && nat_lt b 68719476736) (is_node_number (b % 16)) is in
    record {
      from = leb-true 16 b (first_true (nat_le 16 b) (nat_lt b 68719476736) low);
      to = ltb-true b 68719476736 (second_true (nat_le 16 b) (nat_lt b 68719476736) low);
      node_from = leb-true 1 (b % 16) (first_true (nat_le 1 (b % 16)) (nat_le (b % 16) 9) node);
      node_to = leb-true (b % 16) 9 (second_true (nat_le 1 (b % 16)) (nat_le (b % 16) 9) node);
    }

body_fits : (b : Body Command) → FieldsFit b → BodyFits octets_of b
body_fits (Prepare p b) fits = (position p fits.0, ballot b fits.1)
body_fits (Promise p b taken) fits = tt
body_fits (Busy p b promised) fits = tt
body_fits (Accept p b c) fits = (position p fits.0, ballot b fits.1, command_short c fits.2)
body_fits (Accepted p b c) fits = (position p fits.0, command_short c fits.2)
body_fits (Ask p) fits = tt
body_fits (Give p c) fits = (position p fits.0, command_short c fits.1)

pub message_fits : (m : Message Command) → FrameFits (Peer m) → BodyFits octets_of m.body
message_fits m fits = body_fits m.body fits.ranges.2
