-- What a node knows of a peer, by what came on the connection to it. Moments are milliseconds.
use Rattle.std.specs.Prelude.{ℕ, Bool, true, false, not, ◌+◌, ◌-◌, ◌^◌, ◌&&◌, ◌||◌, min, nat_le}
use Rattle.std.specs.Prelude.{if◌then◌else◌}
use Rattle.ts_carrier.specs.Dial.{is_silent}
use Rattle.ts_carrier.specs.declared.contact.Contact.{Contact}
use Rattle.ts_carrier.specs.declared.contact.ContactEnd.{ContactEnd}
use Rattle.ts_carrier.specs.declared.contact.ContactEnd.TheVariants.{Lost, Quiet, Unanswered}

-- nothing is known
abbrev pub new_contact : Contact
new_contact = record {
  prefix = 0;
  heard = 0;
  asked = 0;
  sent = 0;
  is_met = false;
  is_known = false;
  is_told = false;
}

-- There is a connection, and the peer is asked which node it is. What it said on one before counts
-- no longer, but how many commands it knows.
abbrev pub after_reach : Contact → ℕ → Contact
after_reach contact now = record contact {
  heard = now;
  asked = now;
  sent = 0;
  is_met = false;
  is_known = false;
}

-- octets came from it
abbrev pub after_octets : Contact → ℕ → Contact
after_octets contact now = record contact { heard = now; sent = 0 }

-- so many octets were written to it
abbrev pub after_write : Contact → ℕ → Contact
after_write contact count = record contact { sent = min (contact.sent + count) (2 ^ 64 - 1) }

-- it is silent for too long
abbrev pub is_mute : Contact → ℕ → Bool
is_mute contact now = is_silent contact.heard contact.sent now

-- It is asked how many commands it knows: it is the node that is meant, was asked last a second
-- ago, and has been heard since.
abbrev pub is_to_ask : Contact → ℕ → Bool
is_to_ask contact now =
    contact.is_met && nat_le 1000 (now - contact.asked) && nat_le contact.asked contact.heard

-- it has said how many commands it knows
abbrev pub after_prefix : Contact → ℕ → Contact
after_prefix contact prefix = record contact { prefix = prefix; is_known = true; is_told = false }

-- it does not answer: there was a connection, on which it did not say how many commands it knows,
-- and this was not said before
abbrev pub is_unanswered : Contact → Bool → Bool
is_unanswered contact was_up = not contact.is_known && was_up && not contact.is_told

-- what the end of a connection says
abbrev pub end_of : Contact → Bool → ContactEnd
end_of contact was_up = if contact.is_known then Lost
    else (if is_unanswered contact was_up then Unanswered else Quiet)

-- what is known then
abbrev pub after_end : Contact → Bool → Contact
after_end contact was_up = record contact {
  is_met = false;
  is_known = false;
  is_told = contact.is_told || is_unanswered contact was_up;
}
