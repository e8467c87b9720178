-- The commands that a store took, as rows.
use Rattle.std.specs.Prelude.{ℕ, List, [], ◌∷◌, ◌++◌, map, length}
use Rattle.sha2.specs.Sha256.{sha256}
use Rattle.ts_command.specs.Commands.{id_of, purposes_encoding}
use Rattle.ts_command.specs.declared.command.Command.{Command}
use Rattle.ts_command.specs.declared.command.Command.TheVariants.{AddAnchor, LoadCrl, DropCrl}
use Rattle.ts_command.specs.declared.command.Command.TheVariants.{WithdrawAnchor, SetPurposes, Noop}
use Rattle.ts_command.specs.declared.outcome.Outcome.{Outcome}
use Rattle.ts_command.specs.declared.outcome.Outcome.TheVariants.{Applied, Repeated, Refused}
use Rattle.ts_command.specs.Outcomes.{refusal_code}
use Rattle.ts_store.specs.Outcome.{outcome_after}
use Rattle.ts_question.specs.Rows.{CommandLine, command_encoding}
use Rattle.ts_listing.specs.Listing.{first_octets, narrow}

-- the octet of a command's kind
abbrev pub kind_of : Command → ℕ
kind_of (AddAnchor id certificate) = 1
kind_of (WithdrawAnchor id anchor) = 2
kind_of (LoadCrl id crl) = 3
kind_of (DropCrl id crl) = 4
kind_of (SetPurposes id anchor purposes) = 5
kind_of (Noop id) = 6

-- how many octets its certificate or its CRL has
abbrev pub size_of : Command → ℕ
size_of (AddAnchor id certificate) = narrow (length certificate)
size_of (LoadCrl id crl) = narrow (length crl)
size_of other = 0

-- the id of the anchor or of the CRL that it is about: the SHA-256 of what it loads
abbrev pub about_of : Command → List ℕ
about_of (AddAnchor id certificate) = sha256 certificate
about_of (WithdrawAnchor id anchor) = anchor
about_of (LoadCrl id crl) = sha256 crl
about_of (DropCrl id crl) = crl
about_of (SetPurposes id anchor purposes) = anchor
about_of (Noop id) = []

-- the purposes that it sets, as it writes them
abbrev pub purposes_set : Command → List ℕ
purposes_set (SetPurposes id anchor purposes) = purposes_encoding purposes
purposes_set other = []

-- 0 applied, 1 repeated, 2 refused
abbrev pub outcome_code : Outcome → ℕ
outcome_code Applied = 0
outcome_code (Repeated position) = 1
outcome_code (Refused refusal) = 2

-- the position of the first command of its id, or why it was refused
abbrev pub detail_of : Outcome → ℕ
detail_of Applied = 0
detail_of (Repeated position) = position
detail_of (Refused refusal) = refusal_code refusal

-- a command, and what it came to
abbrev pub command_row : Command → Outcome → CommandLine
command_row c o = record {
  id = id_of c;
  kind = kind_of c;
  size = size_of c;
  about = about_of c;
  purposes = first_octets (purposes_set c);
  outcome = outcome_code o;
  detail = detail_of o;
}

-- each command with what it came to after those before it
unfoldable pub log_from : List Command → List Command → List CommandLine
log_from before [] = []
log_from before (c ∷ cs) = command_row c (outcome_after before c) ∷ log_from (before ++ c ∷ []) cs

-- of all commands
abbrev pub log_of : List Command → List CommandLine
log_of commands = log_from [] commands

abbrev pub log_rows : List Command → List (List ℕ)
log_rows commands = map command_encoding (log_of commands)
