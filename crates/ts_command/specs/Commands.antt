-- Commands of a trust store, how they are encoded, and which have an encoding.
use Rattle.std.specs.Prelude.{◌≡◌, ◌≤◌, ℕ, List, [], ◌∷◌, ◌++◌, length, Option, Some, None}
use Rattle.std.specs.List.{flat_map}
use Rattle.ts_codec.specs.Parts.{blob8, blob32}
use Rattle.ts_command.specs.Purposes.{ArePurposes}
use Rattle.ts_command.specs.declared.command.Command.{Command}
use Rattle.ts_command.specs.declared.command.Command.TheVariants.{AddAnchor, LoadCrl, DropCrl}
use Rattle.ts_command.specs.declared.command.Command.TheVariants.{WithdrawAnchor, SetPurposes, Noop}

-- 00 for any; else 01, an octet of their number, and the contents octets of each
abbrev pub purposes_encoding : Option (List (List ℕ)) → List ℕ
purposes_encoding None = 0 ∷ []
purposes_encoding (Some oids) = 1 ∷ length oids ∷ flat_map blob8 oids

-- the octet of the kind
abbrev pub command_kind : Command → ℕ
command_kind (AddAnchor id certificate) = 1
command_kind (WithdrawAnchor id anchor) = 2
command_kind (LoadCrl id crl) = 3
command_kind (DropCrl id crl) = 4
command_kind (SetPurposes id anchor purposes) = 5
command_kind (Noop id) = 6

-- what follows the kind
abbrev pub content : Command → List ℕ
content (AddAnchor id certificate) = blob32 certificate
content (WithdrawAnchor id anchor) = anchor
content (LoadCrl id crl) = blob32 crl
content (DropCrl id crl) = crl
content (SetPurposes id anchor purposes) = anchor ++ purposes_encoding purposes
content (Noop id) = []

-- the octet of the kind, and the fields
abbrev pub command_fields : Command → List ℕ
command_fields command = command_kind command ∷ content command

-- the id that the client chose
abbrev pub id_of : Command → List ℕ
id_of (AddAnchor id certificate) = id
id_of (WithdrawAnchor id anchor) = id
id_of (LoadCrl id crl) = id
id_of (DropCrl id crl) = id
id_of (SetPurposes id anchor purposes) = id
id_of (Noop id) = id

-- the id, and what it is about
abbrev pub command_encoding : Command → List ℕ
command_encoding command = id_of command ++ command_fields command

-- the fields are within their limits
abbrev pub CommandFieldsFit : Command → Type 0
CommandFieldsFit (AddAnchor id certificate) = length certificate ≤ 65536
CommandFieldsFit (WithdrawAnchor id anchor) = length anchor ≡ 32
CommandFieldsFit (LoadCrl id crl) = length crl ≤ 4194304
CommandFieldsFit (DropCrl id crl) = length crl ≡ 32
CommandFieldsFit (SetPurposes id anchor purposes) = (length anchor ≡ 32) × ArePurposes purposes
CommandFieldsFit (Noop id) = Unit {0}

-- 16 octets of id, and fields within their limits
pub record CommandFits (command : Command) : Type 0 where
  pub id : length (id_of command) ≡ 16
  pub fields : CommandFieldsFit command
