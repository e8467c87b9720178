-- The octets of a command in a record: its one encoding. A value that is no command of a store, as
-- one whose id has not 16 octets, has none.
use Rattle.std.specs.Prelude.{ℕ, Bool, true, ◌&&◌, ◌==◌, nat_le, List, [], length, Option, Some}
use Rattle.std.specs.Prelude.{None, if◌then◌else◌}
use Rattle.std.specs.List.{list_all}
use Rattle.ts_der.specs.ObjectIdentifier.{is_oid}
use Rattle.ts_command.specs.Commands.{id_of, command_encoding}
use Rattle.ts_command.specs.Purposes.{is_listed}
use Rattle.ts_command.specs.declared.command.Command.{Command}
use Rattle.ts_command.specs.declared.command.Command.TheVariants.{AddAnchor, LoadCrl, DropCrl}
use Rattle.ts_command.specs.declared.command.Command.TheVariants.{WithdrawAnchor, SetPurposes, Noop}

abbrev pub are_purposes : Option (List (List ℕ)) → Bool
are_purposes None = true
are_purposes (Some oids) = is_listed oids && list_all is_oid oids

-- the fields are within their limits (`CommandFieldsFit`, as a test)
abbrev pub are_fields : Command → Bool
are_fields (AddAnchor id certificate) = nat_le (length certificate) 65536
are_fields (WithdrawAnchor id anchor) = length anchor == 32
are_fields (LoadCrl id crl) = nat_le (length crl) 4194304
are_fields (DropCrl id crl) = length crl == 32
are_fields (SetPurposes id anchor purposes) = (length anchor == 32) && are_purposes purposes
are_fields (Noop id) = true

-- the id has 16 octets, and the fields are within their limits (`CommandFits`, as a test)
abbrev pub is_command : Command → Bool
is_command command = (length (id_of command) == 16) && are_fields command

unfoldable pub octets_of : Command → List ℕ
octets_of command = if is_command command then command_encoding command else []
