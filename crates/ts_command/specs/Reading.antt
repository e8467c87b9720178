-- A command read from front to back.
use Rattle.std.specs.Prelude.{ℕ, List, [], ◌∷◌, Option, Some, None}
use Rattle.ts_codec.specs.Reading.{Reader, ◌that◌, ◌and◌, ◌then◌, ◌into◌, bare, octet_at, octets_at}
use Rattle.ts_codec.specs.Reading.{short_blob_at, oid_at, many_at, by_kind}
use Rattle.ts_command.specs.Purposes.{is_listed}
use Rattle.ts_command.specs.declared.command.Command.{Command}
use Rattle.ts_command.specs.declared.command.Command.TheVariants.{AddAnchor, LoadCrl, DropCrl}
use Rattle.ts_command.specs.declared.command.Command.TheVariants.{WithdrawAnchor, SetPurposes, Noop}
use Rattle.ts_command.specs.declared.kinds.TheConstants.{ADD_ANCHOR, WITHDRAW_ANCHOR, LOAD_CRL}
use Rattle.ts_command.specs.declared.kinds.TheConstants.{DROP_CRL, SET_PURPOSES, NOOP}
use Rattle.ts_command.specs.declared.kinds.TheConstants.{ANY_PURPOSE, LISTED}

unfoldable pub listed_at : Reader (List (List ℕ))
listed_at = (octet_at then many_at oid_at) that is_listed

unfoldable pub purposes_at : Reader (Option (List (List ℕ)))
purposes_at = by_kind ((ANY_PURPOSE, bare None) ∷ (LISTED, listed_at into Some) ∷ [])

-- the fields of each kind, of the command of an id
abbrev pub rows : List ℕ → List (ℕ × Reader Command)
rows id = (ADD_ANCHOR, short_blob_at 65536 into AddAnchor id)
    ∷ (WITHDRAW_ANCHOR, octets_at 32 into WithdrawAnchor id)
    ∷ (LOAD_CRL, short_blob_at 4194304 into LoadCrl id)
    ∷ (DROP_CRL, octets_at 32 into DropCrl id)
    ∷ (SET_PURPOSES, octets_at 32 and purposes_at into (λ x. SetPurposes id x.0 x.1))
    ∷ (NOOP, bare (Noop id)) ∷ []

unfoldable pub command_at : Reader Command
command_at = octets_at 16 then (λ id. by_kind (rows id))
