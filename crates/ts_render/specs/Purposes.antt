-- The fields of purposes, by the octets in which a row has them.
use Rattle.std.specs.Prelude.{◌≡◌, ℕ, List, [], ◌∷◌, ◌++◌, Option, Some, None, map, replicate}
use Rattle.std.specs.Prelude.{string_bytes}
use Rattle.ts_command.specs.Commands.{purposes_encoding}
use Rattle.ts_command.specs.Purposes.{ArePurposes as MayBeSet}
use Rattle.ts_command.specs.declared.command.Command.{Command}
use Rattle.ts_command.specs.declared.command.Command.TheVariants.{SetPurposes}
use Rattle.ts_line.specs.Names.{dotted_form}
use Rattle.ts_render.specs.declared.rows.PurposeFields.{PurposeFields}
use Rattle.ts_render.specs.declared.rows.PurposeFields.TheVariants.{Any, These, Unknown}

-- the fields of purposes, as a command has them: none for any, or object identifiers
abbrev pub AreTold : Option (List (List ℕ)) → PurposeFields → Type 0
AreTold None Any = Unit {0}
AreTold (Some oids) (These texts) = map string_bytes texts.items ≡ map dotted_form oids
AreTold purposes fields = ⊥

-- those that a command sets; unknown where it sets none
abbrev pub AreToldBy : Command → PurposeFields → Type 0
AreToldBy (SetPurposes id anchor purposes) fields = AreTold purposes fields
AreToldBy command fields = fields ≡ Unknown

-- the octets of a command that sets these purposes
abbrev pub setting : List ℕ → List ℕ
setting octets = replicate 16 0 ++ (5 ∷ (replicate 32 0 ++ octets))

-- the fields of purposes in octets; unknown where the octets are none that a command may set
abbrev pub ArePurposes : List ℕ → PurposeFields → Type 0
ArePurposes octets Unknown = (purposes : Option (List (List ℕ))) → MayBeSet purposes
    → ¬ (octets ≡ purposes_encoding purposes)
ArePurposes octets fields = (purposes : Option (List (List ℕ)))
    × (octets ≡ purposes_encoding purposes) × AreTold purposes fields

-- the purposes that a command sets, if it does
abbrev pub AreSet : List ℕ → Option PurposeFields → Type 0
AreSet [] fields = fields ≡ None
AreSet (octet ∷ octets) None = ⊥
AreSet (octet ∷ octets) (Some fields) = ArePurposes (octet ∷ octets) fields
