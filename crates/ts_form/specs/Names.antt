-- The names of fields.
use Rattle.std.specs.Prelude.{ℕ, List, Option, Some, None, codes, if◌then◌else◌}
use Rattle.std.specs.Str.{bytes_eq}
use Rattle.ts_form.specs.declared.field.Field.{Field}
use Rattle.ts_form.specs.declared.field.Field.TheVariants.{Chain, At, K, Hard, Deltas, Explicit}
use Rattle.ts_form.specs.declared.field.Field.TheVariants.{NoMap, NoAny, Policies, Purpose, Anchor}
use Rattle.ts_form.specs.declared.field.Field.TheVariants.{From, Id}

abbrev pub name_of : Field → List ℕ
name_of Chain = codes "chain"
name_of At = codes "at"
name_of K = codes "k"
name_of Hard = codes "hard"
name_of Deltas = codes "deltas"
name_of Explicit = codes "explicit"
name_of NoMap = codes "nomap"
name_of NoAny = codes "noany"
name_of Policies = codes "policies"
name_of Purpose = codes "purpose"
name_of Anchor = codes "anchor"
name_of From = codes "from"
name_of Id = codes "id"

-- the field of a question that has a name
abbrev pub field_named : List ℕ → Option Field
field_named name =
    if bytes_eq name (codes "chain") then Some Chain
    else (if bytes_eq name (codes "at") then Some At
    else (if bytes_eq name (codes "k") then Some K
    else (if bytes_eq name (codes "hard") then Some Hard
    else (if bytes_eq name (codes "deltas") then Some Deltas
    else (if bytes_eq name (codes "explicit") then Some Explicit
    else (if bytes_eq name (codes "nomap") then Some NoMap
    else (if bytes_eq name (codes "noany") then Some NoAny
    else (if bytes_eq name (codes "policies") then Some Policies
    else (if bytes_eq name (codes "purpose") then Some Purpose
    else (if bytes_eq name (codes "anchor") then Some Anchor else None))))))))))
