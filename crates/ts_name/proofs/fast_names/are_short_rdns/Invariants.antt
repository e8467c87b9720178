use Rattle.std.proofs.Common.{◌≡◌, List, length, true}
use Rattle.ts_der.specs.Text.{is_ascii}
use Rattle.ts_name.specs.Canon.{Attr}
use Rattle.ts_name.specs.NameEncoding.{IsName}
use Rattle.ts_name.proofs.fast_names.are_short_rdns.Given as goal

-- what is left is ASCII, and a name where it is one
abbrev pub invariant-loop-rest : goal.invariant-loop-rest
invariant-loop-rest l =
    (is_ascii l.rest ≡ true)
    × ((rdns : List (List Attr)) → IsName l.rest rdns → (all : List (List Attr)) × IsName l.content all)

abbrev pub decreases-loop-rest : goal.decreases-loop-rest
decreases-loop-rest l = length l.rest
