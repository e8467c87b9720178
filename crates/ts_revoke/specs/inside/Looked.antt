-- What is kept of a list for the second look at it.
use Rattle.std.specs.Prelude.{◌≡◌, ℕ, ◌<◌, true, false, List, length, get_or}
use Rattle.ts_crl.specs.declared.crl.Crl.{Crl}
use Rattle.ts_crl.specs.List.{CertificateList}
use Rattle.ts_crl.specs.ListView.{crl_in}
use Rattle.ts_revoke.specs.declared.looked.Looked.{Looked}
use Rattle.ts_revoke.specs.declared.looked.Looked.TheVariants.{NotYet, Refused, Serves, Searched}
use Rattle.ts_revoke.specs.Decision.{revoking}
use Rattle.ts_revoke.specs.Listed.{listed}
use Rattle.ts_revoke.specs.Question.{StatusQuestion}
use Rattle.ts_revoke.specs.Usable.{serves}

-- what is known of a list is true of it
abbrev pub IsLooked : StatusQuestion → CertificateList → Looked → Type 0
IsLooked q l NotYet = Unit {0}
IsLooked q l Refused = serves q l ≡ false
IsLooked q l Serves = serves q l ≡ true
IsLooked q l (Searched reason) = (serves q l ≡ true) × (reason ≡ revoking (listed q l))

-- what a table holds is true of the list at the same place; beyond its end nothing is known
abbrev pub AreLooked : StatusQuestion → List Crl → List Looked → Type 0
AreLooked q lists table = (i : ℕ) (d : Crl) → i < length lists
    → IsLooked q (crl_in (get_or lists i d)) (get_or table i NotYet)
