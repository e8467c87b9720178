-- What private clauses see of the place of the tables that a command changes, where it is applied.
use Rattle.std.specs.Prelude.{ℕ, List, Option, Some, None, if◌then◌else◌}
use Rattle.ts_crl.specs.List.{CertificateList}
use Rattle.ts_crl.specs.Profile.{is_delta}
use Rattle.ts_store.specs.Lists.{has_slot, has_id, place_by}
use Rattle.ts_store.specs.Tables.{Tables}
use Rattle.ts_store.specs.declared.taken.Kind.{Kind}
use Rattle.ts_store.specs.declared.taken.Kind.TheVariants.{Complete, Delta}
use Rattle.ts_store.specs.declared.taken.TableChange.{TableChange}
use Rattle.ts_store.specs.declared.taken.TableChange.TheVariants.{Nothing, RemovesAnchor}
use Rattle.ts_store.specs.declared.taken.TableChange.TheVariants.{SetsPurposes}
use Rattle.ts_store.specs.declared.taken.TableChange.TheVariants.{AddsCrl, PutsCrl, RemovesCrl}

-- the anchor at a place goes, if it is there
abbrev pub removal_at : Option ℕ → TableChange
removal_at None = Nothing
removal_at (Some i) = RemovesAnchor i

-- the anchor at a place gets purposes, if it is there
abbrev pub setting_at : Option ℕ → TableChange
setting_at None = Nothing
setting_at (Some i) = SetsPurposes i

-- a complete list goes, else a delta
abbrev pub crl_removal_at : Option ℕ → Option ℕ → TableChange
crl_removal_at (Some i) delta = RemovesCrl Complete i
crl_removal_at None (Some i) = RemovesCrl Delta i
crl_removal_at None None = Nothing

-- the list of an id goes
abbrev pub crl_removal_in : List ℕ → Tables → TableChange
crl_removal_in id tables = crl_removal_at (place_by (has_id id) tables.complete)
    (place_by (has_id id) tables.deltas)

-- a list goes to the place of the one of its slot, else behind all of its kind
abbrev pub crl_change_at : Kind → Option ℕ → TableChange
crl_change_at kind None = AddsCrl kind
crl_change_at kind (Some i) = PutsCrl kind i

-- a list goes among the deltas where it is one, else among the complete lists
abbrev pub crl_change_in : CertificateList → Tables → TableChange
crl_change_in new tables =
    if is_delta new
    then crl_change_at Delta (place_by (has_slot new) tables.deltas)
    else crl_change_at Complete (place_by (has_slot new) tables.complete)
