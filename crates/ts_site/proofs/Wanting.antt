-- What the pairs of a target come to: which rows are wanted, and which command is named. That there
-- are too many is never why one of them is refused.
use Rattle.std.proofs.Common.{List, [], ◌∷◌, ℕ, inl, inr, Option, Some, None, Result, Ok, Err, IfOk, IfErr}
use Rattle.std.specs.Prelude.{MatchOption}
use Rattle.ts_form.specs.Pairs.{AreFew, NamedValue}
use Rattle.ts_form.specs.Rows.{IsRefusedIn, IsRefusedInAll, NameId, SetsAll, no_rows}
use Rattle.ts_form.specs.declared.fault.FormFault.{FormFault}
use Rattle.ts_form.specs.declared.fault.FormFault.TheVariants as faults
use Rattle.ts_form.specs.declared.field.Field.{Field}
use Rattle.ts_form.specs.declared.field.Field.TheVariants as fields
use Rattle.ts_form.specs.declared.rows.RowsWanted.{RowsWanted}
use Rattle.ts_api.specs.Asking.{pairs_in}
use Rattle.ts_site.specs.Listings.{AreWanted}
use Rattle.ts_site.specs.Statuses.{IsNamed}

not_many_in : (field : Field) (text : List ℕ) (old : RowsWanted) → IsRefusedIn field text old faults.Many → ⊥
not_many_in fields.Chain text old is = is
not_many_in fields.At text old is = is
not_many_in fields.K text old is = is
not_many_in fields.Hard text old is = is
not_many_in fields.Deltas text old is = is
not_many_in fields.Explicit text old is = is
not_many_in fields.NoMap text old is = is
not_many_in fields.NoAny text old is = is
not_many_in fields.Policies text old is = is
not_many_in fields.Purpose text old is = is
not_many_in fields.Anchor text old is = is
not_many_in fields.From text old is = is
not_many_in fields.Id text old is = is

not_many : (pairs : List NamedValue) (old : RowsWanted) → IsRefusedInAll pairs old faults.Many → ⊥
not_many [] old is = is
not_many (pair ∷ pairs) old (inl is) = not_many_in is.field pair.1 old is.refused
not_many (pair ∷ pairs) old (inr is) = not_many pairs is.0 is.2

-- few pairs are wanted, or one of them is refused
pub are_wanted : (r : Result RowsWanted FormFault) (pairs : List NamedValue) → AreFew pairs
    → IfOk r (SetsAll pairs no_rows) → IfErr r (IsRefusedInAll pairs no_rows) → AreWanted pairs r
are_wanted (Ok wanted) pairs few sets refused = (few, sets)
are_wanted (Err faults.Memory) pairs few sets refused = (few, refused)
are_wanted (Err faults.Json) pairs few sets refused = (few, refused)
are_wanted (Err faults.Many) pairs few sets refused = absurd (not_many pairs no_rows refused)
are_wanted (Err faults.Name) pairs few sets refused = (few, refused)
are_wanted (Err (faults.Value field)) pairs few sets refused = (few, refused)
are_wanted (Err (faults.Twice field)) pairs few sets refused = (few, refused)

-- a command is named, or none is
pub is_named : (o : Option (List ℕ)) (target : List ℕ)
    → MatchOption o ((id : List ℕ) → ¬ (NameId (pairs_in target) id)) (NameId (pairs_in target))
    → IsNamed target o
is_named (Some id) target is = is
is_named None target is = is
