-- Extensions of a certificate that break no rule (RFC 5280 4.2).
use Rattle.std.specs.Prelude.{◌≡◌, ℕ, false, Bool, List, [], ◌∷◌, None}
use Rattle.ts_shape.specs.Fields.{Within}
use Rattle.ts_shape.specs.Repeats.{HaveEnds, is_among, first_repeated}
use Rattle.ts_ext.specs.declared.known.Holder.TheVariants.{Certificate}
use Rattle.ts_extensions.specs.Extension.{Extension, IsExtension, AreExtensions}
use Rattle.ts_extensions.specs.ValueRules.{IsValid, AreValid}

-- octets are an Extension with a value that breaks no rule, and with an object identifier of which
-- this holds
abbrev pub IsValidAs : (List ℕ → Type 0) → List ℕ → Type 0
IsValidAs Has item = (x : Extension) × Within 0x30 IsExtension item x × IsValid Certificate x
    × Has x.extnID

-- it is 2.5.29 and this arc
abbrev pub IsValidUnder : ℕ → List ℕ → Type 0
IsValidUnder arc = IsValidAs (λ id. id ≡ 0x55 ∷ 0x1D ∷ arc ∷ [])

-- it is none of the keys whose ends were met before, and its own end is met then
abbrev pub IsNewKey : List Bool → List Bool → List ℕ → Type 0
IsNewKey before after id = (keys : List (List ℕ)) → HaveEnds keys before
    → (is_among id keys ≡ false) × HaveEnds (id ∷ keys) after

abbrev pub IsValidAndNew : List Bool → List Bool → List ℕ → Type 0
IsValidAndNew before after = IsValidAs (IsNewKey before after)

-- octets are Extensions of which none occurs twice, and each breaks no rule
abbrev pub AreValidOnce : List ℕ → Type 0
AreValidOnce content = (xs : List Extension) × AreExtensions content xs
    × (first_repeated (λ x. x.extnID) [] xs ≡ None) × AreValid Certificate xs
