-- What a store holds, by its rows.
use Rattle.std.specs.Prelude.{◌≡◌, ◌⊎◌, ℕ, List, [], ◌∷◌}
use Rattle.ts_question.specs.Rows.{AnchorFits, AnchorLine, CrlFits, CrlLine}
use Rattle.ts_question.specs.Rows.{anchor_encoding, crl_encoding}
use Rattle.ts_sync.specs.Plan.{KeptIds, taken_by}
use Rattle.ts_sync.specs.declared.planning.StepKind.TheVariants.{Add, Load}

-- a row of a trust anchor or of a CRL says that its id is held, behind those before it
abbrev pub HoldsMore : List ℕ → KeptIds → KeptIds → Type 0
HoldsMore octets old new =
    ((line : AnchorLine) × AnchorFits line × (octets ≡ anchor_encoding line)
    × (new ≡ taken_by Add line.id old))
    ⊎ ((line : CrlLine) × CrlFits line × (octets ≡ crl_encoding line)
    × (new ≡ taken_by Load line.id old))

-- rows one after another
abbrev pub HoldsAll : List (List ℕ) → KeptIds → KeptIds → Type 0
HoldsAll [] old new = new ≡ old
HoldsAll (octets ∷ rows) old new = (mid : KeptIds) × HoldsMore octets old mid
    × HoldsAll rows mid new

-- octets are no row of a store
pub record IsNeither (octets : List ℕ) : Type 0 where
  pub no_anchor : (line : AnchorLine) → AnchorFits line → ¬ (octets ≡ anchor_encoding line)
  pub no_crl : (line : CrlLine) → CrlFits line → ¬ (octets ≡ crl_encoding line)

-- some of these are none
abbrev pub HasOther : List (List ℕ) → Type 0
HasOther [] = ⊥
HasOther (octets ∷ rows) = IsNeither octets ⊎ HasOther rows

-- nothing is held
abbrev pub nothing : KeptIds
nothing = record { anchors = []; crls = [] }
