-- A name and a value, each a text.
use Rattle.std.specs.Prelude.{◌≡◌, ◌≤◌, ◌<◌, ◌⊎◌, ◌++◌, ◌∷◌, ℕ, List, [], length, map, string_bytes}
use Rattle.std.specs.Prelude.{if◌then◌else◌, nat_le}
use Rattle.std.specs.Str.Lossy.{utf8_lossy}
use Rattle.form_urlencoded.specs.Form.{decode, raw_pairs}
use Rattle.ts_form.specs.declared.fault.FormFault.{FormFault}
use Rattle.ts_form.specs.declared.fault.FormFault.TheVariants as faults
use Rattle.ts_form.specs.declared.pair.Pair.{Pair}

abbrev pub NamedValue : Type 0
NamedValue = List ℕ × List ℕ

abbrev pub pair_in : Pair → NamedValue
pair_in pair = (string_bytes pair.name, string_bytes pair.value)

-- a pair of a form without its escapes (URL Standard 5.1)
abbrev pub decode_pair : NamedValue → NamedValue
decode_pair pair = (utf8_lossy (decode pair.0), utf8_lossy (decode pair.1))

-- the pairs of octets in this form
abbrev pub pairs_of : List ℕ → List NamedValue
pairs_of octets = map decode_pair (raw_pairs octets)

-- ---- how many are taken

-- there are at most 256
abbrev pub AreFew : List NamedValue → Type 0
AreFew pairs = length pairs ≤ 256

-- there are more than 256
abbrev pub AreMany : List NamedValue → Type 0
AreMany pairs = 256 < length pairs

-- memory was refused, or there are more than 256
abbrev pub IsMany : List NamedValue → FormFault → Type 0
IsMany pairs faults.Memory = Unit {0}
IsMany pairs faults.Many = AreMany pairs
IsMany pairs fault = ⊥

-- one more pair behind others, unless these are more than 256 already
abbrev pub with_pair : List NamedValue → NamedValue → List NamedValue
with_pair pairs pair = if nat_le (length pairs) 256 then pairs ++ pair ∷ [] else pairs

-- ---- pairs, one after another, each in what those before have left

-- what each of them sets
abbrev pub SetsEach : {W : Type 0} → (NamedValue → W → W → Type 0) → List NamedValue → W → W
    → Type 0
SetsEach Sets [] old new = new ≡ old
SetsEach {W} Sets (pair ∷ pairs) old new =
    (mid : W) × Sets pair old mid × SetsEach Sets pairs mid new

-- why the first of them is refused that is refused
abbrev pub IsFirstRefused : {W : Type 0} → (NamedValue → W → W → Type 0)
    → (NamedValue → W → FormFault → Type 0) → List NamedValue → W → FormFault → Type 0
IsFirstRefused Sets IsRefused [] old fault = ⊥
IsFirstRefused {W} Sets IsRefused (pair ∷ pairs) old fault = IsRefused pair old fault
    ⊎ ((mid : W) × Sets pair old mid × IsFirstRefused Sets IsRefused pairs mid fault)
