-- A file of keys: which key a line names, and what the lines of a text say.
use Rattle.std.specs.Prelude.{◌≡◌, ◌≢◌, ◌⊎◌, ◌≤◌, ◌<◌, ◌+◌, ◌^◌, ℕ, Bool, true, false, nat_eq}
use Rattle.std.specs.Prelude.{◌-◌, List, [], ◌∷◌, ◌++◌, codes, length, Option, Some, None, Ok}
use Rattle.std.specs.Prelude.{if◌then◌else◌}
use Rattle.std.specs.Fmt.{decimal}
use Rattle.hex.specs.Hex.{decode_sized, encode_lower}
use Rattle.ts_literal.specs.Literals.{IsNumber}
use Rattle.ts_access.specs.Pieces.{lines_of, words_of}
use Rattle.ts_access.specs.declared.fault.KeysFault.{KeysFault}
use Rattle.ts_access.specs.declared.fault.KeysFault.TheVariants as faults
use Rattle.ts_access.specs.declared.key.Key.{Key}
use Rattle.ts_access.specs.declared.key.Role.{Role}
use Rattle.ts_access.specs.declared.key.Role.TheVariants.{Peer, Admin, Reader}

-- the first key of this number
abbrev pub key_found : List Key → ℕ → Option Key
key_found [] id = None
key_found (key ∷ keys) id = if nat_eq key.id id then Some key else key_found keys id

-- nodes have the numbers 1 to 9, and each is written as its digit
abbrev pub IsNode : ℕ → Type 0
IsNode node = (1 ≤ node) × (node ≤ 9)

abbrev pub node_word : ℕ → List ℕ
node_word node = (48 + node) ∷ []

-- the words of a role
abbrev pub role_words : Role → List (List ℕ)
role_words (Peer node) = codes "peer" ∷ node_word node ∷ []
role_words Admin = codes "admin" ∷ []
role_words Reader = codes "reader" ∷ []

abbrev pub IsRole : Role → Type 0
IsRole (Peer node) = IsNode node
IsRole role = Unit {0}

-- 64 hexadecimal digits
abbrev pub IsSecret : List ℕ → List ℕ → Type 0
IsSecret word secret = decode_sized word 32 ≡ Ok secret

-- a line names a key: its number, its role, its secret
pub record IsKeyLine (line : List ℕ) (key : Key) : Type 0 where
  pub id : List ℕ
  pub digits : List ℕ
  pub words : words_of line ≡ id ∷ (role_words key.role ++ digits ∷ [])
  pub number : IsNumber id key.id
  pub role : IsRole key.role
  pub secret : IsSecret digits key.secret

-- a line is skipped: it is empty, or a remark, which begins with '#'
abbrev pub is_skipped : List ℕ → Bool
is_skipped [] = true
is_skipped (octet ∷ octets) = nat_eq octet 35

-- a line adds the key that it names, which has a new number, to the keys before it
pub record Names (before : List Key) (line : List ℕ) (after : List Key) : Type 0 where
  pub said : is_skipped line ≡ false
  pub key : Key
  pub is : IsKeyLine line key
  pub new : key_found before key.id ≡ None
  pub few : length before < 4096
  pub added : after ≡ before ++ key ∷ []

abbrev pub AddsLine : List Key → List ℕ → List Key → Type 0
AddsLine before line after = ((is_skipped line ≡ true) × (after ≡ before)) ⊎ Names before line after

-- lines add keys, one after another
abbrev pub Adds : List Key → List (List ℕ) → List Key → Type 0
Adds before [] after = after ≡ before
Adds before (line ∷ lines) after = (mid : List Key) × AddsLine before line mid
    × Adds mid lines after

-- why a line adds none: it names no key; its key's number was named; there are enough keys
abbrev pub IsWrongLine : List Key → List ℕ → ℕ → KeysFault → Type 0
IsWrongLine before line n (faults.Line number) = (number ≡ n) × (is_skipped line ≡ false)
    × ((key : Key) → ¬ (IsKeyLine line key))
IsWrongLine before line n (faults.Twice id) = (is_skipped line ≡ false) × (key : Key)
    × IsKeyLine line key × (key.id ≡ id) × (key_found before id ≢ None)
IsWrongLine before line n faults.TooMany = (is_skipped line ≡ false) × (key : Key)
    × IsKeyLine line key × (key_found before key.id ≡ None) × (4096 ≤ length before)
IsWrongLine before line n faults.Memory = Unit {0}

-- the lines before, from the first on, added these keys, and this one adds none
pub record StopsAt (text : List ℕ) (fault : KeysFault) : Type 0 where
  pub before : List (List ℕ)
  pub line : List ℕ
  pub more : List (List ℕ)
  pub keys : List Key
  pub lines : lines_of text ≡ before ++ line ∷ more
  pub first : Adds [] before keys
  pub wrong : IsWrongLine keys line (length before + 1) fault

abbrev pub IsRefused : List ℕ → KeysFault → Type 0
IsRefused text faults.Memory = Unit {0}
IsRefused text faults.TooMany = (2 ^ 32 - 1 ≤ length text) ⊎ StopsAt text faults.TooMany
IsRefused text fault = StopsAt text fault

-- the text of a role, and of the line that names a key
abbrev pub role_text : Role → List ℕ
role_text (Peer node) = codes "peer " ++ decimal node
role_text Admin = codes "admin"
role_text Reader = codes "reader"

abbrev pub line_text : Key → List ℕ
line_text key = decimal key.id ++ 32 ∷ (role_text key.role ++ 32 ∷ encode_lower key.secret)
