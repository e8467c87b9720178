-- Reading from front to back: a value and the octets after it, or none where the octets are cut or
-- out of range.
use Rattle.std.specs.Prelude.{◌≡◌, ◌==◌, ℕ, ℤ, zero, suc, Bool, List, [], ◌∷◌, length, take, drop}
use Rattle.std.specs.Prelude.{Option, Some, None, Result, Ok, Err, nat_lt, if◌then◌else◌}
use Rattle.std.specs.Int.{Width, w16, w32, w64, byte_len, from_be_bytes, cast_signed}
use Rattle.ts_der.specs.ObjectIdentifier.{is_oid}
use Rattle.ts_codec.specs.Ranges.{is_node_number, is_position, is_prefix, is_ballot, is_short}
use Rattle.ts_codec.specs.declared.fault.ReadFault.{ReadFault}
use Rattle.ts_codec.specs.declared.fault.ReadFault.TheVariants as faults

-- how a part is read
abbrev pub Reader : Type 0 → Type 0
Reader A = List ℕ → Option (A × List ℕ)

-- one step after another, up to the first that finds nothing
infixl 10 ◌>>=◌
abbrev pub ◌>>=◌ : {A B : Type 0} → Option A → (A → Option B) → Option B
(Some x) >>= f = f x
None >>= f = None

-- what a call returned, seen by view, is what reading gives, unless memory ran out
abbrev pub Fails : {Y : Type 0} → ReadFault → Option Y → Type 0
Fails faults.Memory reading = Unit {0}
Fails faults.Form reading = reading ≡ None

abbrev pub Gives : {X Y : Type 0} → (X → Y) → Result X ReadFault → Option Y → Type 0
Gives view (Ok x) reading = reading ≡ Some (view x)
Gives view (Err e) reading = Fails e reading

-- a value where a test of it holds
abbrev pub value_if : {A : Type 0} → Bool → A → Option A
value_if holds x = if holds then Some x else None

-- what a table has at a number
abbrev pub lookup : {A : Type 0} → ℕ → List (ℕ × A) → Option A
lookup n [] = None
lookup n (row ∷ rows) = if n == row.0 then Some row.1 else lookup n rows

-- all of the octets
abbrev pub whole : {A : Type 0} → Option (A × List ℕ) → Option A
whole reading = reading >>= λ x. value_if (length x.1 == 0) x.0

-- ---- rows of parts

-- a part whose value meets a test
infixl 40 ◌that◌
abbrev pub ◌that◌ : {A : Type 0} → Reader A → (A → Bool) → Reader A
(part that holds) octets = part octets >>= λ x. value_if (holds x.0) x

-- a part, and then others
infixr 30 ◌and◌
abbrev pub ◌and◌ : {A B : Type 0} → Reader A → Reader B → Reader (A × B)
(part and others) octets = part octets >>= λ a. others a.1 >>= λ b. Some ((a.0, b.0), b.1)

-- a part, and then others that it decides
infixr 30 ◌then◌
abbrev pub ◌then◌ : {A B : Type 0} → Reader A → (A → Reader B) → Reader B
(part then others) octets = part octets >>= λ a. others a.0 a.1

-- the value that parts make up
infixl 20 ◌into◌
abbrev pub ◌into◌ : {A B : Type 0} → Reader A → (A → B) → Reader B
(parts into make) octets = parts octets >>= λ x. Some (make x.0, x.1)

-- a value that has no octets
abbrev pub bare : {A : Type 0} → A → Reader A
bare x octets = Some (x, octets)

-- ---- numbers and octets

abbrev pub octet_at : Reader ℕ
octet_at [] = None
octet_at (octet ∷ rest) = Some (octet, rest)

abbrev pub number_at : Width → Reader ℕ
number_at w octets = if nat_lt (length octets) (byte_len w) then None
    else Some (from_be_bytes w (take (byte_len w) octets), drop (byte_len w) octets)

-- so many octets
abbrev pub octets_at : ℕ → Reader (List ℕ)
octets_at n octets = if nat_lt (length octets) n then None else Some (take n octets, drop n octets)

unfoldable pub blob8_at : Reader (List ℕ)
blob8_at = octet_at then octets_at

unfoldable pub blob16_at : Reader (List ℕ)
blob16_at = number_at w16 then octets_at

unfoldable pub blob32_at : Reader (List ℕ)
blob32_at = number_at w32 then octets_at

-- a blob of at most so many octets
unfoldable pub short_blob_at : ℕ → Reader (List ℕ)
short_blob_at most = blob32_at that is_short most

-- a blob that is all of a value's octets
unfoldable pub within_blob_at : {A : Type 0} → Reader A → Reader A
within_blob_at part octets = blob32_at octets >>= λ b. whole (part b.0) >>= λ x. Some (x, b.1)

unfoldable pub oid_at : Reader (List ℕ)
oid_at = blob8_at that is_oid

unfoldable pub node_at : Reader ℕ
node_at = octet_at that is_node_number

unfoldable pub position_at : Reader ℕ
position_at = number_at w32 that is_position

unfoldable pub prefix_at : Reader ℕ
prefix_at = number_at w32 that is_prefix

unfoldable pub ballot_at : Reader ℕ
ballot_at = number_at w64 that is_ballot

-- eight octets, in two's complement
unfoldable pub signed_at : Reader ℤ
signed_at = number_at w64 into cast_signed w64

-- an octet that is always this one
unfoldable pub tag_at : ℕ → Reader ℕ
tag_at tag = octet_at that (λ o. o == tag)

-- a part after an octet that is always this one
abbrev pub behind_mark : {A : Type 0} → ℕ → Reader A → Reader A
behind_mark tag part = tag_at tag then (λ o. part)

-- ---- parts that may be absent, and lists

-- a part that is here only where a flag says so
unfoldable pub optional_at : {A : Type 0} → Reader A → Bool → Reader (Option A)
optional_at part there octets = if there then (part into Some) octets else bare None octets

-- so many items, one after another
unfoldable pub many_at : {A : Type 0} → Reader A → ℕ → Reader (List A)
many_at item zero octets = Some ([], octets)
many_at item (suc n) octets = do
  first ← item octets
  others ← many_at item n first.1
  Some (first.0 ∷ others.0, others.1)

-- ---- kinds

-- the fields of a kind, by a table of the kinds
unfoldable pub of_kind : {A : Type 0} → List (ℕ × Reader A) → ℕ → Reader A
of_kind rows kind octets = lookup kind rows >>= λ fields. fields octets

-- an octet of the kind, and its fields
abbrev pub by_kind : {A : Type 0} → List (ℕ × Reader A) → Reader A
by_kind rows = octet_at then of_kind rows

-- an octet that stands for a value, by a table of the values
unfoldable pub code_at : {A : Type 0} → List (ℕ × A) → Reader A
code_at values octets = octet_at octets >>= λ code. lookup code.0 values >>= λ x. Some (x, code.1)
