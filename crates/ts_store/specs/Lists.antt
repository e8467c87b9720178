-- A table of CRLs, complete ones or deltas, and what commands do to it.
use Rattle.std.specs.Prelude.{ℕ, int_lt, nat_le, Bool, not, List, [], ◌∷◌, ◌++◌, length, suc}
use Rattle.std.specs.Prelude.{Option, Some, None, option_map, Result, Ok, Err, if◌then◌else◌}
use Rattle.std.specs.List.{find, remove}
use Rattle.std.specs.Str.{bytes_eq}
use Rattle.sha2.specs.Sha256.{sha256}
use Rattle.ts_der.specs.Integer.{twos_complement}
use Rattle.ts_crl.specs.List.{CertificateList}
use Rattle.ts_crl.specs.OwnedView.{list_of}
use Rattle.ts_crl.specs.Slots.{is_same_slot}
use Rattle.ts_crl.specs.Values.{crl_number}
use Rattle.ts_store.specs.Anchors.{refuse_if}
use Rattle.ts_command.specs.declared.outcome.Refusal.{Refusal}
use Rattle.ts_command.specs.declared.outcome.Refusal.TheVariants.{OlderCrl, StoreFull, NoCrl}
use Rattle.ts_store.specs.declared.stored.StoredCrl.{StoredCrl}

-- what is kept of octets that are a list: they, and their SHA-256
abbrev pub stored_crl : List ℕ → StoredCrl
stored_crl octets = record { id = sha256 octets; crl = octets }

-- the list that is kept
abbrev pub list_in : StoredCrl → CertificateList
list_in kept = list_of kept.crl

-- a greater number (RFC 5280 5.2.3) where both have one, else a later thisUpdate (5.1.2.4)
abbrev pub is_newer_by : Option (List ℕ) → Option (List ℕ) → Bool → Bool
is_newer_by (Some n) (Some m) later = int_lt (twos_complement m) (twos_complement n)
is_newer_by n m later = later

abbrev pub is_newer : CertificateList → CertificateList → Bool
is_newer new held = is_newer_by (crl_number new) (crl_number held)
    (int_lt held.tbsCertList.thisUpdate.moment new.tbsCertList.thisUpdate.moment)

-- whether a list that is kept has the slot of another one
abbrev pub has_slot : CertificateList → StoredCrl → Bool
has_slot new held = is_same_slot (list_in held) new

-- the list takes the place of the first one that has its slot
abbrev pub replace_slot : StoredCrl → List StoredCrl → List StoredCrl
replace_slot new [] = []
replace_slot new (held ∷ lists) = if has_slot (list_in new) held then new ∷ lists
    else held ∷ replace_slot new lists

-- a list in a new slot goes last; one in a held slot takes the other's place, where it is newer
abbrev pub put_by : StoredCrl → List StoredCrl → Option StoredCrl → Result (List StoredCrl) Refusal
put_by new lists None = refuse_if (nat_le 1024 (length lists)) StoreFull (Ok (lists ++ new ∷ []))
put_by new lists (Some held) = refuse_if (not (is_newer (list_in new) (list_in held))) OlderCrl
    (Ok (replace_slot new lists))

abbrev pub put_list : StoredCrl → List StoredCrl → Result (List StoredCrl) Refusal
put_list new lists = put_by new lists (find (has_slot (list_in new)) lists)

-- the place of the first that meets a test, if one does
abbrev pub place_by : {A : Type 0} → (A → Bool) → List A → Option ℕ
place_by test [] = None
place_by test (x ∷ xs) = if test x then Some 0 else option_map suc (place_by test xs)

abbrev pub has_id : List ℕ → StoredCrl → Bool
has_id id held = bytes_eq held.id id

-- the list with this id goes, and the rest keeps its order
abbrev pub drop_at : List StoredCrl → Option ℕ → Result (List StoredCrl) Refusal
drop_at lists None = Err NoCrl
drop_at lists (Some i) = Ok (remove lists i)

abbrev pub drop_list : List ℕ → List StoredCrl → Result (List StoredCrl) Refusal
drop_list id lists = drop_at lists (place_by (has_id id) lists)
