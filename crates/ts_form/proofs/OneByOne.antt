-- Pairs one after another: what those that are left do, all of them do.
use Rattle.std.proofs.Common.{◌≡◌, ◌<◌, ◌+◌, ◌∷◌, ℕ, List, subst, inl, inr, drop, get_or, length, map, string_bytes}
use Rattle.ts_form.specs.Pairs.{IsFirstRefused, NamedValue, SetsEach, pair_in}
use Rattle.ts_form.specs.declared.fault.FormFault.{FormFault}
use Rattle.ts_form.specs.declared.pair.Pair.{Pair}
use Rattle.ts_form.proofs.Dropping.{next_pair}

pub record IsLeft {W : Type 0} (Sets : NamedValue → W → W → Type 0) (IsRefused : NamedValue → W → FormFault → Type 0)
    (all left : List NamedValue) (first now : W) : Type 0
  where
    pub sets : (new : W) → SetsEach Sets left now new → SetsEach Sets all first new
    pub refuses : (fault : FormFault) → IsFirstRefused Sets IsRefused left now fault → IsFirstRefused Sets IsRefused all first fault

-- the pair that is next has this name and this value
pub next_left : {W : Type 0} {Sets : NamedValue → W → W → Type 0} {IsRefused : NamedValue → W → FormFault → Type 0} {first now : W}
    (xs : List Pair) (i : ℕ) (x : Pair) (name value : List ℕ) → i < length xs → x ≡ get_or xs i x → name ≡ string_bytes x.name → value ≡ string_bytes x.value
    → IsLeft Sets IsRefused (map pair_in xs) (map pair_in (drop i xs)) first now
    → IsLeft Sets IsRefused (map pair_in xs) ((name, value) ∷ map pair_in (drop (i + 1) xs)) first now
next_left {W} {Sets} {IsRefused} {first} {now} xs i x name value more is named valued left =
    let next : map pair_in (drop i xs) ≡ (name, value) ∷ map pair_in (drop (i + 1) xs) = cc (next_pair xs i x more is, named, valued) in
    subst (λ (pairs : List NamedValue). IsLeft Sets IsRefused (map pair_in xs) pairs first now) next left

-- it sets something
pub goes_on : {W : Type 0} {Sets : NamedValue → W → W → Type 0} {IsRefused : NamedValue → W → FormFault → Type 0} {first now next : W}
    {all left : List NamedValue} {pair : NamedValue} → IsLeft Sets IsRefused all (pair ∷ left) first now → Sets pair now next → IsLeft Sets IsRefused all left first next
goes_on {next = next} is sets = record {
  sets = λ new rest. is.sets new (next, sets, rest);
  refuses = λ fault rest. is.refuses fault (inr (next, sets, rest));
}

-- it is refused
pub breaks_off : {W : Type 0} {Sets : NamedValue → W → W → Type 0} {IsRefused : NamedValue → W → FormFault → Type 0} {first now : W}
    {all left : List NamedValue} {pair : NamedValue} → IsLeft Sets IsRefused all (pair ∷ left) first now
    → (fault : FormFault) → IsRefused pair now fault → IsFirstRefused Sets IsRefused all first fault
breaks_off is fault refused = is.refuses fault (inl refused)
