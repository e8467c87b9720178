-- One pair alone, by its name.
use Rattle.std.proofs.Common.{◌≡◌, ◌∙◌, refl, sym, ap, subst, ℕ, ◌<◌, ◌≤◌, false, true, not, Bool, List, [], ◌∷◌, Option, Some, None, MatchOption, map, codes, string_bytes, get_or, length, arith}
use Rattle.std.specs.Str.{bytes_eq}
use Rattle.std.proofs.lemmas.Slice.Eq.{bytes_eq-Decides}
use Rattle.ts_form.specs.Pairs.{NamedValue, pair_in}
use Rattle.ts_form.specs.Rows.{NameId}
use Rattle.ts_literal.specs.Literals.{IsHex}
use Rattle.ts_form.specs.declared.pair.Pair.{Pair}

pub one_pair : (pairs : List Pair) (x : Pair) → 1 ≤ length pairs → length pairs < 2 → x ≡ get_or pairs 0 x → pairs ≡ x ∷ []
one_pair [] x least below is = absurd (omega (arith, least))
one_pair (y ∷ []) x least below is = ap (λ (p : Pair). p ∷ []) (sym is)
one_pair (y ∷ z ∷ pairs) x least below is = absurd (omega (arith, below))

abbrev value_of : List NamedValue → List ℕ
value_of [] = []
value_of (pair ∷ pairs) = pair.1

abbrev named_id : List ℕ → List NamedValue
named_id text = (codes "id", text) ∷ []

one_value : (text other : List ℕ) → named_id text ≡ named_id other → text ≡ other
one_value text other same = ap value_of same

-- what is found is the id of the text
found_id : (pairs : List NamedValue) (text : List ℕ) (id : Option (List ℕ)) → pairs ≡ (codes "id", text) ∷ []
    → MatchOption id ((octets : List ℕ) → ¬ (IsHex 16 text octets)) (IsHex 16 text) → MatchOption id ((octets : List ℕ) → ¬ (NameId pairs octets)) (NameId pairs)
found_id pairs text None one is = λ octets named.
    let same = one_value named.0 text (sym named.1 ∙ one) in
    is octets (subst (λ (t : List ℕ). IsHex 16 t octets) same named.2)
found_id pairs text (Some id) one is = (text, one, is)

not_false : (b : Bool) → false ≡ not b → b ≡ true
not_false true is = refl
not_false false is = cc

pub names_id : (pairs : List Pair) (x : Pair) (name text : List ℕ) (id : Option (List ℕ)) → pairs ≡ x ∷ [] → name ≡ string_bytes x.name
    → false ≡ not (bytes_eq name (codes "id")) → text ≡ string_bytes x.value
    → MatchOption id ((octets : List ℕ) → ¬ (IsHex 16 text octets)) (IsHex 16 text)
    → MatchOption id ((octets : List ℕ) → ¬ (NameId (map pair_in pairs) octets)) (NameId (map pair_in pairs))
names_id pairs x name text id one named same valued is =
    let eq = not_false (bytes_eq name (codes "id")) same in
    let here : name ≡ codes "id" = (bytes_eq-Decides name (codes "id")).0 eq in
    let only : map pair_in pairs ≡ (codes "id", text) ∷ [] =
    ap (map pair_in) one ∙ (ap (λ (n : List ℕ). (n, string_bytes x.value) ∷ []) (sym named ∙ here) ∙ ap (λ (t : List ℕ). (codes "id", t) ∷ []) (sym valued)) in
    found_id (map pair_in pairs) text id only is
