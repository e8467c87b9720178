-- The issuers are looked at one by one.
use Rattle.std.proofs.Common.{◌≡◌, ◌∙◌, ◌+◌, ◌<◌, ◌∷◌, ℕ, List, Option, Some, true, false, ap, cond, drop, drop-cons, get_or, length, map, suc, sym}
use Rattle.std.proofs.Math.Numerals.{add-one}
use Rattle.ts_name.specs.Canon.{Attr}
use Rattle.ts_name.specs.NameView.{rdns_in}
use Rattle.ts_name.specs.Sameness.{is_same_name}
use Rattle.ts_name.specs.declared.name.Name.{Name}
use Rattle.ts_sent.specs.Sent.{place_in}

-- the one at a place, and those behind it
seen_at : (issuers : List Name) (p : ℕ) (x : Name) → p < length issuers → x ≡ get_or issuers p x
    → map rdns_in (drop p issuers) ≡ rdns_in x ∷ map rdns_in (drop (p + 1) issuers)
seen_at issuers p x few is =
    ap (map rdns_in) (drop-cons issuers p x few ∙ (ap (λ (y : Name). y ∷ drop (suc p) issuers) (sym is)
    ∙ ap (λ (n : ℕ). x ∷ drop n issuers) (sym (add-one p))))

looked : (issuers : List Name) (name : List (List Attr)) (p : ℕ) (x : Name) → p < length issuers
    → x ≡ get_or issuers p x → place_in (map rdns_in (drop p issuers)) name p ≡
    cond (is_same_name (rdns_in x) name) (Some p) (place_in (map rdns_in (drop (p + 1) issuers)) name (p + 1))
looked issuers name p x few is = ap (λ xs. place_in xs name p) (seen_at issuers p x few is)

-- it has the name
pub found : (issuers : List Name) (name : List (List Attr)) (p : ℕ) (x : Name) (place : Option ℕ)
    → p < length issuers → x ≡ get_or issuers p x → is_same_name (rdns_in x) name ≡ true
    → place_in (map rdns_in (drop p issuers)) name p ≡ place → Some p ≡ place
found issuers name p x place few is same so_far =
    sym (looked issuers name p x few is
    ∙ ap (λ b. cond b (Some p) (place_in (map rdns_in (drop (p + 1) issuers)) name (p + 1))) same) ∙ so_far

-- it has another name
pub passed : (issuers : List Name) (name : List (List Attr)) (p : ℕ) (x : Name) (place : Option ℕ)
    → p < length issuers → x ≡ get_or issuers p x → is_same_name (rdns_in x) name ≡ false
    → place_in (map rdns_in (drop p issuers)) name p ≡ place
    → place_in (map rdns_in (drop (p + 1) issuers)) name (p + 1) ≡ place
passed issuers name p x place few is other so_far =
    sym (looked issuers name p x few is
    ∙ ap (λ b. cond b (Some p) (place_in (map rdns_in (drop (p + 1) issuers)) name (p + 1))) other) ∙ so_far
