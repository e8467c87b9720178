-- What is told of rows, one after another.
use Rattle.std.proofs.Common.{◌≡◌, ◌∙◌, ◌∷◌, ◌++◌, ◌+◌, ◌<◌, ℕ, List, [], Vec, Global, subst, sym, ap, refl, append_assoc, map, drop, get_or, length}
use Rattle.std.proofs.lemmas.List.{append-nil, drop-map, drop_more}
use Rattle.ts_json.specs.Members.{NamedValue, named_value}
use Rattle.ts_json.specs.declared.member.Member.{Member}
use Rattle.ts_render.specs.RowMembers.{members_of_row}
use Rattle.ts_render.specs.Rows.{IsRow}
use Rattle.ts_render.specs.declared.rows.RowFields.{RowFields}
use Rattle.ts_site.specs.Listings.{AreMembers}

-- the octets of rows
abbrev pub items : List (Vec ℕ Global) → List (List ℕ)
items xs = map (λ (x : Vec ℕ Global). x.items) xs

-- what is left, one step on
pub next : (xs : List (Vec ℕ Global)) (p : ℕ) (x : Vec ℕ Global) → p < length xs → x ≡ get_or xs p x
    → drop p (items xs) ≡ x.items ∷ drop (p + 1) (items xs)
next xs p x h is =
    drop-map (λ (x : Vec ℕ Global). x.items) p xs
    ∙ (ap items (drop_more xs p x h)
    ∙ (ap (λ (y : Vec ℕ Global). y.items ∷ items (drop (p + 1) xs)) (sym is)
    ∙ ap (λ (rest : List (List ℕ)). x.items ∷ rest) (sym (drop-map (λ (x : Vec ℕ Global). x.items) (p + 1) xs))))

-- nothing is left
pub over : (xs : List (Vec ℕ Global)) (p : ℕ) → drop p xs ≡ [] → drop p (items xs) ≡ []
over xs p none = drop-map (λ (x : Vec ℕ Global). x.items) p xs ∙ ap items none

-- the members of each row
abbrev pub view : List (Vec Member Global) → List (List NamedValue)
view xs = map (λ (x : Vec Member Global). map named_value x.items) xs

pub view_more : (xs : List (Vec Member Global)) (x : Vec Member Global)
    → view (xs ++ x ∷ []) ≡ view xs ++ map named_value x.items ∷ []
view_more [] x = refl
view_more (y ∷ xs) x = ap (λ (rest : List (List NamedValue)). map named_value y.items ∷ rest) (view_more xs x)

-- one more is told, of the next row
pub told_more : (from at n place : ℕ) (octets : List ℕ) (left left' : List (List ℕ)) (fields : RowFields) (one : List NamedValue)
    (done rest : List (List NamedValue)) (rows : List (List ℕ))
    → left ≡ octets ∷ left' → IsRow octets fields → one ≡ members_of_row n fields → n ≡ at + 1 → place ≡ at + 1
    → ((rest : List (List NamedValue)) → AreMembers at left rest → AreMembers from rows (done ++ rest))
    → AreMembers place left' rest → AreMembers from rows ((done ++ one ∷ []) ++ rest)
told_more from at n place octets left left' fields one done rest rows next is one_is n_is place_is behind are =
    subst (λ (ms : List (List NamedValue)). AreMembers from rows ms) (sym (append_assoc done (one ∷ []) rest))
    (behind (one ∷ rest) (subst (λ (cs : List (List ℕ)). AreMembers at cs (one ∷ rest)) (sym next) (
      fields,
      is,
      rest,
      ap (λ (m : List NamedValue). m ∷ rest) (one_is ∙ ap (λ (k : ℕ). members_of_row k fields) n_is),
      subst (λ (k : ℕ). AreMembers k left' rest) place_is are,
    )))

-- all are told
pub told_all : (from at : ℕ) (left : List (List ℕ)) (done : List (List NamedValue)) (rows : List (List ℕ))
    → left ≡ [] → ((rest : List (List NamedValue)) → AreMembers at left rest → AreMembers from rows (done ++ rest))
    → AreMembers from rows done
told_all from at left done rows none behind =
    subst (λ (ms : List (List NamedValue)). AreMembers from rows ms) (append-nil done)
    (behind [] (subst (λ (cs : List (List ℕ)). AreMembers at cs []) (sym none) refl))
