-- Certificates that are shown, one after another.
use Rattle.std.proofs.Common.{◌≡◌, ◌∙◌, ◌∷◌, ◌++◌, ◌+◌, ◌<◌, ℕ, List, [], Option, subst, sym, ap, append_assoc, Vec, Global, map, drop, get_or, length}
use Rattle.std.proofs.lemmas.List.{append-nil, drop-map, drop_more}
use Rattle.ts_render.specs.Chain.{AreShown, IsShown, is_place}
use Rattle.ts_render.specs.declared.chain.CertificateFields.{CertificateFields}

-- the octets of certificates
abbrev pub items : List (Vec ℕ Global) → List (List ℕ)
items xs = map (λ (x : Vec ℕ Global). x.items) xs

-- what is left, one step on
pub next : (xs : List (Vec ℕ Global)) (cs : List (List ℕ)) (p : ℕ) (x : Vec ℕ Global) → items xs ≡ cs → p < length xs → x ≡ get_or xs p x → drop p cs ≡ x.items ∷ drop (p + 1) cs
next xs cs p x are h is =
    ap (drop p) (sym are)
    ∙ (drop-map (λ (x : Vec ℕ Global). x.items) p xs
    ∙ (ap items (drop_more xs p x h)
    ∙ (ap (λ (y : Vec ℕ Global). y.items ∷ items (drop (p + 1) xs)) (sym is)
    ∙ ap (λ (rest : List (List ℕ)). x.items ∷ rest) (sym (drop-map (λ (x : Vec ℕ Global). x.items) (p + 1) xs) ∙ ap (drop (p + 1)) are))))

-- nothing is left
pub over : (xs : List (Vec ℕ Global)) (cs : List (List ℕ)) (p : ℕ) → items xs ≡ cs → drop p xs ≡ [] → drop p cs ≡ []
over xs cs p are none = ap (drop p) (sym are) ∙ (drop-map (λ (x : Vec ℕ Global). x.items) p xs ∙ ap items none)

-- one more is shown, whose certificate is the next
pub shown_more : (fields rest : List CertificateFields) (f : CertificateFields) (c : List ℕ) (left left' : List (List ℕ)) (p : ℕ) (failing : Option ℕ) (all : List (List ℕ))
    → left ≡ c ∷ left' → IsShown c f → f.fails ≡ is_place p failing
    → ((rest : List CertificateFields) → AreShown rest p left failing → AreShown (fields ++ rest) 1 all failing)
    → AreShown rest (p + 1) left' failing → AreShown ((fields ++ f ∷ []) ++ rest) 1 all failing
shown_more fields rest f c left left' p failing all next shown fails behind are =
    subst (λ (fs : List CertificateFields). AreShown fs 1 all failing) (sym (append_assoc fields (f ∷ []) rest))
    (behind (f ∷ rest) (subst (λ (cs : List (List ℕ)). AreShown (f ∷ rest) p cs failing) (sym next) (shown, fails, are)))

-- all are shown
pub shown_all : (fields : List CertificateFields) (left : List (List ℕ)) (p : ℕ) (failing : Option ℕ) (all : List (List ℕ))
    → left ≡ [] → ((rest : List CertificateFields) → AreShown rest p left failing → AreShown (fields ++ rest) 1 all failing) → AreShown fields 1 all failing
shown_all fields left p failing all none behind =
    subst (λ (fs : List CertificateFields). AreShown fs 1 all failing) (append-nil fields)
    (behind [] (subst (λ (cs : List (List ℕ)). AreShown [] p cs failing) (sym none) tt))
