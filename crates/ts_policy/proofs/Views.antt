-- Lists of slices and of structs of slices, seen as lists of labels.
use Rattle.std.proofs.Common.{◌≡◌, ◌↔◌, Bool, true, false, not, ◌||◌, cond, List, [], ◌∷◌, ◌++◌, map, filter, refl, sym, ap, ◌∙◌, inl, inr, length, ◌==◌, ne_eqb, arith}
use Rattle.std.specs.List.{list_any}
use Rattle.ts_policy.specs.Labels.{Label, same, In, has}
use Rattle.ts_der.specs.declared.oid.OidRef.{OidRef}
use Rattle.ts_policy.specs.declared.certificate.Mapping.{Mapping}
use Rattle.ts_policy.specs.declared.layer.Link.{Link}
use Rattle.ts_policy.specs.Accepted.{is_none}
use Rattle.ts_policy.specs.Certificates.{mapping_in}
use Rattle.ts_policy.specs.inside.Layers.{expectations_by}
use Rattle.ts_policy.specs.inside.Links.{link_in, link}
use Rattle.ts_policy.proofs.Lists.{In-has, In-from_has, decide, clash}

-- a view of what a map makes
pub map_map : {X Y Z : Type 0} (f : X → Y) (g : Y → Z) (xs : List X) → map g (map f xs) ≡ map (λ x. g (f x)) xs
map_map f g [] = refl
map_map f g (x ∷ xs) = ap (λ ys. g (f x) ∷ ys) (map_map f g xs)

-- a view of what a filter leaves, where the test looks at the view alone
pub map_filter : {X Y : Type 0} (f : X → Y) (t : Y → Bool) (xs : List X) → map f (filter (λ x. t (f x)) xs) ≡ filter t (map f xs)
map_filter f t [] = refl
map_filter {X} {Y} f t (x ∷ xs) =
    elim (t (f x)) as (λ b. map f (cond b (x ∷ filter (λ x. t (f x)) xs) (filter (λ x. t (f x)) xs)) ≡ cond b (f x ∷ filter t (map f xs)) (filter t (map f xs))) [
      | true ↦ ap (λ ys. f x ∷ ys) (map_filter f t xs)
      | false ↦ map_filter f t xs
    ]

pub map_append : {X Y : Type 0} (f : X → Y) (xs ys : List X) → map f (xs ++ ys) ≡ map f xs ++ map f ys
map_append f [] ys = refl
map_append f (x ∷ xs) ys = ap (λ zs. f x ∷ zs) (map_append f xs ys)

-- tests that answer alike leave the same
pub filter_alike : {X : Type 0} (t u : X → Bool) → ((x : X) → t x ≡ u x) → (xs : List X) → filter t xs ≡ filter u xs
filter_alike t u h [] = refl
filter_alike t u h (x ∷ xs) = ap (λ b. cond b (x ∷ filter t xs) (filter t xs)) (h x) ∙ ap (λ ys. cond (u x) (x ∷ ys) ys) (filter_alike t u h xs)

pub any_of_view : {X Y : Type 0} (f : X → Y) (t : Y → Bool) (xs : List X) → list_any (λ x. t (f x)) xs ≡ list_any t (map f xs)
any_of_view f t [] = refl
any_of_view f t (x ∷ xs) = ap (λ b. t (f x) || b) (any_of_view f t xs)

-- lists with the same labels answer alike
pub has_alike : (ps qs : List Label) → ((p : Label) → In p ps ↔ In p qs) → (p : Label) → has ps p ≡ has qs p
has_alike ps qs h p =
    elim (decide (has qs p)) [
      | inl t ↦ In-has p ps ((h p).1 (In-from_has p qs t)) ∙ sym t
      | inr f ↦ elim (decide (has ps p)) [ inr g ↦ g ∙ sym f | inl t ↦ absurd (clash (has qs p) (In-has p qs ((h p).0 (In-from_has p ps t))) f) ]
    ]

-- the first parts of pairs
pub has_firsts : (xs : List (Label × Label)) (p : Label) → has (map (λ x. x.0) xs) p ≡ list_any (λ x. same x.0 p) xs
has_firsts xs p = sym (any_of_view (λ x. x.0) (λ q. same q p) xs)

-- what a layer's labels expect, seen as labels
pub expectations_view : (es : List Label) (ss : List OidRef) → map (λ x. x.content.now) ss ≡ es → (ms : List Mapping) (froms : List Label) (xs ys : List Link)
    → xs ≡ map (λ m. link m.subject_domain m.issuer_domain) (filter (λ m. has es m.issuer_domain.content.now) ms)
    → ys ≡ map (λ p. link p p) (filter (λ p. not (has froms p.content.now)) ss)
    → map link_in (xs ++ ys) ≡ expectations_by es (map mapping_in ms) froms
expectations_view es ss s ms froms xs ys ex ey =
    let turn : Label × Label → Label × Label = λ m. (m.1, m.0) in
    let both : Label → Label × Label = λ p. (p, p) in
    let first : map link_in xs ≡ map turn (filter (λ m. has es m.0) (map mapping_in ms)) =
    ap (map link_in) ex ∙ map_map (λ m. link m.subject_domain m.issuer_domain) link_in (filter (λ m. has es m.issuer_domain.content.now) ms)
    ∙ sym (map_map mapping_in turn (filter (λ m. has es m.issuer_domain.content.now) ms)) ∙ ap (map turn) (map_filter mapping_in (λ m. has es m.0) ms) in
    let second : map link_in ys ≡ map both (filter (λ p. not (has froms p)) es) =
    ap (map link_in) ey ∙ map_map (λ p. link p p) link_in (filter (λ p. not (has froms p.content.now)) ss)
    ∙ sym (map_map (λ p. p.content.now) both (filter (λ p. not (has froms p.content.now)) ss)) ∙ ap (map both) (map_filter (λ p. p.content.now) (λ p. not (has froms p)) ss)
    ∙ ap (λ es. map both (filter (λ p. not (has froms p)) es)) s in
    map_append link_in xs ys ∙ ap (λ l. l ++ map link_in ys) first ∙ ap (λ l. map turn (filter (λ m. has es m.0) (map mapping_in ms)) ++ l) second

-- links to one label above
pub beside_view : (a : OidRef) (q : Label) → a.content.now ≡ q → (ss : List OidRef) → map link_in (map (λ p. link p a) ss) ≡ map (λ p. (p, q)) (map (λ p. p.content.now) ss)
beside_view a q e ss =
    let with : Label → Label → Label × Label = λ q p. (p, q) in
    map_map (λ p. link p a) link_in ss ∙ sym (map_map (λ p. p.content.now) (with a.content.now) ss) ∙ ap (λ q. map (with q) (map (λ p. p.content.now) ss)) e

pub is_none-view : {X : Type 0} (f : X → Label) (xs : List X) → (length xs == 0) ≡ is_none (map f xs)
is_none-view f [] = refl
is_none-view f (x ∷ xs) = ne_eqb (length (x ∷ xs)) 0 (λ e. omega (arith, e))
