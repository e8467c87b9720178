-- Domains as endings of hosts.
use Rattle.std.proofs.Common.{◌≡◌, ◌↔◌, ℕ, suc, ◌+◌, ◌<◌, Bool, true, false, cond, eqb, List, []}
use Rattle.std.proofs.Common.{◌∷◌, ◌++◌, ◌⊎◌, inl, inr, length, refl, sym, ap, subst, ◌∙◌, arith}
use Rattle.std.proofs.Common.{append-nil, append_assoc, length-append}
use Rattle.std.specs.Prelude.{◌||◌, map, IsTrue, MatchBool}
use Rattle.std.specs.Char.{to_ascii_lowercase}
use Rattle.std.specs.List.{flat_map, list_any}
use Rattle.std.specs.Ordering.{nat_cmp, is_eq}
use Rattle.std.specs.declared.cmp.Ordering.TheVariants.{Less, Equal, Greater}
use Rattle.std.proofs.lemmas.Bool.{false≢true, true≢false, eqb-true, eqb-false}
use Rattle.std.proofs.lemmas.Cmp.{nat_cmp_total}
use Rattle.std.proofs.lemmas.List.{length-map}
use Rattle.std.proofs.lemmas.Map.Lookups.{exact_unsigned}
use Rattle.ts_name.specs.General.{GeneralName, otherName, rfc822Name, dNSName, x400Address, directoryName, ediPartyName, uniformResourceIdentifier, iPAddress, registeredID}
use Rattle.ts_name.specs.Holds.{lower, dot, EndsIn, IsBelow, IsWithinDomain, Holds}
use Rattle.ts_constraint.specs.Conditions.{Some_of}
use Rattle.ts_constraint.specs.inside.Ending.{backwards}
use Rattle.ts_constraint.specs.inside.Fronts.{front_cmp, is_front, has_front}
use Rattle.ts_constraint.specs.inside.Hosts.{domain_ending, dotted_ending, domain_endings, dotted_endings, is_at_domain, is_below_dot}
use Rattle.ts_constraint.proofs.Fronts.{by-key, equal-from, front-of, of-front}

-- ---- a text from its end on

abbrev turned : List ℕ → List ℕ
turned [] = []
turned (x ∷ xs) = turned xs ++ x ∷ []

turned-append : (xs ys : List ℕ) → turned (xs ++ ys) ≡ turned ys ++ turned xs
turned-append [] ys = sym (append-nil (turned ys))
turned-append (x ∷ xs) ys = ap (λ (zs : List ℕ). zs ++ x ∷ []) (turned-append xs ys) ∙ append_assoc (turned ys) (turned xs) (x ∷ [])

turned-turned : (xs : List ℕ) → turned (turned xs) ≡ xs
turned-turned [] = refl
turned-turned (x ∷ xs) = turned-append (turned xs) (x ∷ []) ∙ ap (λ (zs : List ℕ). x ∷ zs) (turned-turned xs)

backwards-is : (text : List ℕ) → backwards text false ≡ turned (lower text)
backwards-is [] = refl
backwards-is (x ∷ xs) = ap (λ (zs : List ℕ). zs ++ to_ascii_lowercase x ∷ []) (backwards-is xs)

-- a dot before a text is one octet of it more
with-dot : (text : List ℕ) → backwards text true ≡ backwards (dot ∷ text) false
with-dot [] = refl
with-dot (x ∷ xs) = sym (append_assoc (backwards xs false) (to_ascii_lowercase x ∷ []) (dot ∷ []))

ends-front : (text end : List ℕ) → EndsIn text end → is_front nat_cmp (backwards end false) (backwards text false) ≡ true
ends-front text end e =
    let whole : backwards text false ≡ backwards end false ++ turned e.0 =
    backwards-is text ∙ (ap turned e.1 ∙ (turned-append e.0 (lower end) ∙ ap (λ (xs : List ℕ). xs ++ turned e.0) (sym (backwards-is end)))) in
    ap (λ (xs : List ℕ). is_front nat_cmp (backwards end false) xs) whole ∙ ap is_eq (of-front nat_cmp_total (backwards end false) (turned e.0))

front-ends : (text end : List ℕ) → is_front nat_cmp (backwards end false) (backwards text false) ≡ true → EndsIn text end
front-ends text end f =
    let behind = front-of exact_unsigned (backwards end false) (backwards text false) (equal-from _ f) in (
      turned behind.0,
      sym (turned-turned (lower text)) ∙ (ap turned (sym (backwards-is text) ∙ (behind.1 ∙ ap (λ (xs : List ℕ). xs ++ behind.0) (backwards-is end)))
          ∙ (turned-append (turned (lower end)) behind.0 ∙ ap (λ (xs : List ℕ). turned behind.0 ++ xs) (turned-turned (lower end)))),
    )

-- ---- domains of a host and of those below it

below-front-of : (host domain : List ℕ) → IsBelow host domain → EndsIn (dot ∷ host) (dot ∷ domain)
below-front-of host domain below = elim below [ inl same ↦ ([], ap (λ (xs : List ℕ). dot ∷ xs) same) | inr ends ↦ (dot ∷ ends.0, ap (λ (xs : List ℕ). dot ∷ xs) ends.1) ]

below-by-front : (host domain front : List ℕ) → dot ∷ lower host ≡ front ++ dot ∷ lower domain → IsBelow host domain
below-by-front host domain [] e = inl cc
below-by-front host domain (x ∷ front) e = inr (front, cc)

at-domain : (host domain : List ℕ) → IsTrue (is_front nat_cmp (backwards domain true) (backwards host true)) ↔ IsBelow host domain
at-domain host domain =
    let same : is_front nat_cmp (backwards domain true) (backwards host true) ≡ is_front nat_cmp (backwards (dot ∷ domain) false) (backwards (dot ∷ host) false) =
    ap (λ (xs : List ℕ). is_front nat_cmp xs (backwards host true)) (with-dot domain) ∙ ap (is_front nat_cmp (backwards (dot ∷ domain) false)) (with-dot host) in (
      λ t. let ends = front-ends (dot ∷ host) (dot ∷ domain) (sym same ∙ t) in below-by-front host domain ends.0 ends.1,
      λ below. same ∙ ends-front (dot ∷ host) (dot ∷ domain) (below-front-of host domain below),
    )

-- ---- domains of the hosts below them alone

abbrev Shorter : List ℕ → List ℕ → Type 0
Shorter host domain = EndsIn host domain × (length domain < length host)

shorter-tail : (x : ℕ) (rest domain front : List ℕ) → length domain < suc (length rest) → to_ascii_lowercase x ∷ lower rest ≡ front ++ lower domain → EndsIn rest domain
shorter-tail x rest domain [] h e =
    let n : suc (length rest) ≡ length domain = ap suc (sym (length-map rest to_ascii_lowercase)) ∙ (ap length e ∙ length-map domain to_ascii_lowercase) in
    absurd (omega arith)
shorter-tail x rest domain (y ∷ front) h e = (front, cc)

below-dot : (x : ℕ) (rest domain : List ℕ) → IsTrue (is_front nat_cmp (backwards domain false) (backwards rest false)) ↔ Shorter (x ∷ rest) domain
below-dot x rest domain = (
  λ t.
      let ends = front-ends rest domain t in
      let n : length rest ≡ length ends.0 + length domain =
      sym (length-map rest to_ascii_lowercase) ∙ (ap length ends.1 ∙ (length-append ends.0 (lower domain) ∙ ap (λ k. length ends.0 + k) (length-map domain to_ascii_lowercase))) in
      ((to_ascii_lowercase x ∷ ends.0, ap (λ (xs : List ℕ). to_ascii_lowercase x ∷ xs) ends.1), omega arith),
  λ s. ends-front rest domain (shorter-tail x rest domain s.0.0 s.1 s.0.1),
)

-- ---- the domains of a list of bases

abbrev itself : List ℕ → List ℕ
itself xs = xs

-- a host among the endings of bases
abbrev pub among : List (List ℕ) → List (List ℕ) → List ℕ → Bool
among domains dotted host = is_at_domain itself domains host || is_below_dot itself dotted host

or-false : (b : Bool) → b || false ≡ b
or-false true = refl
or-false false = refl

no-dotted : (host : List ℕ) → is_below_dot itself [] host ≡ false
no-dotted [] = refl
no-dotted (x ∷ rest) = refl

-- whether a test is true, of a test that is equal
pub along : {b c : Bool} {P : Type 0} → b ≡ c → IsTrue c ↔ P → IsTrue b ↔ P
along e d = (λ t. d.0 (sym e ∙ t), λ p. e ∙ d.1 p)

one-dotted : (host domain : List ℕ) → IsTrue (is_below_dot itself (backwards domain false ∷ []) host) ↔ Shorter host domain
one-dotted [] domain = (λ t. absurd (false≢true t), λ s. absurd (omega (arith, s.1)))
one-dotted (x ∷ rest) domain = along (or-false (is_front nat_cmp (backwards domain false) (backwards rest false))) (below-dot x rest domain)

one-plain : (host domain : List ℕ) → IsTrue (among (backwards domain true ∷ []) [] host) ↔ IsBelow host domain
one-plain host domain =
    let f = is_front nat_cmp (backwards domain true) (backwards host true) in
    along (ap (λ b. (f || false) || b) (no-dotted host) ∙ (or-false (f || false) ∙ or-false f)) (at-domain host domain)

one-domain : (host domain : List ℕ) → IsTrue (among (domain_ending (dNSName domain)) (dotted_ending (dNSName domain)) host) ↔ IsWithinDomain host domain
one-domain host [] = (λ t. tt, λ u. refl)
one-domain host (octet ∷ rest) = by_test (eqb octet dot)
  where
    by_test : (t : Bool) → IsTrue (among (cond t [] (backwards (octet ∷ rest) true ∷ [])) (cond t (backwards (octet ∷ rest) false ∷ []) []) host)
        ↔ MatchBool t (Shorter host (octet ∷ rest)) (IsBelow host (octet ∷ rest))
    by_test true = one-dotted host (octet ∷ rest)
    by_test false = one-plain host (octet ∷ rest)

none : (host : List ℕ) → IsTrue (is_below_dot itself [] host) ↔ ⊥
none host = (λ t. false≢true (sym (no-dotted host) ∙ t), λ e. absurd e)

one-base : (host : List ℕ) (base : GeneralName) → IsTrue (among (domain_ending base) (dotted_ending base) host) ↔ Holds base (dNSName host)
one-base host (dNSName domain) = one-domain host domain
one-base host base = none host

-- ---- two lists of endings

front-either : (xs ys : List (List ℕ)) (item : List ℕ) → has_front nat_cmp itself (xs ++ ys) item ≡ has_front nat_cmp itself xs item || has_front nat_cmp itself ys item
front-either [] ys item = refl
front-either (x ∷ xs) ys item = ap (λ b. is_front nat_cmp x item || b) (front-either xs ys item)
    ∙ or-assoc (is_front nat_cmp x item) (has_front nat_cmp itself xs item)
    (has_front nat_cmp itself ys item)
  where
    or-assoc : (a b c : Bool) → a || (b || c) ≡ (a || b) || c
    or-assoc true b c = refl
    or-assoc false b c = refl

dot-either : (xs ys : List (List ℕ)) (host : List ℕ) → is_below_dot itself (xs ++ ys) host ≡ is_below_dot itself xs host || is_below_dot itself ys host
dot-either xs ys [] = refl
dot-either xs ys (x ∷ rest) = front-either xs ys (backwards rest false)

by-pairs : (a b c d : Bool) → (a || b) || (c || d) ≡ (a || c) || (b || d)
by-pairs true b c d = refl
by-pairs false true true d = refl
by-pairs false true false d = refl
by-pairs false false c d = refl

among-either : (xs ys us vs : List (List ℕ)) (host : List ℕ) → among (xs ++ ys) (us ++ vs) host ≡ among xs us host || among ys vs host
among-either xs ys us vs host =
    ap (λ b. b || is_below_dot itself (us ++ vs) host) (front-either xs ys (backwards host true))
    ∙ ap (λ b. (is_at_domain itself xs host || is_at_domain itself ys host) || b) (dot-either us vs host)
    ∙ by-pairs (is_at_domain itself xs host) (is_at_domain itself ys host) (is_below_dot itself us host) (is_below_dot itself vs host)

pub either : {P Q : Type 0} (a b : Bool) → IsTrue a ↔ P → IsTrue b ↔ Q → IsTrue (a || b) ↔ (P ⊎ Q)
either true b d e = (λ t. inl (d.0 refl), λ s. refl)
either false b d e = (λ t. inr (e.0 t), λ s. elim s [ inl p ↦ absurd (false≢true (d.1 p)) | inr q ↦ e.1 q ])

pub all-bases : (host : List ℕ) (bases : List GeneralName) → IsTrue (among (domain_endings bases) (dotted_endings bases) host) ↔ Some_of (λ base. Holds base (dNSName host)) bases
all-bases host [] = none host
all-bases host (base ∷ bases) =
    along (among-either (domain_ending base) (domain_endings bases) (dotted_ending base) (dotted_endings bases) host)
    (either (among (domain_ending base) (dotted_ending base) host) (among (domain_endings bases) (dotted_endings bases) host) (one-base host base) (all-bases host bases))

-- ---- the tables of these endings

-- a table of endings, of which the ones that were gathered have these octets
abbrev pub IsTable : {X : Type 0} → (X → List ℕ) → List X → List (List ℕ) → Type 0
IsTable key xs endings = (item : List ℕ) → has_front nat_cmp key xs item ≡ has_front nat_cmp itself endings item

pub table : {X : Type 0} (key : X → List ℕ) (xs gathered : List X) (endings : List (List ℕ))
    → ((item : List ℕ) → has_front nat_cmp key xs item ≡ has_front nat_cmp key gathered item)
    → map key gathered ≡ endings → IsTable key xs endings
table key xs gathered endings same e item = same item ∙ (by-key nat_cmp key gathered item ∙ ap (λ (ks : List (List ℕ)). has_front nat_cmp itself ks item) e)

below-by-table : {X : Type 0} (key : X → List ℕ) (xs : List X) (endings : List (List ℕ)) (host : List ℕ) → IsTable key xs endings → is_below_dot key xs host ≡ is_below_dot itself endings host
below-by-table key xs endings [] t = refl
below-by-table key xs endings (x ∷ rest) t = t (backwards rest false)

pub by-tables : {X : Type 0} (key : X → List ℕ) (xs ys : List X) (bases : List GeneralName) → IsTable key xs (domain_endings bases) → IsTable key ys (dotted_endings bases) → (host : List ℕ)
    → IsTrue (is_at_domain key xs host || is_below_dot key ys host) ↔ Some_of (λ base. Holds base (dNSName host)) bases
by-tables key xs ys bases t u host =
    along (ap (λ b. b || is_below_dot key ys host) (t (backwards host true))
    ∙ ap (λ b. is_at_domain itself (domain_endings bases) host || b)
    (below-by-table key ys (dotted_endings bases) host u)) (all-bases host bases)
