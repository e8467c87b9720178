-- A text that ends in another, and a host below a domain.
use Rattle.std.proofs.Common.{◌≡◌, ℕ, suc, ◌+◌, ◌-◌, ◌<◌, ◌≤◌, Bool, true, false, cond, ltb, List, [], ◌∷◌, ◌++◌, length, take, drop, get_or, refl, sym, ap, subst, ◌∙◌, arith, length-append}
use Rattle.std.specs.Prelude.{map}
use Rattle.std.specs.Char.{to_ascii_lowercase}
use Rattle.std.proofs.lemmas.Bool.{ltb-true, ltb-false}
use Rattle.std.proofs.lemmas.List.{take-append-drop, drop-map, map-append, length-map}
use Rattle.std.proofs.Math.Seq.{drop-cons, drop-append_seam}
use Rattle.ts_name.specs.Holds.{lower, EndsIn, dot}

pub ends-by : (text end : List ℕ) → lower (drop (length text - length end) text) ≡ lower end → EndsIn text end
ends-by text end e =
    let n = length text - length end in
    (lower (take n text), ap lower (sym (take-append-drop n text)) ∙ (map-append to_ascii_lowercase (take n text) (drop n text) ∙ ap (λ (xs : List ℕ). lower (take n text) ++ xs) e))

pub ends-lengths : (text end : List ℕ) (e : EndsIn text end) → length text ≡ length e.0 + length end
ends-lengths text end e =
    sym (length-map text to_ascii_lowercase) ∙ (ap length e.1 ∙ (length-append e.0 (lower end) ∙ ap (λ n. length e.0 + n) (length-map end to_ascii_lowercase)))

pub ends-only : (text end : List ℕ) → EndsIn text end → lower (drop (length text - length end) text) ≡ lower end
ends-only text end e =
    let lengths = ends-lengths text end e in
    let n : length text - length end ≡ length e.0 = omega arith in
    sym (drop-map to_ascii_lowercase (length text - length end) text) ∙ (ap (λ k. drop k (lower text)) n ∙ (ap (drop (length e.0)) e.1 ∙ drop-append_seam e.0 (lower end)))

-- only a dot is a dot in lower case
is-dot : (x : ℕ) → to_ascii_lowercase x ≡ dot → x ≡ dot
is-dot x e = by_first (ltb x 65) refl (ltb x 91) refl e
  where
    by_first : (a : Bool) → ltb x 65 ≡ a → (b : Bool) → ltb x 91 ≡ b → cond a x (cond b (x + 32) x) ≡ 46 → x ≡ 46
    by_first true p b q e = e
    by_first false p true q e = let h = ltb-false x 65 p in absurd (omega arith)
    by_first false p false q e = e

-- the last octets of a text, by the first of them
last-octets : (text : List ℕ) (i : ℕ) → i < length text → lower (drop i text) ≡ to_ascii_lowercase (get_or text i 0) ∷ lower (drop (suc i) text)
last-octets text i h = ap lower (drop-cons text i 0 h)

-- where a domain begins in a host that is longer, and the dot before it
abbrev Before : List ℕ → List ℕ → ℕ → Type 0
Before host domain i = (length host - suc (length domain) ≡ i) × (length host - length domain ≡ suc i) × (i < length host)

before : (host domain : List ℕ) → length domain < length host → Before host domain (length host - length domain - 1)
before host domain h = (omega arith, omega arith, omega arith)

pub below-by : (host domain : List ℕ) → length domain < length host → get_or host (length host - length domain - 1) 0 ≡ dot → EndsIn host domain → EndsIn host (dot ∷ domain)
below-by host domain h is ends =
    let i = length host - length domain - 1 in
    let at = before host domain h in
    let tail : lower (drop (suc i) host) ≡ lower domain = ap (λ k. lower (drop k host)) (sym at.1) ∙ ends-only host domain ends in
    ends-by host (dot ∷ domain)
    (ap (λ k. lower (drop k host)) at.0 ∙ (last-octets host i at.2 ∙ (ap (λ x. to_ascii_lowercase x ∷ lower (drop (suc i) host)) is ∙ ap (λ (xs : List ℕ). dot ∷ xs) tail)))

pub below-only : (host domain : List ℕ) → EndsIn host (dot ∷ domain) → (get_or host (length host - length domain - 1) 0 ≡ dot) × EndsIn host domain
below-only host domain ends =
    let i = length host - length domain - 1 in
    let lengths = ends-lengths host (dot ∷ domain) ends in
    let h : length domain < length host = omega arith in
    let at = before host domain h in
    let both : to_ascii_lowercase (get_or host i 0) ∷ lower (drop (suc i) host) ≡ dot ∷ lower domain =
    sym (last-octets host i at.2) ∙ (ap (λ k. lower (drop k host)) (sym at.0) ∙ ends-only host (dot ∷ domain) ends) in
    let head : to_ascii_lowercase (get_or host i 0) ≡ dot = cc in
    let tail : lower (drop (suc i) host) ≡ lower domain = cc in
    (is-dot (get_or host i 0) head, ends-by host domain (ap (λ k. lower (drop k host)) at.1 ∙ tail))

-- a host that is not longer than a domain does not end in a dot and the domain
pub not-below : (host domain : List ℕ) → length host ≤ length domain → EndsIn host (dot ∷ domain) → ⊥
not-below host domain h ends = let lengths = ends-lengths host (dot ∷ domain) ends in absurd (omega arith)

-- a host that is longer than a domain is not the domain
pub not-same : (host domain : List ℕ) → length domain < length host → lower host ≡ lower domain → ⊥
not-same host domain h e = let lengths : length host ≡ length domain = sym (length-map host to_ascii_lowercase) ∙ (ap length e ∙ length-map domain to_ascii_lowercase) in omega arith
