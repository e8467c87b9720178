-- A walk along the anchors, or along the chains.
use Rattle.std.proofs.Common.{◌≡◌, ℕ, zero, suc, ◌+◌, ◌<◌, ◌≤◌, List, [], ◌∷◌, ◌++◌, length, map}
use Rattle.std.proofs.Common.{drop, get_or, Option, Some, None, option_map, slice_get, refl, sym}
use Rattle.std.proofs.Common.{ap, ◌∙◌, subst, arith, append_assoc, drop-cons}
use Rattle.std.specs.List.{AllByRecursion}
use Rattle.ts_cert.specs.Certificate.{Certificate}
use Rattle.ts_cert.specs.CertView.{cert_in}
use Rattle.ts_cert.specs.declared.certificate.Cert.{Cert}
use Rattle.ts_path.specs.Chain.{ChainQuestion}
use Rattle.ts_der.specs.declared.oid.OidRef.{OidRef}
use Rattle.ts_reason.specs.declared.reason.Reason.{Reason}
use Rattle.ts_path.specs.declared.verdict.Verdict.{Verdict}
use Rattle.ts_path.specs.declared.verdict.Verdict.TheVariants.{Invalid}
use Rattle.ts_path.specs.Verdict.{IsVerdict}
use Rattle.ts_reason.specs.View.{condition_of}
use Rattle.ts_search.specs.Search.{IsValidChain, with_certificate, certificates_at}
use Rattle.ts_search.specs.inside.Trial.{IsTriable}

pub all_more : {X : Type 0} (P : X → Type 0) (xs : List X) (x : X) → AllByRecursion P xs → P x → AllByRecursion P (xs ++ x ∷ [])
all_more P [] x h p = (p, tt)
all_more P (y ∷ xs) x h p = (h.0, all_more P xs x h.1 p)

pub over : {X : Type 0} (all xs ys : List X) (y : X) → all ≡ xs ++ y ∷ ys → all ≡ (xs ++ y ∷ []) ++ ys
over all xs ys y e = e ∙ sym (append_assoc xs (y ∷ []) ys)

pub one_longer : {X : Type 0} (xs : List X) (x : X) (n : ℕ) → n ≡ length xs → n + 1 ≡ length (xs ++ x ∷ [])
one_longer [] x n e = ap (λ k. k + 1) e
one_longer (y ∷ xs) x n e = let r = one_longer xs x (length xs) refl in omega (arith, e, r)

-- a verdict that names a reason is not of a valid chain
pub not_valid : (q : ChainQuestion) (v : Verdict) (position : ℕ) (reason : Reason OidRef) → IsVerdict q v → v ≡ Invalid position reason → ¬ (IsValidChain q)
not_valid q v position reason h e valid =
    let k = subst (IsVerdict q) e h in
    k.0.fails (valid position (condition_of reason))

pub all_at : {X Y : Type 0} (P : Y → Type 0) (f : X → Y) (xs : List X) (i : ℕ) (x : X) → AllByRecursion P (map f xs) → i < length xs → x ≡ get_or xs i x → P (f x)
all_at P f [] i x h l e = absurd (omega (arith, l))
all_at {X} {Y} P f (y ∷ xs) zero x h l e = let Q : X → Type 0 = λ z. P (f z) in subst Q (sym e) h.0
all_at P f (y ∷ xs) (suc i) x h l e = all_at P f xs i x h.1 (omega (arith, l)) e

length_map : {X Y : Type 0} (f : X → Y) (xs : List X) → length (map f xs) ≡ length xs
length_map f [] = refl
length_map f (x ∷ xs) = ap suc (length_map f xs)

-- the certificates of a chain that can be tried are 1 to 16
pub few_of : (certificates : List Certificate) (chain : List ℕ) (under now : List Cert)
    → now ≡ under → map cert_in under ≡ certificates_at certificates chain
    → IsTriable certificates chain → (1 ≤ length now) × (length now ≤ 16)
few_of certificates chain under now e m h =
    let n = ap length e ∙ (sym (length_map cert_in under) ∙ ap length m) in
    (omega (arith, n, h.0), omega (arith, n, h.1))

joined : (c : Option Certificate) (rest : List Certificate) → with_certificate c [] ++ rest ≡ with_certificate c rest
joined None rest = refl
joined (Some c) rest = refl

-- one more place
pub with_one : (certificates : List Certificate) (found more : List Cert) (chain : List ℕ) (i : ℕ)
    (place : ℕ) (all : List Certificate) (cert : Option Cert) → i < length chain
    → place ≡ get_or chain i place
    → option_map cert_in cert ≡ slice_get certificates place → map cert_in found ++ certificates_at certificates (drop i chain) ≡ all
    → map cert_in more ≡ map cert_in found ++ with_certificate (option_map cert_in cert) [] → map cert_in more ++ certificates_at certificates (drop (i + 1) chain) ≡ all
with_one certificates found more chain i place all cert l p g h m =
    let next = drop-cons chain i place l ∙ (ap (λ x. x ∷ drop (suc i) chain) (sym p) ∙ ap (λ (k : ℕ). place ∷ drop k chain) (let e : suc i ≡ i + 1 = omega arith in e)) in
    let rest = certificates_at certificates (drop (i + 1) chain) in
    ap (λ t. t ++ rest) m ∙ (append_assoc (map cert_in found) (with_certificate (option_map cert_in cert) []) rest
    ∙ (ap (λ t. map cert_in found ++ t) (joined (option_map cert_in cert) rest ∙ (ap (λ o. with_certificate o rest) g ∙ ap (certificates_at certificates) (sym next))) ∙ h))

-- within a list no default is taken
pub get_or_default : {X : Type 0} (xs : List X) (i : ℕ) (d e : X) → i < length xs → get_or xs i d ≡ get_or xs i e
get_or_default [] i d e h = absurd (omega (arith, h))
get_or_default (x ∷ xs) zero d e h = refl
get_or_default (x ∷ xs) (suc i) d e h = get_or_default xs i d e (omega (arith, h))
