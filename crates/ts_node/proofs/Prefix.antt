-- The prefix of a log, position by position, and as more is learned.
use Rattle.std.proofs.Common.{◌≡◌, ◌∙◌, ◌+◌, ◌<◌, ◌≤◌, ◌++◌, ◌∷◌, ◌==◌, ℕ, zero, suc, List, [], Option, Some, None, true, false, is_some, length, take, drop, get_or, refl, sym, ap, subst, arith}
use Rattle.std.proofs.lemmas.List.{take_more, drop_more, length-take-le}
use Rattle.std.proofs.lemmas.Bool.Decides.{Decides-eqb}
use Rattle.ts_synod.specs.Log.{last_position, leading, prefix}
use Rattle.ts_synod.proofs.PrefixLength.{length_leads}
use Rattle.ts_synod.proofs.Sets.{by_test}
use Rattle.ts_log.specs.declared.log.Log.{Log}
use Rattle.ts_log.specs.declared.log.LogChange.{LogChange}
use Rattle.ts_log.specs.declared.log.LogChange.TheVariants.{Learn, Nothing, Receive}
use Rattle.ts_log.specs.Log.{learned_of}
use Rattle.ts_log.specs.Steps.{IsChangeOf, learned_after}
use Rattle.ts_synod.specs.declared.message.Fact.{Fact}
use Rattle.ts_node.specs.Growing.{IsPart}

leading_get : {C : Type 0} (k p : ℕ) (f : ℕ → Option C) (i : ℕ) (d c : C) → i < length (leading k p f) → f (p + i) ≡ Some c → get_or (leading k p f) i d ≡ c
leading_get zero p f i d c l is = absurd (omega arith)
leading_get {C} (suc k) p f i d c l is = go (leading_get k (suc p) f) (f p) refl i l is
  where
    go : ((j : ℕ) (d c : C) → j < length (leading k (suc p) f) → f (suc p + j) ≡ Some c
        → get_or (leading k (suc p) f) j d ≡ c) → (o : Option C) → f p ≡ o → (i : ℕ)
        → i < length {A = C} (elim o [ None ↦ [] | Some e ↦ e ∷ leading k (suc p) f ])
        → f (p + i) ≡ Some c → get_or {A = C}
        (elim o [ None ↦ [] | Some e ↦ e ∷ leading k (suc p) f ]) i d ≡ c
    go rest None e i l is = absurd (omega arith)
    go rest (Some x) e zero l is = let z : p + 0 ≡ p = omega arith in let same : f p ≡ Some c = subst (λ q. f q ≡ Some c) z is in cc
    go rest (Some x) e (suc i) l is = let z : p + suc i ≡ suc p + i = omega arith in rest i d c (omega arith) (subst (λ q. f q ≡ Some c) z is)

prefix_get : {C : Type 0} (f : ℕ → Option C) (i : ℕ) (d c : C) → i < length (prefix f) → f (i + 1) ≡ Some c → get_or (prefix f) i d ≡ c
unfolding prefix
prefix_get f i d c l is = let z : i + 1 ≡ 1 + i = omega arith in leading_get last_position 1 f i d c l (subst (λ q. f q ≡ Some c) z is)

-- every position of the prefix is learned
pub prefix_some : {C : Type 0} (f : ℕ → Option C) (i : ℕ) → i < length (prefix f) → is_some (f (i + 1)) ≡ true
prefix_some f i l = let z : 1 + i ≡ i + 1 = omega arith in subst (λ q. is_some (f q) ≡ true) z ((length_leads f).below i l)

pub prefix_none : {C : Type 0} (f : ℕ → Option C) (i : ℕ) (o : Option C) → i < length (prefix f) → o ≡ f (i + 1) → o ≡ None → ⊥
prefix_none f i o l is none = let s = prefix_some f i l in let e : f (i + 1) ≡ None = sym is ∙ none in absurd (cc)

pub most : {C : Type 0} (f : ℕ → Option C) → length (prefix f) ≤ 1000000
most f = (length_leads f).most

-- one more command of the prefix
pub prefix_take : {C : Type 0} (f : ℕ → Option C) (i : ℕ) (c : C) → i < length (prefix f) → f (i + 1) ≡ Some c → take (i + 1) (prefix f) ≡ take i (prefix f) ++ c ∷ []
prefix_take f i c l is = take_more (prefix f) i c l ∙ ap (λ x. take i (prefix f) ++ x ∷ []) (prefix_get f i c c l is)

pub prefix_drop : {C : Type 0} (f : ℕ → Option C) (i : ℕ) (c : C) → i < length (prefix f) → f (i + 1) ≡ Some c → drop i (prefix f) ≡ c ∷ drop (i + 1) (prefix f)
prefix_drop f i c l is = drop_more (prefix f) i c l ∙ ap (λ x. x ∷ drop (i + 1) (prefix f)) (prefix_get f i c c l is)

-- what is taken of the prefix is a part of it
pub part_at : {C : Type 0} (f : ℕ → Option C) (i : ℕ) (cs : List C) → i ≤ length (prefix f) → cs ≡ take i (prefix f) → IsPart cs f
part_at f i cs l is = let n : length cs ≡ i = ap length is ∙ length-take-le i (prefix f) l in is ∙ ap (λ k. take k (prefix f)) (sym n)

pub part_length : {C : Type 0} (f : ℕ → Option C) (i : ℕ) (cs : List C) → i ≤ length (prefix f) → cs ≡ take i (prefix f) → length cs ≡ i
part_length f i cs l is = ap length is ∙ length-take-le i (prefix f) l

-- more is learned, and nothing else than before
abbrev pub Extends : {C : Type 0} → (ℕ → Option C) → (ℕ → Option C) → Type 0
Extends f g = (q : ℕ) → is_some (f q) ≡ true → g q ≡ f q

leading_extends : {C : Type 0} (k p : ℕ) (f g : ℕ → Option C) → Extends f g → leading k p f ≡ take (length (leading k p f)) (leading k p g)
leading_extends zero p f g more = refl
leading_extends {C} (suc k) p f g more = go (f p) refl (leading_extends k (suc p) f g more)
  where
    go : (o : Option C) → f p ≡ o
        → leading k (suc p) f ≡ take (length (leading k (suc p) f)) (leading k (suc p) g)
        → elim o [ None ↦ [] | Some e ↦ e ∷ leading k (suc p) f ] ≡ take
        (length {A = C} (elim o [ None ↦ [] | Some e ↦ e ∷ leading k (suc p) f ]))
        (leading (suc k) p g)
    go None e rest = refl
    go (Some x) e rest =
        let same : g p ≡ Some x = more p (ap is_some e) ∙ e in
        ap (λ xs. x ∷ xs) rest ∙ ap (λ (o : Option C). take (suc (length (leading k (suc p) f))) (elim o [ None ↦ [] | Some y ↦ y ∷ leading k (suc p) g ])) (sym same)

pub prefix_extends : {C : Type 0} (f g : ℕ → Option C) → Extends f g → prefix f ≡ take (length (prefix f)) (prefix g)
unfolding prefix
prefix_extends f g more = leading_extends last_position 1 f g more

-- a step of the log
pub step_extends : {C : Type 0} (log : Log C) (change : LogChange C) (facts : List (Fact C)) → IsChangeOf log change facts → Extends (learned_of log) (learned_after log change)
step_extends log Nothing facts is q some = refl
step_extends log (Receive p a v) facts is q some = refl
step_extends {C} log (Learn p c n) facts is q some =
    by_test (λ (o : Option C). o ≡ learned_of log q) (q == p) (Some c) (learned_of log q)
    (λ t. let same : q ≡ p = (Decides-eqb q p).0 t in let new : is_some (learned_of log q) ≡ false = subst (λ r. is_some (learned_of log r) ≡ false) (sym same) is.1 in absurd (cc))
    (λ _. refl)
