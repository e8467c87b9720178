-- The parameters of the nearest key are its own, or those that it inherits.
use Rattle.std.proofs.Common.{◌≡◌, ◌≢◌, ◌↔◌, ◌⊎◌, inl, inr, ℕ, Bool, true, false, if◌then◌else◌, List, [], ◌∷◌, ◌++◌, Option, Some, None, refl, sym, ap, ◌∙◌}
use Rattle.std.specs.List.{All}
use Rattle.std.specs.Str.{bytes_eq}
use Rattle.std.proofs.lemmas.List.Elements.{All-nil, All-cons, All-head, All-tail}
use Rattle.std.proofs.lemmas.Slice.Eq.{bytes_eq-Decides}
use Rattle.std.proofs.lemmas.Bool.{false≢true}
use Rattle.ts_cert.specs.Certificate.{KeyInfo, Certificate}
use Rattle.ts_path.specs.Asked.{TrustAnchor}
use Rattle.ts_path.specs.WorkingKey.{is_alike, or_inherited, subject_key, nearest_key, parameters_of}
use Rattle.ts_revoke.specs.OwnKey.{null, not_null, own}
use Rattle.ts_path.specs.Inherited.{keys_above, States, StatesNone, HaveOneAlgorithm, AreInherited}

-- ---- what a key states

option_cases : (o : Option (List ℕ)) → (o ≡ None) ⊎ ((p : List ℕ) × (o ≡ Some p))
option_cases None = inl refl
option_cases (Some p) = inr (p, refl)

kept_is : (q p : List ℕ) (b : Bool) → (if b then None else Some q) ≡ Some p → (b ≡ false) × (q ≡ p)
kept_is q p true e = cc e
kept_is q p false e = (refl, cc e)

-- parameters as they stand, and as they are stated
are_stated : (o : Option (List ℕ)) (p : List ℕ) → not_null o ≡ Some p → (o ≡ Some p) × (p ≢ null)
are_stated None p e = cc e
are_stated (Some q) p e =
    let k = kept_is q p (bytes_eq q null) e in
    (ap (λ (x : List ℕ). Some x) k.1, λ n. false≢true (sym k.0 ∙ (bytes_eq-Decides q null).1 (k.1 ∙ n)))

stated_are : (o : Option (List ℕ)) (p : List ℕ) → o ≡ Some p → p ≢ null → not_null o ≡ Some p
stated_are o p e n = ap not_null e ∙ by_test (bytes_eq p null) refl where
  by_test : (b : Bool) → bytes_eq p null ≡ b → (if b then None else Some p) ≡ Some p
  by_test true t = absurd (n ((bytes_eq-Decides p null).0 t))
  by_test false t = refl

states : (k : KeyInfo) (p : List ℕ) → own k ≡ Some p → States k p
states k p = are_stated k.algorithm.parameters p

owns : (k : KeyInfo) (p : List ℕ) → States k p → own k ≡ Some p
owns k p s = stated_are k.algorithm.parameters p s.0 s.1

states_none : (k : KeyInfo) → own k ≡ None → StatesNone k
states_none k e p s = let o = owns k p s in cc (e, o)

owns_none : (k : KeyInfo) → StatesNone k → own k ≡ None
owns_none k none = elim (option_cases (own k)) [ inl e ↦ e | inr w ↦ absurd (none w.0 (states k w.0 w.1)) ]

alike : (k other : KeyInfo) → is_alike k other ≡ true → HaveOneAlgorithm k other
alike k other = (bytes_eq-Decides k.algorithm.algorithm other.algorithm.algorithm).0

is_alike_to : (k other : KeyInfo) → HaveOneAlgorithm k other → is_alike k other ≡ true
is_alike_to k other = (bytes_eq-Decides k.algorithm.algorithm other.algorithm.algorithm).1

-- ---- the keys from the nearest one

key_head : (k m : KeyInfo) (ks ms : List KeyInfo) → k ∷ ks ≡ m ∷ ms → k ≡ m
key_head k m ks ms e = cc e

key_tail : (k m : KeyInfo) (ks ms : List KeyInfo) → k ∷ ks ≡ m ∷ ms → ks ≡ ms
key_tail k m ks ms e = cc e

-- the keys above, as the nearest one and others
others_above : TrustAnchor → List Certificate → List KeyInfo
others_above anchor [] = []
others_above anchor (c ∷ above) = keys_above anchor above

nearest_first : (anchor : TrustAnchor) (above : List Certificate) → keys_above anchor above ≡ nearest_key anchor above ∷ others_above anchor above
unfolding others_above
nearest_first anchor [] = refl
nearest_first anchor (c ∷ above) = refl

-- the nearest key has the algorithm of the one that states the parameters
nearest_alike : (n k : KeyInfo) (others nearer farther : List KeyInfo) → n ∷ others ≡ nearer ++ k ∷ farther → All (λ x. HaveOneAlgorithm x k) nearer → HaveOneAlgorithm n k
nearest_alike n k others [] farther e all = ap (λ (x : KeyInfo). x.algorithm.algorithm) (key_head n k others farther e)
nearest_alike n k others (x ∷ nearer) farther e all =
    ap (λ (y : KeyInfo). y.algorithm.algorithm) (key_head n x others (nearer ++ k ∷ farther) e) ∙ All-head (λ y. HaveOneAlgorithm y k) x nearer all

first_states : (k : KeyInfo) (others : List KeyInfo) (p : List ℕ) → States k p → AreInherited (k ∷ others) p
first_states k others p s = record {
  nearer = [];
  key = k;
  farther = others;
  keys_are = refl;
  states = s;
  silent = All-nil StatesNone;
  alike = All-nil (λ x. HaveOneAlgorithm x k);
}

one_more : (k n : KeyInfo) (keys others : List KeyInfo) (p : List ℕ) → StatesNone k → HaveOneAlgorithm k n → keys ≡ n ∷ others → AreInherited keys p → AreInherited (k ∷ keys) p
one_more k n keys others p none like first w = record {
  nearer = k ∷ w.nearer;
  key = w.key;
  farther = w.farther;
  keys_are = ap (λ (ks : List KeyInfo). k ∷ ks) w.keys_are;
  states = w.states;
  silent = All-cons StatesNone k w.nearer none w.silent;
  alike = All-cons (λ x. HaveOneAlgorithm x w.key) k w.nearer
      (like ∙ nearest_alike n w.key others w.nearer w.farther (sym first ∙ w.keys_are) w.alike) w.alike;
}

-- ---- both directions

inherited_cases : (o : Option (List ℕ)) (b : Bool) (others : Option (List ℕ)) (p : List ℕ) → or_inherited o b others ≡ Some p → (o ≡ Some p) ⊎ ((o ≡ None) × (b ≡ true) × (others ≡ Some p))
inherited_cases (Some q) b others p e = inl e
inherited_cases None true others p e = inr (refl, refl, e)
inherited_cases None false others p e = cc e

pub inherits : (anchor : TrustAnchor) (above : List Certificate) (p : List ℕ) → parameters_of anchor above ≡ Some p → AreInherited (keys_above anchor above) p
unfolding parameters_of
inherits anchor [] p e = first_states anchor.key [] p (states anchor.key p e)
inherits anchor (c ∷ above) p e =
    let k = subject_key c in
    elim (inherited_cases (own k) (is_alike k (nearest_key anchor above)) (parameters_of anchor above) p e) [
      | inl here ↦ first_states k (keys_above anchor above) p (states k p here)
      | inr w ↦ one_more k (nearest_key anchor above) (keys_above anchor above) (others_above anchor above) p (states_none k w.0) (alike k (nearest_key anchor above) w.1) (nearest_first anchor above)
          (inherits anchor above p w.2)
    ]

or_own : (o : Option (List ℕ)) (b : Bool) (others : Option (List ℕ)) (p : List ℕ) → o ≡ Some p → or_inherited o b others ≡ Some p
or_own o b others p e = ap (λ (x : Option (List ℕ)). or_inherited x b others) e

or_others : (o : Option (List ℕ)) (b : Bool) (others : Option (List ℕ)) (p : List ℕ) → o ≡ None → b ≡ true → others ≡ Some p → or_inherited o b others ≡ Some p
or_others o b others p e t is = ap (λ (x : Option (List ℕ)). or_inherited x b others) e ∙ (ap (λ (x : Bool). or_inherited None x others) t ∙ is)

no_key : (nearer farther : List KeyInfo) (k : KeyInfo) → [] ≡ nearer ++ k ∷ farther → ⊥
no_key [] farther k e = cc e
no_key (x ∷ nearer) farther k e = cc e

from : (anchor : TrustAnchor) (above : List Certificate) (p : List ℕ) (nearer farther : List KeyInfo) (key : KeyInfo) → keys_above anchor above ≡ nearer ++ key ∷ farther → States key p
    → All StatesNone nearer → All (λ x. HaveOneAlgorithm x key) nearer → parameters_of anchor above ≡ Some p
unfolding parameters_of
from anchor [] p [] farther key e s silent like = ap own (key_head anchor.key key [] farther e) ∙ owns key p s
from anchor [] p (x ∷ nearer) farther key e s silent like = absurd (no_key nearer farther key (key_tail anchor.key x [] (nearer ++ key ∷ farther) e))
from anchor (c ∷ above) p [] farther key e s silent like =
    or_own (own (subject_key c)) (is_alike (subject_key c) (nearest_key anchor above)) (parameters_of anchor above) p
    (ap own (key_head (subject_key c) key (keys_above anchor above) farther e) ∙ owns key p s)
from anchor (c ∷ above) p (x ∷ nearer) farther key e s silent like =
    let same = key_head (subject_key c) x (keys_above anchor above) (nearer ++ key ∷ farther) e in
    let rest = key_tail (subject_key c) x (keys_above anchor above) (nearer ++ key ∷ farther) e in
    let likes = All-tail (λ y. HaveOneAlgorithm y key) x nearer like in
    let nearest = nearest_alike (nearest_key anchor above) key (others_above anchor above) nearer farther (sym (nearest_first anchor above) ∙ rest) likes in
    or_others (own (subject_key c)) (is_alike (subject_key c) (nearest_key anchor above)) (parameters_of anchor above) p
    (ap own same ∙ owns_none x (All-head StatesNone x nearer silent))
    (is_alike_to (subject_key c) (nearest_key anchor above) (ap (λ (y : KeyInfo). y.algorithm.algorithm) same ∙ (All-head (λ y. HaveOneAlgorithm y key) x nearer like ∙ sym nearest)))
    (from anchor above p nearer farther key rest s (All-tail StatesNone x nearer silent) likes)

pub inherited : (anchor : TrustAnchor) (above : List Certificate) (p : List ℕ) → AreInherited (keys_above anchor above) p → parameters_of anchor above ≡ Some p
inherited anchor above p w = from anchor above p w.nearer w.farther w.key w.keys_are w.states w.silent w.alike

pub none_inherited : (anchor : TrustAnchor) (above : List Certificate) → (parameters_of anchor above ≡ None) ↔ ((p : List ℕ) → ¬ (AreInherited (keys_above anchor above) p))
none_inherited anchor above = (
  λ e p w. let is = inherited anchor above p w in cc (e, is),
  λ none. elim (option_cases (parameters_of anchor above)) [ inl e ↦ e | inr w ↦ absurd (none w.0 (inherits anchor above w.0 w.1)) ],
)
