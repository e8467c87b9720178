-- Octets that are written part by part.
use Rattle.std.proofs.Common.{◌≡◌, ℕ, List, ◌∷◌, [], ◌++◌, ◌∙◌, ap, append_assoc}

-- two parts after others
pub two : (out mid last a b : List ℕ) → mid ≡ out ++ a → last ≡ mid ++ b → last ≡ out ++ (a ++ b)
two out mid last a b first second = second ∙ ap (λ l. l ++ b) first ∙ append_assoc out a b

-- and one more
pub three : (out mid next last a b c : List ℕ) → mid ≡ out ++ a → next ≡ mid ++ b → last ≡ next ++ c → last ≡ out ++ (a ++ (b ++ c))
three out mid next last a b c first second third = two out mid last a (b ++ c) first (two mid next last b c second third)

-- two parts after an octet
pub behind : (out mid next last : List ℕ) (o : ℕ) (b c : List ℕ) → mid ≡ out ++ o ∷ [] → next ≡ mid ++ b → last ≡ next ++ c → last ≡ out ++ (o ∷ (b ++ c))
behind out mid next last o b c first second third = three out mid next last (o ∷ []) b c first second third
