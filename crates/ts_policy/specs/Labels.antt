-- Certificate policies by their object identifiers, and lists of them.
use Rattle.std.specs.Prelude.{◌≡◌, ℕ, zero, suc, Bool, List, [], ◌∷◌, bytes_eq, ◌⊎◌}
use Rattle.std.specs.List.{list_any}

-- the content octets of a policy's object identifier (RFC 5280, 4.2.1.4; X.690, 8.19)
abbrev pub Label : Type 0
Label = List ℕ

-- a path of labels, the last first: p ∷ w is the path w followed by p, and [] is the empty path
abbrev pub Path : Type 0
Path = List Label

-- anyPolicy, 2.5.29.32.0 (RFC 5280, 4.2.1.4)
unfoldable pub any_policy : Label
any_policy = 85 ∷ 29 ∷ 32 ∷ 0 ∷ []

-- two labels have the same octets
unfoldable pub same : Label → Label → Bool
same p q = bytes_eq p q

-- x is an element of the list
abbrev pub In : {X : Type 0} → X → List X → Type 0
In x [] = ⊥
In x (y ∷ ys) = (y ≡ x) ⊎ In x ys

-- the test whether a label is in a list
abbrev pub has : List Label → Label → Bool
has ps p = list_any (λ x. same x p) ps

-- k times anyPolicy
abbrev pub anys : ℕ → Path
anys zero = []
anys (suc k) = any_policy ∷ anys k
