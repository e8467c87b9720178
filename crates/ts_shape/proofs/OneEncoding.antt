-- No two lists of octets are one value: of the shapes that formats share.
use Rattle.std.proofs.Common.{◌≡◌, ℕ, List, [], ◌∷◌, Option, Some, None, refl, sym, ap, ◌∙◌}
use Rattle.ts_der.specs.Element.{encode}
use Rattle.ts_shape.specs.Fields.{Within, IfAny}
use Rattle.ts_shape.specs.Items.{AreItems}

-- one content for each value
abbrev pub One : {A : Type 0} → (List ℕ → A → Type 0) → Type 0
One {A} Encodes = (c d : List ℕ) (x : A) → Encodes c x → Encodes d x → c ≡ d

pub one-within : {A : Type 0} (tag : ℕ) (Encodes : List ℕ → A → Type 0) → One Encodes → One (Within tag Encodes)
one-within tag Encodes one c d x a b = a.encoded ∙ (ap (λ (o : List ℕ). encode tag o) (one a.content b.content x a.value b.value) ∙ sym b.encoded)

pub one-if-any : {A : Type 0} (tag : ℕ) (Encodes : List ℕ → A → Type 0) → One Encodes → One (IfAny tag Encodes)
one-if-any tag Encodes one c d None a b = a ∙ sym b
one-if-any tag Encodes one c d (Some x) a b = one-within tag Encodes one c d x a b

pub one-items : {A : Type 0} (Encodes : List ℕ → A → Type 0) → One Encodes → (xs : List A) (c d : List ℕ) → AreItems Encodes c xs → AreItems Encodes d xs → c ≡ d
one-items Encodes one [] c d a b = a ∙ sym b
one-items Encodes one (x ∷ xs) c d a b =
    let first = one a.0 b.0 x a.2 b.2 in
    let others = one-items Encodes one xs a.1 b.1 a.4 b.4 in
    a.3 ∙ (rw (first, others) refl ∙ sym b.3)
