-- Encoded messages of EMSA-PKCS1-v1_5.
use Rattle.std.proofs.Common.{◌≡◌, ℕ, ◌-◌, List, [], ◌∷◌, ◌++◌, length, replicate, ap, ◌∙◌}
use Rattle.std.proofs.lemmas.List.{append_assoc}
use Rattle.ts_rsa.specs.Pkcs1.{encoded_around}

pub encoded-joined : (front mid all info : List ℕ) (n k : ℕ) → front ≡ 0 ∷ 1 ∷ replicate n 255
    → n ≡ k - length info - 3 → mid ≡ front ++ 0 ∷ [] → all ≡ mid ++ info
    → all ≡ encoded_around info k
unfolding encoded_around
encoded-joined front mid all info n k f e m a =
    a ∙ ap (λ z. z ++ info) m ∙ append_assoc front (0 ∷ []) info
    ∙ (λ j. (f ∙ ap (λ z. 0 ∷ 1 ∷ replicate z 255) e) j ++ 0 ∷ info)
