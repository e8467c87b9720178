-- One more node of a broadcast.
use Rattle.std.proofs.Common.{◌≡◌, ◌≢◌, ℕ, suc, ◌+◌, [], ◌∷◌, ◌++◌, ◌==◌, ◌∙◌, sym, refl, add-one, arith, true≢false}
use Rattle.std.proofs.lemmas.Bool.Decides.{Decides-eqb}
use Rattle.ts_synod.specs.declared.message.Body.{Body}
use Rattle.ts_synod.specs.Messages.{broadcast, broadcast_to_others, send}
use Rattle.ts_synod.proofs.Sets.{by_test}

pub broadcast_more : {C : Type 0} (me n : ℕ) (body : Body C) → broadcast me (n + 1) body ≡ broadcast me n body ++ send me (n + 1) body ∷ []
broadcast_more me n body = rw add-one refl

pub skips_me : {C : Type 0} (me n : ℕ) (body : Body C) → n + 1 ≡ me → broadcast_to_others me (n + 1) body ≡ broadcast_to_others me n body
skips_me me n body e =
    let k : suc n ≡ me = omega arith in
    rw add-one (by_test (λ x. x ≡ broadcast_to_others me n body) (suc n == me)
    (broadcast_to_others me n body) (broadcast_to_others me n body ++ send me (suc n) body ∷ [])
    (λ _. refl) (λ d. absurd (true≢false (sym ((Decides-eqb (suc n) me).1 k) ∙ d))))

pub reaches_other : {C : Type 0} (me n : ℕ) (body : Body C) → n + 1 ≢ me → broadcast_to_others me (n + 1) body ≡ broadcast_to_others me n body ++ send me (n + 1) body ∷ []
reaches_other me n body ne =
    let k : suc n ≢ me = λ e. ne (omega arith) in
    rw add-one (by_test (λ x. x ≡ broadcast_to_others me n body ++ send me (suc n) body ∷ [])
    (suc n == me) (broadcast_to_others me n body)
    (broadcast_to_others me n body ++ send me (suc n) body ∷ [])
    (λ d. absurd (k ((Decides-eqb (suc n) me).0 d))) (λ _. refl))
