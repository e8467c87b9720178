-- The rule for Accept, where it takes.
use Rattle.std.proofs.Common.{◌≡◌, ◌≤◌, ℕ, [], ◌∷◌, Option, Some, None, nat_lt, ◌==◌, refl, arith}
use Rattle.std.proofs.lemmas.Bool.Decides.{nat_tests, Decides-eqb}
use Rattle.ts_synod.specs.declared.message.Body.TheVariants.{Accepted, Busy}
use Rattle.ts_synod.specs.declared.message.Vote.{Vote}
use Rattle.ts_synod.specs.Config.{Config}
use Rattle.ts_synod.specs.Messages.{broadcast, send}
use Rattle.ts_synod.specs.Acceptor.{accept, accept_or_repeat, on_accept, only_messages}
use Rattle.ts_synod.proofs.Sets.{by_test}
use Rattle.ts_acceptor.specs.Steps.{IsOfOther}

takes_other : {C : Type 0} (config : Config) (t : Option (Vote C)) (p b : ℕ) (c : C) → IsOfOther b t → accept_or_repeat config p b c t ≡ accept config p b c
takes_other config None p b c other = refl
takes_other config (Some v) p b c other =
    by_test (λ x. x ≡ accept config p b c) (v.ballot == b)
    (only_messages (broadcast config.me config.nodes (Accepted p b v.command)))
    (accept config p b c) (λ e. absurd (other ((Decides-eqb v.ballot b).0 e))) (λ _. refl)

pub takes : {C : Type 0} (config : Config) (n : ℕ) (t : Option (Vote C)) (from p b : ℕ) (c : C) → n ≤ b → IsOfOther b t → on_accept config n t from p b c ≡ accept config p b c
takes config n t from p b c le other =
    by_test (λ x. x ≡ accept config p b c) (nat_lt b n)
    (only_messages (send config.me from (Busy p b n) ∷ [])) (accept_or_repeat config p b c t)
    (λ e. absurd (grind (arith, nat_tests))) (λ _. takes_other config t p b c other)
