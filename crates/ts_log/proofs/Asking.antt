-- Asking back after a Give.
use Rattle.std.proofs.Common.{◌≡◌, ◌⊎◌, ◌<◌, ◌≤◌, ◌+◌, ◌∷◌, ℕ, suc, List, [], Option, Some, None, Bool, true, false, nat_le, nat_lt, length, refl, arith, ⊎_elim, if◌then◌else◌}
use Rattle.std.proofs.lemmas.Bool.Decides.{nat_tests}
use Rattle.ts_synod.specs.declared.message.Body.TheVariants.{Ask}
use Rattle.ts_synod.specs.declared.message.Message.{Message}
use Rattle.ts_synod.specs.Config.{Config}
use Rattle.ts_synod.specs.Messages.{send}
use Rattle.ts_synod.specs.Log.{ask_back, ask_next, last_position, prefix}
use Rattle.ts_synod.proofs.Sets.{by_test}
use Rattle.ts_log.specs.Steps.{asks}

pub asks_is : {C : Type 0} (config : Config) (before now : ℕ → Option C) (node : ℕ) → asks config (length (prefix before)) (length (prefix now)) node ≡ ask_back config before now node
asks_is {C} config before now node = go (nat_lt (length (prefix before)) (length (prefix now))) (nat_le last_position (length (prefix now)))
  where
    go : (grown full : Bool)
        → (if grown then (if full then [] else send config.me node (Ask (suc (length (prefix now))))
        ∷ []) else []) ≡ (if grown then ask_next {C = C} config node
        (if full then None else Some (suc (length (prefix now)))) else [])
    go true true = refl
    go true false = refl
    go false full = refl

pub asks_none : {C : Type 0} (config : Config) (before now node : ℕ) → (now ≤ before) ⊎ (last_position ≤ now) → asks {C = C} config before now node ≡ []
asks_none {C} config before now node h =
    by_test (λ (ms : List (Message C)). ms ≡ []) (nat_lt before now) (if nat_le last_position now then [] else send config.me node (Ask (suc now)) ∷ []) []
    (λ e. by_test (λ (ms : List (Message C)). ms ≡ []) (nat_le last_position now) [] (send config.me node (Ask (suc now)) ∷ []) (λ _. refl)
    (λ f. absurd (⊎_elim (λ (l : now ≤ before). grind (arith, nat_tests)) (λ (l : last_position ≤ now). grind (arith, nat_tests)) h)))
    (λ _. refl)

pub asks_one : {C : Type 0} (config : Config) (before now node : ℕ) → before < now → now < last_position → asks {C = C} config before now node ≡ send config.me node (Ask (now + 1)) ∷ []
asks_one {C} config before now node l m =
    let s : suc now ≡ now + 1 = omega arith in
    by_test (λ (ms : List (Message C)). ms ≡ send config.me node (Ask (now + 1)) ∷ []) (nat_lt before now) (if nat_le last_position now then [] else send config.me node (Ask (suc now)) ∷ []) []
    (λ e. by_test (λ (ms : List (Message C)). ms ≡ send config.me node (Ask (now + 1)) ∷ [])
    (nat_le last_position now) [] (send config.me node (Ask (suc now)) ∷ [])
    (λ f. absurd (grind (arith, nat_tests))) (λ _. rw s refl))
    (λ e. absurd (grind (arith, nat_tests)))
