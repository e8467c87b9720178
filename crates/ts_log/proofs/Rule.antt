-- The rule for Accepted, where a position is not learned.
use Rattle.std.proofs.Common.{◌≡◌, ◌∙◌, ℕ, Option, false, is_some, refl, ap, sym}
use Rattle.ts_synod.specs.Config.{Config}
use Rattle.ts_synod.specs.Log.{LogStep, ReceivedVotes, count_votes, on_accepted, with_vote}
use Rattle.ts_log.specs.declared.log.Log.{Log}
use Rattle.ts_log.specs.Log.{IsUnchanged, config_of, learned_of, received_of}

counts_new : {C : Type 0} (config : Config) (learned : ℕ → Option C) (received : ReceivedVotes C)
    (from p n : ℕ) (c : C) → is_some (learned p) ≡ false
    → on_accepted config learned received from p n c ≡ count_votes config learned received p n c
    (with_vote (received p) from (record { ballot = n; command = c }))
counts_new config learned received from p n c e = rw e refl

-- the vote is counted in a log that has made places for it
pub counts : {C : Type 0} (a b : Log C) (from p n : ℕ) (c : C) → IsUnchanged a b
    → is_some (learned_of a p) ≡ false
    → count_votes (config_of b) (learned_of b) (received_of b) p n c
    (with_vote (received_of b p) from (record { ballot = n; command = c })) ≡ on_accepted
    (config_of a) (learned_of a) (received_of a) from p n c
counts {C} a b from p n c same new =
    let rule : Config → (ℕ → Option C) → ReceivedVotes C → LogStep C = λ k l r. count_votes k l r p n c (with_vote (r p) from (record { ballot = n; command = c })) in
    ap (λ k. rule k (learned_of b) (received_of b)) same.config
    ∙ ap (λ l. rule (config_of a) l (received_of b)) same.learned
    ∙ ap (λ r. rule (config_of a) (learned_of a) r) same.received
    ∙ sym (counts_new (config_of a) (learned_of a) (received_of a) from p n c new)
