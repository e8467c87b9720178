-- One more node in a count, and one more vote.
use Rattle.std.proofs.Common.{◌≡◌, ◌+◌, ◌<◌, ◌≤◌, ◌∙◌, ℕ, suc, Bool, false, nat_lt, Option, Some, None, if◌then◌else◌, refl, ap, arith, add-one}
use Rattle.std.proofs.lemmas.Bool.Decides.{nat_tests}
use Rattle.ts_synod.specs.declared.message.Vote.{Vote}
use Rattle.ts_synod.specs.Lists.{update_at}
use Rattle.ts_synod.specs.Force.{greater_vote}
use Rattle.ts_synod.specs.Majority.{count, is_majority}
use Rattle.ts_synod.specs.Config.{Config}
use Rattle.ts_synod.specs.Log.{ReceivedVotes, count_votes, is_vote_in, keep_received, with_vote}
use Rattle.ts_synod.proofs.Sets.{by_test}
use Rattle.ts_log.proofs.Places.{put_own}

pub count_more : (q : ℕ → Bool) (n : ℕ) → count q (n + 1) ≡ (if q (n + 1) then suc (count q n) else count q n)
count_more q n = rw add-one refl

-- the vote, if there is one, is of a lower ballot
abbrev pub IsBelow : {C : Type 0} → Option (Vote C) → ℕ → Type 0
IsBelow None b = Unit {0}
IsBelow (Some v) b = v.ballot < b

greater_new : {C : Type 0} (t : Option (Vote C)) (v : Vote C) → IsBelow t v.ballot → greater_vote t (Some v) ≡ Some v
greater_new None v low = refl
greater_new (Some u) v low = by_test (λ o. o ≡ Some v) (nat_lt u.ballot v.ballot) (Some v) (Some u) (λ _. refl) (λ e. absurd (grind (arith, nat_tests)))

greater_old : {C : Type 0} (t : Option (Vote C)) (u v : Vote C) → t ≡ Some u → v.ballot ≤ u.ballot → greater_vote t (Some v) ≡ t
greater_old None u v is high = absurd (cc)
greater_old (Some w) u v is high =
    let same : w ≡ u = cc in
    let k : w.ballot ≡ u.ballot = ap (λ (x : Vote _). x.ballot) same in
    by_test (λ o. o ≡ Some w) (nat_lt w.ballot v.ballot) (Some v) (Some w) (λ e. absurd (grind (arith, nat_tests))) (λ _. refl)

pub with_new : {C : Type 0} (votes : ℕ → Option (Vote C)) (from : ℕ) (v : Vote C) → IsBelow (votes from) v.ballot → with_vote votes from v ≡ update_at votes from (Some v)
with_new votes from v low = ap (update_at votes from) (greater_new (votes from) v low)

pub with_old : {C : Type 0} (votes : ℕ → Option (Vote C)) (from : ℕ) (u v : Vote C) → votes from ≡ Some u → v.ballot ≤ u.ballot → with_vote votes from v ≡ votes
with_old votes from u v is high = ap (update_at votes from) (greater_old (votes from) u v is high) ∙ put_own votes from

pub no_majority : {C : Type 0} (config : Config) (learned : ℕ → Option C)
    (received : ReceivedVotes C) (p b : ℕ) (c : C) (votes : ℕ → Option (Vote C))
    → is_majority config.nodes (λ a. is_vote_in b (votes a)) ≡ false
    → count_votes config learned received p b c votes ≡ keep_received learned
    (update_at received p votes)
no_majority config learned received p b c votes e = rw e refl
