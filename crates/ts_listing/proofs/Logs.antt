-- The log of a list of commands.
use Rattle.std.proofs.Common.{◌≡◌, ◌∙◌, ◌++◌, ◌∷◌, ℕ, zero, suc, List, [], take, length, refl, sym, ap, append_assoc}
use Rattle.std.proofs.lemmas.List.{append-nil}
use Rattle.ts_command.specs.declared.command.Command.{Command}
use Rattle.ts_store.specs.Outcome.{outcome_after}
use Rattle.ts_question.specs.Rows.{CommandLine}
use Rattle.ts_listing.specs.Log.{command_row, log_from}

-- one more command
pub log_more : (before cs : List Command) (c : Command) → log_from before (cs ++ c ∷ []) ≡ log_from before cs ++ command_row c (outcome_after (before ++ cs) c) ∷ []
unfolding log_from
log_more before [] c = ap (λ (l : List Command). command_row c (outcome_after l c) ∷ []) (sym (append-nil before))
log_more before (d ∷ ds) c =
    ap (λ (l : List CommandLine). command_row d (outcome_after before d) ∷ l)
    (log_more (before ++ d ∷ []) ds c
    ∙ ap (λ (l : List Command). log_from (before ++ d ∷ []) ds ++ command_row c (outcome_after l c) ∷ []) (append_assoc before (d ∷ []) ds))

-- the first commands
pub log_take : (k : ℕ) (before cs : List Command) → take k (log_from before cs) ≡ log_from before (take k cs)
unfolding log_from
log_take zero before cs = refl
log_take (suc k) before [] = refl
log_take (suc k) before (c ∷ cs) = ap (λ (l : List CommandLine). command_row c (outcome_after before c) ∷ l) (log_take k (before ++ c ∷ []) cs)

pub log_length : (before cs : List Command) → length (log_from before cs) ≡ length cs
unfolding log_from
log_length before [] = refl
log_length before (c ∷ cs) = ap suc (log_length (before ++ c ∷ []) cs)
