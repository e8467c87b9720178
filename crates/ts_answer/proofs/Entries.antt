-- The entries of the log are the commands with what each came to.
use Rattle.std.proofs.Common.{◌≡◌, ◌∙◌, ◌++◌, ◌∷◌, ℕ, List, [], map, take, length, refl, sym, ap}
use Rattle.std.proofs.lemmas.List.{take-map}
use Rattle.ts_command.specs.declared.command.Command.{Command}
use Rattle.ts_command.specs.declared.outcome.Outcome.{Outcome}
use Rattle.ts_store.specs.Outcome.{outcome_after}
use Rattle.ts_question.specs.Rows.{command_encoding}
use Rattle.ts_listing.specs.Log.{command_row, log_from, log_of, log_rows}
use Rattle.ts_listing.specs.View.{line_in}
use Rattle.ts_listing.specs.declared.log.Entry.{Entry}
use Rattle.ts_listing.proofs.Logs.{log_more, log_take, log_length}
use Rattle.ts_search.proofs.Takes.{length_map}
use Rattle.ts_answer.specs.inside.View.{AreEntries}

pub no_entries : (commands : List Command) (entries : List Entry) → commands ≡ [] → entries ≡ [] → AreEntries entries commands
unfolding log_from
no_entries commands entries none empty = ap (map line_in) empty ∙ ap log_of (sym none)

map_more : (xs : List Entry) (x : Entry) → map line_in (xs ++ x ∷ []) ≡ map line_in xs ++ line_in x ∷ []
map_more [] x = refl
map_more (y ∷ ys) x = ap (λ l. line_in y ∷ l) (map_more ys x)

-- one more command
pub one_more : (commands more : List Command) (command : Command) (entries next : List Entry)
    (entry : Entry) (outcome : Outcome) → AreEntries entries commands → more ≡ commands ++ command
    ∷ [] → next ≡ entries ++ entry ∷ [] → outcome ≡ outcome_after commands command
    → line_in entry ≡ command_row command outcome
    → AreEntries next more
one_more commands more command entries next entry outcome are more-is next-is outcome-is entry-is =
    ap (map line_in) next-is ∙ map_more entries entry
    ∙ (λ i. are i ++ (entry-is ∙ ap (command_row command) outcome-is) i ∷ [])
    ∙ sym (log_more [] commands command) ∙ ap log_of (sym more-is)

pub are_counted : (entries : List Entry) (commands : List Command) → AreEntries entries commands → length entries ≡ length commands
are_counted entries commands are = sym (length_map line_in entries) ∙ ap length are ∙ log_length [] commands

-- the rows of the first entries
pub first_rows : (entries : List Entry) (commands : List Command) (k : ℕ) → AreEntries entries commands → map command_encoding (map line_in (take k entries)) ≡ log_rows (take k commands)
first_rows entries commands k are = ap (map command_encoding) (sym (take-map line_in k entries) ∙ ap (take k) are ∙ log_take k [] commands)
