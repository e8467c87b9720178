-- What holds of questions that ask the same, and the headline: what holds of every run of nodes
-- over the trust store.
use Rattle.std.specs.Prelude.{◌≡◌, ℕ, List, Option}
use Rattle.ts_synod.specs.Lists.{Has}
use Rattle.ts_synod.specs.Store.{Store}
use Rattle.ts_node.specs.Machine.{store_of}
use Rattle.ts_node.specs.Run.{Exchange, Group, Happening, RunPromises, after_all}
use Rattle.ts_node.specs.declared.input.Input.TheVariants.{Ask}
use Rattle.ts_node.specs.declared.input.Reply.TheVariants as replies
use Rattle.ts_revoke.specs.Question.{Check}
use Rattle.ts_question.specs.Question.{StoreQuestion, QuestionFits}
use Rattle.ts_question.specs.Reply.{NumberedReply}
use Rattle.ts_command.specs.Commands.{id_of}
use Rattle.ts_command.specs.declared.command.Command.{Command}
use Rattle.ts_command.specs.declared.outcome.Outcome.{Outcome}
use Rattle.ts_store.specs.Outcome.{outcome_after}
use Rattle.ts_answer.specs.Machine.{IsAnswer}

-- two questions ask the same, apart from whether k is written or is the prefix
abbrev pub AskTheSame : StoreQuestion → StoreQuestion → Type 0
AskTheSame q p = p ≡ record { terms = record q.terms { k = p.terms.k }; target = q.target }

-- the trust store as the state machine of the protocol (Paxos Made Simple 3)
abbrev pub trust_store : Store Command Outcome (List Command) StoreQuestion (List Command)
trust_store = store_of StoreQuestion id_of outcome_after

-- the answer that was given to a question, after so many commands
abbrev pub answer_exchange : Option ℕ → StoreQuestion → ℕ → NumberedReply → Exchange Command
    Outcome StoreQuestion NumberedReply
answer_exchange at' q k a = record { input = Ask at' q; reply = replies.Answered k a }

-- The headline, of a run of a group of nodes.
-- `promised`: no two nodes have learned different commands at one position, and what is learned is
-- chosen; every answer given at k is the one of path validation or of the search (RFC 5280 6.1,
-- 6.3) over the store that the first k chosen commands make; each id is settled at its first
-- position among the chosen commands, with the outcome there; each chosen command was submitted.
-- What is chosen is so in a run of the protocol's world that the group follows at each moment.
-- `equal`: questions that ask the same at k got equal answers.
pub record Headline {D M : Type 0} (good : Check) (n : ℕ)
    (start : Group D Command M Outcome StoreQuestion NumberedReply)
    (run : List (Happening D Command M Outcome StoreQuestion NumberedReply)) : Type 0 where
  pub promised : RunPromises trust_store (IsAnswer good) n start run
  pub equal : (x y : Option ℕ) (q p : StoreQuestion) (k : ℕ) (a b : NumberedReply) → QuestionFits q
      → AskTheSame q p
      → Has (after_all start run).given (answer_exchange x q k a)
      → Has (after_all start run).given (answer_exchange y p k b) → a ≡ b
