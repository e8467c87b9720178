-- What private clauses see of replies, verdicts and answers of a search that are in their ranges,
-- and of the commands that were taken.
use Rattle.std.specs.Prelude.{◌≡◌, ◌≤◌, ◌<◌, ◌^◌, ℕ, suc, true, List, map, length}
use Rattle.std.specs.List.{AllByRecursion}
use Rattle.ts_der.specs.declared.oid.OidRef.{OidRef}
use Rattle.ts_path.specs.declared.verdict.Verdict.{Verdict}
use Rattle.ts_path.specs.declared.verdict.Verdict.TheVariants.{Valid, Invalid}
use Rattle.ts_search.specs.declared.answer.SearchAnswer.{SearchAnswer}
use Rattle.ts_search.specs.declared.answer.SearchAnswer.TheVariants.{Found, NoPath, SearchLimit}
use Rattle.ts_question.specs.Reply.{are_places, is_place, is_reply}
use Rattle.ts_question.specs.declared.reply.Reply.{Reply}
use Rattle.ts_command.specs.Commands.{CommandFits}
use Rattle.ts_command.specs.declared.command.Command.{Command}

-- each field is in its range, whatever k is
abbrev pub InRange : Reply → Type 0
InRange reply = (k : ℕ) → is_reply k reply ≡ true

-- so few policies that four octets hold their number
abbrev pub AreFew : List OidRef → Type 0
AreFew policies = length policies < 2 ^ 32

-- a verdict that says policies says few, and one that says a position says one of a chain
abbrev pub IsSayable : Verdict → Type 0
IsSayable (Valid policies) = AreFew policies.items
IsSayable (Invalid position reason) = is_place position ≡ true

-- a chain is found under one of so many anchors, among the certificates of a question, with few
-- policies
abbrev pub IsAmong : ℕ → SearchAnswer → Type 0
IsAmong anchors (Found number chain policies) = (number < anchors)
    × AllByRecursion (λ i. i < 33) chain.items × (are_places (map suc chain.items) ≡ true)
    × AreFew policies.items
IsAmong anchors NoPath = Unit {0}
IsAmong anchors SearchLimit = Unit {0}

-- as many commands as have positions, each within its limits
pub record AreTaken (commands : List Command) : Type 0 where
  pub few : length commands ≤ 1000000
  pub fit : AllByRecursion CommandFits commands
