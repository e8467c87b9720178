-- The command and the question that words say.
use Rattle.std.specs.Prelude.{ℕ, Bool, false, nat_lt, List, [], length}
use Rattle.ts_command.specs.declared.command.Command.{Command}
use Rattle.ts_command.specs.declared.command.Command.TheVariants.{AddAnchor, WithdrawAnchor}
use Rattle.ts_command.specs.declared.command.Command.TheVariants.{LoadCrl, DropCrl, SetPurposes}
use Rattle.ts_command.specs.declared.command.Command.TheVariants as command
use Rattle.ts_question.specs.Question.{StoreQuestion}
use Rattle.ts_question.specs.declared.terms.Terms.{Terms}
use Rattle.ts_question.specs.declared.question.Target.{Target}
use Rattle.ts_question.specs.declared.question.Target.TheVariants as target
use Rattle.ts_cli.specs.declared.command_words.CommandAction.{CommandAction}
use Rattle.ts_cli.specs.declared.command_words.CommandAction.TheVariants.{Add, Withdraw, Load, Drop}
use Rattle.ts_cli.specs.declared.command_words.CommandAction.TheVariants.{Purposes, Noop}
use Rattle.ts_cli.specs.declared.question_words.QuestionWords.{QuestionWords}
use Rattle.ts_cli.specs.declared.question_words.TermWords.{TermWords}
use Rattle.ts_cli.specs.declared.question_words.Subject.{Subject}
use Rattle.ts_cli.specs.declared.question_words.Subject.TheVariants.{Chain, Search}

-- the command of an id that does a change, with the octets of its file
abbrev pub command_in : List ℕ → CommandAction → List ℕ → Command
command_in id (Add file) contents = AddAnchor id contents
command_in id (Withdraw anchor) contents = WithdrawAnchor id anchor
command_in id (Load file issuers unchecked) contents = LoadCrl id contents
command_in id (Drop list) contents = DropCrl id list
command_in id (Purposes anchor purposes) contents = SetPurposes id anchor purposes
command_in id Noop contents = command.Noop id

-- the file is longer than a command holds
abbrev pub is_too_long : CommandAction → List ℕ → Bool
is_too_long (Add file) contents = nat_lt 65536 (length contents)
is_too_long (Withdraw anchor) contents = false
is_too_long (Load file issuers unchecked) contents = nat_lt 4194304 (length contents)
is_too_long (Drop list) contents = false
is_too_long (Purposes anchor purposes) contents = false
is_too_long Noop contents = false

-- what is asked beside the certificates, without initial subtrees
abbrev pub terms_in : TermWords → Terms
terms_in words = record {
  moment = words.moment;
  flags = words.flags;
  k = words.k;
  purpose = words.purpose;
  user_policies = words.policies;
  permitted_subtrees = [];
  excluded_subtrees = [];
}

abbrev pub target_in : Subject → List (List ℕ) → Target
target_in (Chain anchor) certificates = target.Chain anchor certificates
target_in Search certificates = target.Search certificates

-- the question that words ask about certificates
abbrev pub asked_in : QuestionWords → List (List ℕ) → StoreQuestion
asked_in words certificates = record
    { terms = terms_in words.terms; target = target_in words.subject certificates }
