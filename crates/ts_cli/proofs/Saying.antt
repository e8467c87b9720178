-- The task of a subcommand of the program.
use Rattle.std.proofs.Common.{◌≡◌, ◌≤◌, ℕ, List, Option, Some, None, MatchOption, codes, string_bytes, arith}
use Rattle.std.proofs.lemmas.List.{length-map}
use Rattle.clap.specs.Walk.{Text, Row, first_of}
use Rattle.ts_literal.specs.Literals.{IsNumberIn}
use Rattle.ts_cli.specs.Serving.{IsServe, IsServable}
use Rattle.ts_cli.specs.declared.serve_words.ServeWords.{ServeWords}
use Rattle.ts_cli.specs.Says.{SaysTask, SaysAny, IsInRange}
use Rattle.ts_cli.specs.declared.task.Task.{Task}
use Rattle.ts_cli.specs.declared.task.Task.TheVariants.{Lab, Format, Migrate, Serve, Verify, Submit}
use Rattle.ts_cli.specs.declared.task.Task.TheVariants.{Ask, Carry, Status, Identify, CatchUp}
use Rattle.ts_cli.specs.declared.task.Task.TheVariants.{Compact, Command, Question, Id, Show}
use Rattle.ts_cli.specs.declared.task.Task.TheVariants.{Keygen, Store, Log, Diff, Sync}
use Rattle.ts_cli.specs.declared.task.Task.TheVariants.{Replay}

pub says_any : (own : List Row) (name : Text) (rows : List Row) (task : Task) → SaysTask name rows task → SaysAny own name rows task
says_any own name rows (Command words) says = absurd says
says_any own name rows (Question words) says = absurd says
says_any own name rows Lab says = says
says_any own name rows (Format file id nodes group) says = says
says_any own name rows (Migrate old new) says = says
says_any own name rows (Serve words) says = says
says_any own name rows (Verify words) says = says
says_any own name rows (Submit reach file wait) says = says
says_any own name rows (Ask reach file check explain) says = says
says_any own name rows (Carry addresses rounds) says = says
says_any own name rows (Status reach) says = says
says_any own name rows (Identify reach) says = says
says_any own name rows (CatchUp reach) says = says
says_any own name rows (Compact reach) says = says
says_any own name rows (Store reach k json) says = says
says_any own name rows (Log reach from k json) says = says
says_any own name rows (Diff reach old new) says = says
says_any own name rows (Sync words) says = says
says_any own name rows (Replay file reach wait) says = says
says_any own name rows (Keygen role) says = says
says_any own name rows (Id file) says = says
says_any own name rows (Show file) says = says

from-least : (given : Option Text) (least most absent n : ℕ) → MatchOption given (n ≡ absent) (λ text. IsNumberIn least most text n) → least ≤ absent → least ≤ n
from-least None least most absent n is h = omega (arith, is, h)
from-least (Some text) least most absent n is h = is.from

to-most : (given : Option Text) (least most absent n : ℕ) → MatchOption given (n ≡ absent) (λ text. IsNumberIn least most text n) → absent ≤ most → n ≤ most
to-most None least most absent n is h = omega (arith, is, h)
to-most (Some text) least most absent n is h = is.to

servable : (rows : List Row) (words : ServeWords) → IsServe rows words → IsServable words
servable rows words s = record {
  idle_from = from-least (first_of (codes "idle") rows) 1 3600 30 words.idle s.idle_is (omega arith);
  idle_to = to-most (first_of (codes "idle") rows) 1 3600 30 words.idle s.idle_is (omega arith);
  request_from = from-least (first_of (codes "request") rows) 1 3600 5 words.request s.request_is (omega arith);
  request_to = to-most (first_of (codes "request") rows) 1 3600 5 words.request s.request_is (omega arith);
  at_once_from = from-least (first_of (codes "connections-at-once") rows) 1 4096 512 words.at_once s.at_once_is (omega arith);
  at_once_to = to-most (first_of (codes "connections-at-once") rows) 1 4096 512 words.at_once s.at_once_is (omega arith);
  connections_from = from-least (first_of (codes "connections") rows) 1 1000000 1000000 words.connections s.connections_is (omega arith);
  connections_to = to-most (first_of (codes "connections") rows) 1 1000000 1000000 words.connections s.connections_is (omega arith);
}

-- what is asked for is in range
pub in_range : (own : List Row) (name : Text) (rows : List Row) (task : Task) → SaysAny own name rows task → IsInRange task
in_range own name rows (Format file id nodes group) says = (says.id_is.is.from, says.id_is.is.to, says.nodes_is.is.to)
in_range own name rows (Serve words) says = servable rows words says.1
in_range own name rows (Verify words) says = tt
in_range own name rows (Carry addresses rounds) says =
    let count = length-map addresses.items string_bytes in
    (omega (arith, count, says.least), omega (arith, count, says.most), says.rounds_is.is.from, says.rounds_is.is.to)
in_range own name rows Lab says = tt
in_range own name rows (Migrate old new) says = tt
in_range own name rows (Submit reach file wait) says =
    to-most (first_of (codes "wait") rows) 1 3600 0 wait says.1 (omega arith)
in_range own name rows (Ask reach file check explain) says = tt
in_range own name rows (Command words) says = tt
in_range own name rows (Question words) says = tt
in_range own name rows (Status reach) says = tt
in_range own name rows (Identify reach) says = tt
in_range own name rows (CatchUp reach) says = tt
in_range own name rows (Compact reach) says = tt
in_range own name rows (Store reach k json) says = tt
in_range own name rows (Log reach from k json) says = tt
in_range own name rows (Diff reach old new) says = tt
in_range own name rows (Sync words) says =
    to-most (first_of (codes "wait") rows) 1 3600 10 words.wait says.1.wait_is (omega arith)
in_range own name rows (Replay file reach wait) says =
    to-most (first_of (codes "wait") rows) 1 3600 10 wait says.1 (omega arith)
in_range own name rows (Keygen role) says = tt
in_range own name rows (Id file) says = tt
in_range own name rows (Show file) says = tt
