-- What waits for the peers. That it is what waited and what came, and nothing else, is said by
-- tests of a peer's number and a frame's octets: whatever test those pass, it passes.
use Rattle.std.specs.Prelude.{◌≡◌, ℕ, Bool, true, List, filter}
use Rattle.std.specs.List.{list_all}
use Rattle.ts_carrier.specs.declared.gate.Gate.{Gate}
use Rattle.ts_command.specs.declared.command.Command.{Command}
use Rattle.ts_synod.specs.declared.message.Message.{Message}
use Rattle.ts_peers.specs.Events.{HaveHeard}
use Rattle.ts_peers.specs.Frames.{BeginWithMessages, frame_of, is_to_another, is_to_itself}
use Rattle.ts_peers.specs.declared.line.Line.{Line}

-- each frame that waits on a line passes
abbrev pub all_pass : (ℕ → List ℕ → Bool) → Line → Bool
all_pass test line = list_all (λ frame. test line.node frame.items) line.mailbox.frames.items

-- each that waits on these lines does
abbrev pub all_lines_pass : (ℕ → List ℕ → Bool) → List Line → Bool
all_lines_pass test lines = list_all (all_pass test) lines

-- each of these messages does, in its frame, for the node that it is to
abbrev pub all_messages_pass : (ℕ → List ℕ → Bool) → List (Message Command) → Bool
all_messages_pass test messages = list_all (λ m. test m.to (frame_of m)) messages

-- Of the messages that these octets begin with some that are to another node than they are from
-- came to the lines, each to that of its node, and some that are to the same node came in their
-- frames to the node itself; and nothing else. Each was heard.
pub record HasSorted (given : List ℕ) (now : ℕ) (old new : List Line) (before after : Gate)
    (own : List (List ℕ)) : Type 0 where
  pub messages : List (Message Command)
  pub begin : BeginWithMessages given messages
  pub lines : (test : ℕ → List ℕ → Bool) → all_lines_pass test old ≡ true
      → all_messages_pass test (filter is_to_another messages) ≡ true
      → all_lines_pass test new ≡ true
  pub itself : (test : List ℕ → Bool)
      → list_all (λ m. test (frame_of m)) (filter is_to_itself messages) ≡ true
      → list_all test own ≡ true
  pub heard : HaveHeard messages now before after
