-- The command of a client that is under way, and when it is proposed. Moments are milliseconds.
use Rattle.std.specs.Prelude.{◌≡◌, ℕ, Bool, true, false, List, [], ◌+◌, ◌-◌, ◌%◌, ◌^◌}
use Rattle.std.specs.Prelude.{◌&&◌, ◌||◌, is_some, min, nat_eq, nat_le, nat_lt}
use Rattle.std.specs.Prelude.{Option, None, Some, if◌then◌else◌}
use Rattle.std.specs.Global.{Vec}
use Rattle.ts_carrier.specs.Event.{event_of, whole_frame}
use Rattle.ts_carrier.specs.Moment.{later, time_until}
use Rattle.ts_carrier.specs.Rotation.{pace_after, retry_at, turn_at, with_rival}
use Rattle.ts_carrier.specs.declared.event.FrameEvent.{FrameEvent}
use Rattle.ts_carrier.specs.declared.event.FrameEvent.TheVariants.{Submits}
use Rattle.ts_carrier.specs.declared.gate.Gate.{Gate}
use Rattle.ts_carrier.specs.declared.gate.WantedCommand.{WantedCommand}

-- no command is under way at a node of a group of so many, which knows none yet
pub record IsNew (own nodes : ℕ) (gate : Gate) : Type 0 where
  pub wanted : gate.wanted ≡ None
  pub rests : gate.rests ≡ 0
  pub own_is : gate.rotation.own ≡ own
  pub nodes_are : gate.rotation.nodes ≡ nodes
  pub pace_is : gate.rotation.pace ≡ 1
  pub no_rivals : gate.rotation.rivals.items ≡ []
  pub prefix : gate.prefix ≡ 0
  pub grown : gate.grown ≡ 0

-- a command is submitted
abbrev pub submits : FrameEvent → Bool
submits Submits = true
submits _ = false

-- there is a whole frame, and it submits a command
abbrev pub is_submit_in : Option (List ℕ) → Bool
is_submit_in (Some frame) = submits (event_of frame)
is_submit_in None = false

-- a whole frame that submits a command begins here
abbrev pub is_submit : List ℕ → Bool
is_submit held = is_submit_in (whole_frame held)

-- A frame has to wait: it submits a command while another one is under way, or before the node may
-- take the next. A node that is alone in its group chooses each in its turn, and none waits.
abbrev pub is_held_back : Gate → List ℕ → ℕ → Bool
is_held_back gate held now = nat_lt 1 gate.rotation.nodes
    && (is_some gate.wanted || nat_lt now gate.rests) && is_submit held

-- how long to wait for a command that was proposed so often: a quarter of a second, twice as long
-- each time, up to two seconds
abbrev pub patience : ℕ → ℕ
patience tries = if nat_eq tries 1 then 250 else
    (if nat_eq tries 2 then 500 else (if nat_eq tries 3 then 1000 else 2000))

-- it is proposed again after that, and by chance up to as long again
abbrev pub again_after : ℕ → ℕ → ℕ → ℕ
again_after tries now chance = later (later now (patience tries)) (chance % patience tries)

-- a command that was proposed once
abbrev pub new_command : Vec ℕ → ℕ → ℕ → WantedCommand
new_command frame now chance =
    record { frame = frame; since = now; tries = 1; again = again_after 1 now chance }

-- the frame of the command, where it is time to propose it again
abbrev pub due : Option WantedCommand → ℕ → Option (List ℕ)
due None now = None
due (Some wanted) now = if nat_le wanted.again now then Some wanted.frame.items else None

-- after it was proposed once more: it is given up after ten seconds
abbrev pub after_try : Option WantedCommand → ℕ → ℕ → Option WantedCommand
after_try None now chance = None
after_try (Some wanted) now chance = if nat_le 10000 (now - wanted.since) then None
    else Some (record {
      frame = wanted.frame;
      since = wanted.since;
      tries = min (wanted.tries + 1) (2 ^ 32 - 1);
      again = again_after (min (wanted.tries + 1) (2 ^ 32 - 1)) now chance;
    })

-- after a round of it was refused: it is proposed again at its retry, if it isn't before
abbrev pub after_refusal : Gate → Option WantedCommand → ℕ → ℕ → Option WantedCommand
after_refusal gate None now chance = None
after_refusal gate (Some wanted) now chance = Some (record wanted {
  again = min wanted.again (retry_at gate.rotation gate.prefix now wanted.tries chance);
})

-- the turn of the node at the next position
abbrev pub next_turn : Gate → ℕ → ℕ
next_turn gate now = turn_at gate.rotation gate.prefix now

-- after another node was seen to propose
pub record Sees (node now : ℕ) (old new : Gate) : Type 0 where
  pub rivals_are : new.rotation.rivals.items ≡ with_rival old.rotation.rivals.items node now
  pub others : new
      ≡ record old { rotation = record old.rotation { rivals = new.rotation.rivals } }

-- after a command was chosen: a majority runs, so the one that is under way has as much time again,
-- and is proposed at the node's turn, if it isn't before
abbrev pub renewed : Gate → Option WantedCommand → ℕ → Option WantedCommand
renewed gate None now = None
renewed gate (Some wanted) now = Some (record wanted {
  since = now;
  again = min wanted.again (next_turn gate now);
})

-- the node knows so many commands: if they are more, how long a position takes is learned of it
abbrev pub after_growth : Gate → ℕ → ℕ → Gate
after_growth gate prefix now =
    if nat_le prefix gate.prefix then gate else
    (let pace = pace_after gate.rotation.pace (now - gate.grown) in
    let grown = record gate {
      rotation = record gate.rotation { pace = pace };
      prefix = prefix;
      grown = now;
    } in
    record grown { wanted = renewed grown gate.wanted now })

-- no command is under way any more, and the next one is taken at the node's turn
abbrev pub after_end : Gate → ℕ → Gate
after_end gate now = record gate { wanted = None; rests = next_turn gate now }

-- how long it is, and at most so long, until the command is proposed again, or until the next one
-- is taken
abbrev pub time_to_wait : Gate → Option WantedCommand → ℕ → ℕ → ℕ
time_to_wait gate (Some wanted) now longest = time_until wanted.again now longest
time_to_wait gate None now longest =
    if nat_lt now gate.rests then time_until gate.rests now longest else longest
