-- In which order nodes propose, where several do. Moments are milliseconds.
use Rattle.std.specs.Prelude.{ℕ, Bool, not, ◌+◌, ◌-◌, ◌*◌, ◌/◌, ◌%◌, ◌^◌, ◌&&◌, ◌++◌, [], ◌∷◌, List}
use Rattle.std.specs.Prelude.{filter, length, max, min, nat_eq, nat_lt}
use Rattle.ts_carrier.specs.Moment.{later}
use Rattle.ts_carrier.specs.declared.rotation.Rival.{Rival}
use Rattle.ts_carrier.specs.declared.rotation.Rotation.{Rotation}

-- how far a node is behind the first of its group, which is another one for each eight positions
abbrev pub distance : ℕ → ℕ → ℕ → ℕ
distance node nodes position = (node + max nodes 1 - position / 8 % max nodes 1) % max nodes 1

-- a node was seen to propose within the last second, and comes before this one at a position
abbrev pub is_before : Rotation → ℕ → ℕ → Rival → Bool
is_before rotation position now rival = nat_lt (now - rival.seen) 1000
    && nat_lt (distance rival.node rotation.nodes position)
    (distance rotation.own rotation.nodes position)

-- how many such nodes there are
abbrev pub rank : Rotation → ℕ → ℕ → ℕ
rank rotation position now = length (filter (is_before rotation position now) rotation.rivals.items)

-- the turn of the node at a position: those before it have the time of a position each
abbrev pub turn_at : Rotation → ℕ → ℕ → ℕ
turn_at rotation position now = later now (rotation.pace * rank rotation position now)

-- the length of the time in which a command is proposed again, at a moment that chance picks, after
-- so many tries: each time twice as long, the seventh time 128 times
abbrev pub window : Rotation → ℕ → ℕ
window rotation tries = (2 * rotation.pace + 2) * 2 ^ min tries 7

-- when a command whose round was refused is proposed again, if nothing is chosen meanwhile: that
-- time begins once the node's turn has passed
abbrev pub retry_at : Rotation → ℕ → ℕ → ℕ → ℕ → ℕ
retry_at rotation position now tries chance =
    later (later (turn_at rotation position now) rotation.pace) (chance % window rotation tries)

-- How long a position takes, by one that took so many whole milliseconds: those and one, as the
-- last is not whole. At most twice as long as before and 11 more, since a group may have rested
-- meanwhile, and at most half a second.
abbrev pub pace_after : ℕ → ℕ → ℕ
pace_after pace took = min (min took (2 * pace + 10)) 500 + 1

-- a node was seen to propose
abbrev pub with_rival : List Rival → ℕ → ℕ → List Rival
with_rival rivals node now =
    filter (λ rival. not (nat_eq rival.node node)) rivals
    ++ (record { node = node; seen = now }) ∷ []
