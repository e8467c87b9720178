-- When a connection is late. Moments are milliseconds on one clock.
use Rattle.std.specs.Prelude.{◌+◌, ◌*◌, ◌-◌, ◌/◌, ◌&&◌, ◌||◌, ℕ, Bool, false, List, ◌∷◌}
use Rattle.std.specs.Prelude.{length, nat_le, nat_lt, nat_eq, if◌then◌else◌}
use Rattle.ts_links.specs.declared.times.Times.{Times}
use Rattle.ts_links.specs.declared.times.Deadlines.{Deadlines}
use Rattle.ts_links.specs.declared.link.Link.{Link}
use Rattle.ts_links.specs.declared.link.Stage.{Stage}
use Rattle.ts_links.specs.declared.link.Stage.TheVariants as stages

-- at opening
abbrev pub times_opened : ℕ → Times
times_opened now = record { idle = now; asked = now; unread = now; gone = 0 }

-- Octets came: the first of a frame begin its time. Those that follow give it no more.
abbrev pub times_came : List ℕ → Times → ℕ → Times
times_came held times now = record times {
  asked = if nat_eq (length held) 0 then now else times.asked;
}

-- A request was taken: the time of the next begins, and that of its answer, if no other waits.
abbrev pub times_took : List ℕ → Times → ℕ → Times
times_took waits times now = record {
  idle = times.idle;
  asked = now;
  unread = if nat_eq (length waits) 0 then now else times.unread;
  gone = if nat_eq (length waits) 0 then 0 else times.gone;
}

-- A fault's answer is put: from now on it is time to read what waits.
abbrev pub times_refused : Times → ℕ → Times
times_refused times now = record {
  idle = times.idle;
  asked = times.asked;
  unread = now;
  gone = 0;
}

-- Octets left: those that wait get more time after each 65,536, and so does a frame that was held
-- back by them.
abbrev pub times_left : List ℕ → ℕ → Times → ℕ → Times
times_left waits count times now = record {
  idle = now;
  asked = if nat_le 65536 (length waits) then now else times.asked;
  unread = if nat_le 65536 (times.gone + count) then now else times.unread;
  gone = if nat_le 65536 (times.gone + count) then 0 else times.gone + count;
}

-- the length that four octets announce, and 0 where they are not there
abbrev pub announced_length : List ℕ → ℕ
announced_length (a ∷ b ∷ c ∷ d ∷ rest) = ((a * 256 + b) * 256 + c) * 256 + d
announced_length other = 0

-- a frame has a second more to come whole for each mebibyte that it announces
abbrev pub more_time : List ℕ → ℕ
more_time held = 1000 * (announced_length held / 1048576)

-- an answer waits too long
abbrev pub is_unread : Deadlines → Link → ℕ → Bool
is_unread deadlines link now = nat_lt 0 (length link.waits)
    && nat_le deadlines.request_ms (now - link.times.unread)

-- a frame takes too long to come whole; one that has to wait until answers leave is not late
abbrev pub is_slow : Deadlines → Link → ℕ → Bool
is_slow deadlines link now = nat_lt 0 (length link.held) && nat_lt (length link.waits) 65536
    && nat_le deadlines.request_ms (now - link.times.asked - more_time link.held)

-- nothing is asked for too long
abbrev pub is_silent : Deadlines → Link → ℕ → Bool
is_silent deadlines link now = nat_eq (length link.held) 0 && nat_eq (length link.waits) 0
    && nat_le deadlines.idle_ms (now - link.times.idle)

-- after a fault there is one time for all that is left
abbrev pub is_late_in : Stage → Deadlines → Link → ℕ → Bool
is_late_in stages.Closed deadlines link now = false
is_late_in stages.Open deadlines link now =
    is_unread deadlines link now || is_slow deadlines link now || is_silent deadlines link now
is_late_in stages.Refused deadlines link now = nat_le deadlines.request_ms (now - link.times.unread)

abbrev pub is_late : Deadlines → Link → ℕ → Bool
is_late deadlines link now = is_late_in link.stage deadlines link now
