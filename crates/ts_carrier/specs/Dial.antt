-- When to connect to a peer. Moments and delays are milliseconds.
use Rattle.std.specs.Prelude.{ℕ, Bool, false, ◌+◌, ◌*◌, ◌-◌, ◌/◌, ◌%◌, min, nat_le}
use Rattle.std.specs.Prelude.{if◌then◌else◌}
use Rattle.ts_carrier.specs.Moment.{later}
use Rattle.ts_carrier.specs.declared.dial.Dial.{Dial}
use Rattle.ts_carrier.specs.declared.dial.Phase.{Phase}
use Rattle.ts_carrier.specs.declared.dial.Phase.TheVariants as phases

-- it may be tried at once
abbrev pub new_dial : Dial
new_dial = record { phase = phases.Down 0; delay = 50 }

abbrev pub is_due : Phase → ℕ → Bool
is_due (phases.Down until) now = nat_le until now
is_due (phases.Dialing since) now = false
is_due (phases.Up since) now = false

-- the delay that was kept; the first one again after a connection that lasted a second
abbrev pub delay_after : Phase → ℕ → ℕ → ℕ
delay_after (phases.Down until) delay now = delay
delay_after (phases.Dialing since) delay now = delay
delay_after (phases.Up since) delay now = if nat_le 1000 (now - since) then 50 else delay

-- The next try is after the delay and, by chance, at most half of it more. The delay is doubled
-- then, up to five seconds.
abbrev pub after_loss : Dial → ℕ → ℕ → Dial
after_loss dial now chance =
    let delay = delay_after dial.phase dial.delay now in
    record {
      phase = phases.Down (later (later now delay) (chance % (delay / 2 + 1)));
      delay = min (delay * 2) 5000;
    }

-- A peer that was heard last at this moment is silent for too long: for five seconds, and a second
-- more for each 256 KiB that it was sent since, as it answers a message once that is whole.
abbrev pub is_silent : ℕ → ℕ → ℕ → Bool
is_silent heard sent now = nat_le (5000 + sent / 262144 * 1000) (now - heard)
