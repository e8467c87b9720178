-- When connections are accepted, and how long one may last where keys are wanted. Moments are
-- milliseconds on one clock.
use Rattle.std.specs.Prelude.{◌-◌, ◌/◌, ◌||◌, ℕ, Bool, true, false, Option, Some, None}
use Rattle.std.specs.Prelude.{List, length, nat_le, nat_lt, if◌then◌else◌}
use Rattle.ts_access.specs.Entering.{has_begun, role_in}
use Rattle.ts_access.specs.declared.fault.EntranceFault.{EntranceFault}
use Rattle.ts_access.specs.declared.fault.EntranceFault.TheVariants.{Memory}
use Rattle.ts_access.specs.declared.key.Role.{Role}
use Rattle.ts_access.specs.declared.key.Role.TheVariants.{Reader}
use Rattle.ts_sockets.specs.declared.accepting.Accepts.{Accepts}
use Rattle.ts_sockets.specs.declared.accepting.Accepts.TheVariants.{AtEvent, Now, At}
use Rattle.ts_sockets.specs.declared.counts.Why.{Why}
use Rattle.ts_sockets.specs.declared.counts.Why.TheVariants.{Denied, Failed}
use Rattle.ts_sockets.specs.declared.lock.Lock.{Lock}

-- it is time to accept, where the listener has an event or not
abbrev pub is_due : Accepts → Bool → ℕ → Bool
is_due AtEvent event now = event
is_due Now event now = true
is_due (At moment) event now = nat_le moment now

-- one that has shown no key is over after so many milliseconds, one that has after an hour
abbrev pub is_over : Lock → ℕ → ℕ → Bool
is_over lock millis now =
    nat_le (if has_begun lock.entrance.stage then 3600000 else millis) (now - lock.since)

-- where no keys are wanted none is
abbrev pub is_over_at : Option Lock → ℕ → ℕ → Bool
is_over_at (Some lock) millis now = is_over lock millis now
is_over_at None millis now = false

-- when it was accepted, if it has shown no key since
abbrev pub unknown_since : Lock → Option ℕ
unknown_since lock = if has_begun lock.entrance.stage then None else Some lock.since

-- when it was accepted, if the key that it has shown is a reader's
abbrev pub moment_of_reader : Option Role → ℕ → Option ℕ
moment_of_reader (Some Reader) since = Some since
moment_of_reader other since = None

abbrev pub reader_since : Lock → Option ℕ
reader_since lock = moment_of_reader (role_in lock.entrance.stage) lock.since

-- what came is not let through, whatever memory there is
abbrev pub is_denial : EntranceFault → Bool
is_denial Memory = false
is_denial other = true

-- why a connection failed: its lock did not let through what came, or another reason
abbrev pub failure_of : Option Lock → Why
failure_of (Some lock) = if lock.is_denied then Denied else Failed
failure_of None = Failed

-- so many readers leave less than an eighth of the places to others
abbrev pub are_too_many : ℕ → ℕ → Bool
are_too_many readers places = nat_lt (places - places / 8) readers

-- the lock of a connection has octets ready to be written
abbrev pub has_ready : Option Lock → Bool
has_ready (Some lock) = nat_lt 0 (length lock.out)
has_ready None = false

-- something waits to be written: octets of its lock, or these, which wait to leave its slot
abbrev pub waits : Option Lock → List ℕ → Bool
waits lock leaving = has_ready lock || nat_lt 0 (length leaving)
