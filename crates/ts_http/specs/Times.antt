-- How long a connection of HTTP may do what it does, in milliseconds.
use Rattle.std.specs.Prelude.{ℕ, Bool, true, false, nat_le, nat_eq, min, max, List, [], ◌∷◌, length}
use Rattle.std.specs.Prelude.{◌+◌, ◌*◌, ◌-◌, ◌/◌, ◌^◌, Option, Some, None, if◌then◌else◌}
use Rattle.ts_http.specs.declared.connection.Connection.{Connection}
use Rattle.ts_http.specs.declared.connection.Stage.{Stage}
use Rattle.ts_http.specs.declared.connection.Stage.TheVariants as stages
use Rattle.ts_http.specs.declared.times.Phase.{Phase}
use Rattle.ts_http.specs.declared.times.Phase.TheVariants.{Idle, Request, Asked, Answer, Ended}
use Rattle.ts_http.specs.declared.times.Times.{Times}

-- a request has a second more for each mebibyte of its body; while the node is asked it has
-- 2^64 - 1 milliseconds, which no clock here reaches
abbrev pub longest : Phase → ℕ → ℕ → ℕ → ℕ
longest Idle idle request size = idle
longest Request idle request size = min (2 ^ 64 - 1) (request + size / 1048576 * 1000)
longest Asked idle request size = 2 ^ 64 - 1
longest Answer idle request size = request
longest Ended idle request size = request

-- a new connection: nothing is asked, from this moment on
abbrev pub begun_at : ℕ → Times
begun_at now = record { phase = Idle; since = now; left = 0 }

abbrev pub is_late : Times → ℕ → ℕ → ℕ → ℕ → Bool
is_late t idle request size now = nat_le (longest t.phase idle request size) (now - t.since)

-- since when nothing is asked
abbrev pub idle_at : Phase → ℕ → Option ℕ
idle_at Idle since = Some since
idle_at other since = None

abbrev pub idle_since : Times → Option ℕ
idle_since t = idle_at t.phase t.since

-- ---- what a connection does

-- nothing was held when no head has come: nothing is asked
abbrev pub awaiting : List ℕ → Phase
awaiting [] = Idle
awaiting (octet ∷ octets) = Request

abbrev pub phase_at : Stage → List ℕ → Phase
phase_at stages.Head input = awaiting input
phase_at (stages.Body r) input = Request
phase_at (stages.Whole r) input = Asked
phase_at (stages.Wrong status is_head) input = Asked
phase_at stages.Ended input = Ended

-- what waits to leave goes before
abbrev pub phase_of : List ℕ → Phase → Phase
phase_of [] phase = phase
phase_of (octet ∷ octets) phase = Answer

abbrev pub phase_in : Connection → Phase
phase_in c = phase_of c.out (phase_at c.stage c.input)

abbrev pub is_phase : Phase → Phase → Bool
is_phase Idle Idle = true
is_phase Request Request = true
is_phase Asked Asked = true
is_phase Answer Answer = true
is_phase Ended Ended = true
is_phase phase other = false

-- it does something else from now on
abbrev pub enter_phase : Phase → ℕ → Times → Times
enter_phase phase now t =
    if is_phase t.phase phase then t else record { phase = phase; since = now; left = 0 }

-- octets left: after each 65,536 the time begins anew
abbrev pub lighten : ℕ → ℕ → Times → Times
lighten count now t = let left = min (2 ^ 64 - 1) (t.left + count) in
    if nat_le 65536 left then record t { left = 0; since = now } else record t { left = left }

-- how many octets of a body are announced, or have come
abbrev pub size_at : Stage → ℕ → ℕ
size_at (stages.Body r) announced = max announced (length r.body.items)
size_at other announced = 0

abbrev pub is_late_in : Connection → ℕ → ℕ → ℕ → Bool
is_late_in c idle request now = is_late c.times idle request (size_at c.stage c.announced) now
