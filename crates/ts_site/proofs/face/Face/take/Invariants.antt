-- So far steps were made, which read what was due but the first, and no request waits.
use Rattle.std.proofs.Common.{◌≡◌, ◌≤◌, ◌+◌, ◌⊎◌, List}
use Rattle.ts_site.specs.Faces.{State, Takes, count_due, state_of}
use Rattle.ts_site.specs.inside.Stepping.{IsSettled}
use Rattle.ts_site.proofs.face.Face.take.Given as goal

abbrev pub invariant-loop-step : goal.invariant-loop-step
invariant-loop-step l = (mids : List State) × Takes l.scene l.now (state_of l.initial.self) mids (state_of l.self)
    × (l._step ≤ count_due mids + 1) × ((l._step ≡ 0) ⊎ IsSettled (state_of l.self))
