use Rattle.std.proofs.Common.{◌≡◌, drop}
use Rattle.ts_store.specs.Contents.{no_contents}
use Rattle.ts_store.specs.inside.History.{replay}
use Rattle.ts_store.proofs.history.replay.Given as goal

abbrev pub invariant-loop-one : goal.invariant-loop-one
invariant-loop-one l = replay l.snapshot (drop l.one-index l.taken) ≡ replay no_contents l.taken
