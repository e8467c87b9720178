-- The first of what is left is the first of all.
use Rattle.std.proofs.Common.{Option, drop}
use Rattle.ts_access.specs.declared.key.Key.{Key}
use Rattle.ts_site.specs.Commanding.{IsFirst}
use Rattle.ts_site.proofs.commanding.key_with.Given as goal

abbrev pub invariant-loop-key : goal.invariant-loop-key
invariant-loop-key l = (found : Option Key) → IsFirst (drop l.key-index l.keys) l.secret found
    → IsFirst l.keys l.secret found
