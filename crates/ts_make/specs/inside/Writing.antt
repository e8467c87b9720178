-- Writing octets of which a list may have 4,194,304, and a certificate fewer.
use Rattle.std.specs.Prelude.{◌≡◌, ℕ, ◌<◌, List, ◌++◌, length, Result, Ok, Err}
use Rattle.std.specs.declared.vec.Vec.{Vec}
use Rattle.std.specs.declared.alloc.Global.{Global}
use Rattle.ts_make.specs.declared.fault.MakeFault.{MakeFault}
use Rattle.ts_make.specs.declared.fault.MakeFault.TheVariants.{Memory, TooLong, Unreadable}

-- octets were not written: there are more than a list may have, or memory ran out
abbrev pub IsTooLong : MakeFault → List ℕ → Type 0
IsTooLong TooLong octets = 4194304 < length octets
IsTooLong Memory octets = Unit {0}
IsTooLong (Unreadable f) octets = ⊥

-- a call returned these octets, or they were not written
abbrev pub Writes : Result (Vec ℕ Global) MakeFault → List ℕ → Type 0
Writes (Ok v) octets = v.items ≡ octets
Writes (Err e) octets = IsTooLong e octets

-- a call appended these octets, or with them there would be too many
abbrev pub Appends : Result (Unit {0}) MakeFault → List ℕ → List ℕ → List ℕ → Type 0
Appends (Ok done) part old new = new ≡ old ++ part
Appends (Err e) part old new = IsTooLong e (old ++ part)
