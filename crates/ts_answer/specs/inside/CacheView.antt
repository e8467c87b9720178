-- What private clauses see of a cache of pairs of octets.
use Rattle.std.specs.Prelude.{ℕ, List}
use Rattle.std.specs.declared.alloc.Global.{Global}
use Rattle.std.specs.declared.vec.Vec.{Vec}

abbrev pub octets_in : List ℕ × Vec ℕ Global → List ℕ × List ℕ
octets_in pair = (pair.0, pair.1.items)
