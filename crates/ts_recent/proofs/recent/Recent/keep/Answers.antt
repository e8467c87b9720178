use Rattle.std.proofs.Common.{◌∙◌, subst, List, Some, ℕ}
use Rattle.std.specs.Prelude.{nat_eq}
use Rattle.ts_recent.specs.Recent.{pairs_in, AreAmongOr}
use Rattle.ts_recent.proofs.Pairs.{kept}
use Rattle.ts_recent.proofs.recent.Recent.keep.Goals as goal

pub returns : goal.returns
returns g c = subst
    (λ (o : List ℕ). AreAmongOr {A = List ℕ × g.row.V.Denot} (o, c.args.value)
    (pairs_in {V = g.row.V.Denot} (Some c.put-before.new.self)) c.args.self.now)
    c.key.view_is
    (kept c.in-Some.table c.key.inside.number
    (record { octets = c.key.inside.octets; value = c.args.value }) nat_eq c.put-before.result
    c.put-before.new.self c.self.inside.table c.args.self.now c.in-Some.is
    (c.self.view_is ∙ c.take_room.ensures) c.put-before.ensures.entries c.put-before.ensures.err)
