-- What was handed on, by what the call did.
use Rattle.ts_access.proofs.Entries.{taken}
use Rattle.ts_access.proofs.entrance.Entrance.take.Goals as goal

pub returns-clause-handed : goal.returns-clause-handed
returns-clause-handed c came handed at =
    taken c.args.keys.now c.args.self.now _ came handed c.go.result c.go.ensures.same
    c.go.ensures.takes at
