-- What would be ready and wait in the end, and all octets that wait, stay; each round fewer frames
-- wait.
use Rattle.std.proofs.Common.{◌≡◌, length}
use Rattle.ts_carrier.specs.Mailbox.{fill, octets_in}
use Rattle.ts_carrier.proofs.mailbox.Mailbox.fill.Given as goal

abbrev pub invariant-loop-self : goal.invariant-loop-self
invariant-loop-self l = (fill l.self.ready l.self.frames.items
    ≡ fill l.initial.self.ready l.initial.self.frames.items)
    × (octets_in l.self ≡ octets_in l.initial.self)

abbrev pub decreases-loop-self : goal.decreases-loop-self
decreases-loop-self l = length l.self.frames.items
