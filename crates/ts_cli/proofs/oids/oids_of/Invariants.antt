use Rattle.std.proofs.Common.{◌≡◌, take, map}
use Rattle.ts_cli.specs.Values.{written}
use Rattle.ts_cli.proofs.oids.oids_of.Given as goal

abbrev pub invariant-loop-text : goal.invariant-loop-text
invariant-loop-text l = map written l.oids.items ≡ map (λ text. text.now) (take l.text-index l.texts)
