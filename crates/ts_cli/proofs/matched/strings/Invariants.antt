use Rattle.std.proofs.Common.{◌≡◌, take, map, string_bytes}
use Rattle.ts_cli.proofs.matched.strings.Given as goal

abbrev pub invariant-loop-text : goal.invariant-loop-text
invariant-loop-text l = map string_bytes l.strings.items ≡ map (λ text. text.now) (take l.text-index l.texts)
