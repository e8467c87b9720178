use Rattle.std.proofs.Common.{◌≡◌, map, take, length}
use Rattle.ts_answer.proofs.trusted.TrustedAnchor.of.Given as goal

abbrev pub invariant-loop-number : goal.invariant-loop-number
invariant-loop-number l = record { copied : map (λ c. c.now) (take l.number l.contents) ≡ take l.number l.oids; room : length l.contents ≡ 16 }
