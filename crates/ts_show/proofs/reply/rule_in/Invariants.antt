-- None of the rules before has the code.
use Rattle.std.proofs.Common.{◌≡◌, ◌==◌, drop, find}
use Rattle.ts_shape.specs.Fault.{code_of}
use Rattle.ts_show.proofs.reply.rule_in.Given as goal

abbrev pub invariant-loop-rule : goal.invariant-loop-rule
invariant-loop-rule l = find (λ rule. code_of rule == l.code) (drop l.rule-index l.rules)
    ≡ find (λ rule. code_of rule == l.code) l.rules
