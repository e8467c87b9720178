use Rattle.std.proofs.Common.{◌≡◌, None, inr, arith, rules}
use Rattle.ts_synod.proofs.PrefixLength.{length_is}
use Rattle.ts_log.specs.Maps.{learned_in}
use Rattle.ts_log.proofs.learned.LearnedCommands.new.Goals as goal

pub invariant_of-result : goal.invariant_of-result
invariant_of-result g c =
    let none : learned_in c.new.result 1 ≡ None = search rules in
    record { counted = length_is (learned_in c.new.result) 0 (record { below = λ q l. absurd (omega arith); gap = inr none; most = omega arith }) }
