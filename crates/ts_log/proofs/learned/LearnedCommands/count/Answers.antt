use Rattle.std.proofs.Common.{arith}
use Rattle.ts_synod.proofs.PrefixLength.{length_leads}
use Rattle.ts_log.specs.Maps.{learned_in}
use Rattle.ts_log.proofs.learned.LearnedCommands.count.Goals as goal

pub returns-clause-most : goal.returns-clause-most
returns-clause-most g c = let l = (length_leads (learned_in c.args.self.now.commands)).most in omega (arith, c.args.self.now.counted)
