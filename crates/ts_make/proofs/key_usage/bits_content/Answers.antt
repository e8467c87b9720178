use Rattle.std.proofs.Common.{◌≤◌, arith}
use Rattle.ts_make.specs.KeyUsage.{last_set}
use Rattle.ts_make.proofs.BitFlags.{usage-far}
use Rattle.ts_make.proofs.key_usage.bits_content.Goals as goal

pub returns-then-last-ge-TOO_FAR : goal.returns-then-last-ge-TOO_FAR
returns-then-last-ge-TOO_FAR c =
    let last = c.last_of-last.ensures.exact in
    let far : 0x2000000 ≤ last_set c.args.numbers.now = omega arith in
    usage-far c.args.numbers.now far
