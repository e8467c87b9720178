use Rattle.std.proofs.Common.{rules, ◌≡◌}
use Rattle.ts_disk.proofs.memory.write.Goals as goal

pub returns-clause-kept : goal.returns-clause-kept
returns-clause-kept c =
    let same : c.in_ok-copy.copy.items ≡ c.args.octets.now = search rules in
    (c.in_ok-copy.copy, same, c.in_ok-keep.ensures.kept)
