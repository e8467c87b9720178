use Rattle.std.proofs.Common.{◌<◌, length, ◌∙◌, arith}
use Rattle.ts_rsa.proofs.DataLemmas.{data-is}
use Rattle.ts_rsa.proofs.pss.write_data_block.Goals as goal

pub returns : goal.returns
returns c =
    let u = c.unmask.new.octets in
    let long : 0 < length u = omega arith in
    data-is c.args.hash c.args.bits c.args.em.now c.copy_from_slice.new.self
    c.hash_part-seed.result.now u c.size_of_hash.result c.first_limit-limit.result
    c.size_of_hash.ensures.value (c.copy_from_slice.ensures.after ∙ c.split_at.ensures.front)
    c.hash_part-seed.ensures c.unmask.ensures long c.first_limit-limit.ensures.value
