use Rattle.ts_rsa.proofs.DataLemmas.{seed-is}
use Rattle.ts_rsa.proofs.pss.hash_part.Goals as goal

pub returns : goal.returns
returns c =
    seed-is c.args.hash c.args.em.now c.split_at.result.1.now _ c.size_of_hash-size.result
    c.size_of_hash-size.ensures.value c.split_at.ensures.back c.split_at-2.ensures.front
