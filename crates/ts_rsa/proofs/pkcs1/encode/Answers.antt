use Rattle.std.proofs.Common.{◌++◌, length, ◌∙◌, ap, arith}
use Rattle.ts_rsa.specs.Pkcs1.{digest_info}
use Rattle.ts_rsa.proofs.Pkcs1Lemmas.{encoded-joined}
use Rattle.ts_rsa.proofs.pkcs1.encode.Goals as goal

pub returns-clause-found : goal.returns-clause-found
returns-clause-found c =
    encoded-joined c.loop-filled.octets.items c.push-3.new.self.items c.append.new.octets.items
    (digest_info c.args.hash c.args.message.now.octets.now) c.loop-filled.filled c.args.len
    c.loop-filled.invariant
    (omega (arith, ap length c.info_of-info.ensures))
    c.push-3.ensures.items
    (c.append.ensures.items
    ∙ ap (λ z. c.push-3.new.self.items ++ z) (c.as_slice.ensures.value ∙ c.info_of-info.ensures))
