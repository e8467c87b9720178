use Rattle.std.proofs.Common.{arith}
use Rattle.ts_extensions.proofs.FastValues.{crl-sign-last}
use Rattle.ts_extensions.proofs.fast.ends_with_crl_sign.Goals as goal

pub returns : goal.returns
returns c = λ e. crl-sign-last c.args.content.now (let many = c.in-len2.len_at_least in let few = c.in-len2.len_below in omega arith) c.if-unused-ne1.false c.if-octet-ne2.false
