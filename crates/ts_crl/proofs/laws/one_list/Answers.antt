use Rattle.std.proofs.Common.{sym, ◌∙◌}
use Rattle.ts_der.proofs.Laws.{ok_is}
use Rattle.ts_crl.proofs.Crls.{crl-again}
use Rattle.ts_crl.proofs.laws.one_list.Goals as goal

pub returns-clause-one_record : goal.returns-clause-one_record
returns-clause-one_record c octets a b is other = ok_is a b (sym (crl-again octets a is) ∙ crl-again octets b other)
