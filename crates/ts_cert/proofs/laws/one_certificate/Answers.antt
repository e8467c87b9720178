use Rattle.std.proofs.Common.{sym, ◌∙◌}
use Rattle.ts_der.proofs.Laws.{ok_is}
use Rattle.ts_cert.proofs.Certificates.{certificate-again}
use Rattle.ts_cert.proofs.laws.one_certificate.Goals as goal

pub returns-clause-one_record : goal.returns-clause-one_record
returns-clause-one_record c octets a b is other = ok_is a b (sym (certificate-again octets a is) ∙ certificate-again octets b other)
