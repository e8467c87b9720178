use Rattle.std.proofs.Common.{sym, ◌∙◌}
use Rattle.ts_crl.specs.ListView.{crl_in}
use Rattle.ts_crl.specs.Encoding.{IsCertificateList}
use Rattle.ts_show.proofs.Answered.{is_read, is_not_read}
use Rattle.ts_show.proofs.kind.are_list.Goals as goal

pub returns-clause-yes : goal.returns-clause-yes
returns-clause-yes c = λ t. is_read crl_in (IsCertificateList c.args.octets.now) c.read.result c.read.ensures.found (sym c.is_ok.ensures.value ∙ t)

pub returns-clause-no : goal.returns-clause-no
returns-clause-no c = λ f are. is_not_read crl_in (IsCertificateList c.args.octets.now) c.read.result c.read.ensures.only (sym c.is_ok.ensures.value ∙ f) are
