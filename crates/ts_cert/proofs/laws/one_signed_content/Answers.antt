use Rattle.ts_cert.proofs.OneEncoding.{one-tbs}
use Rattle.ts_cert.proofs.laws.one_signed_content.Goals as goal

pub returns : goal.returns
returns c content other fields is same = one-tbs content other fields is same
