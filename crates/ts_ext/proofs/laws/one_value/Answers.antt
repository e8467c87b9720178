use Rattle.ts_ext.proofs.OneEncoding.{one-encoding, one-record}
use Rattle.ts_ext.proofs.laws.one_value.Goals as goal

pub returns-clause-one_encoding : goal.returns-clause-one_encoding
returns-clause-one_encoding c = one-encoding

pub returns-clause-one_record : goal.returns-clause-one_record
returns-clause-one_record c = one-record
