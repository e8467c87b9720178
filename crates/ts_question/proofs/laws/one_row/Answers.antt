use Rattle.ts_codec.proofs.Laws.{one}
use Rattle.ts_question.proofs.RowLaws.{anchor_part, crl_part, command_part}
use Rattle.ts_question.proofs.laws.one_row.Goals as goal

pub returns-clause-anchor : goal.returns-clause-anchor
returns-clause-anchor c = one anchor_part

pub returns-clause-crl : goal.returns-clause-crl
returns-clause-crl c = one crl_part

pub returns-clause-command : goal.returns-clause-command
returns-clause-command c = one command_part
