-- What contracts see of the rows that are borrowed.
use Rattle.ts_question.specs.Rows.{AnchorLine, CrlLine, CommandLine}
use Rattle.ts_question.specs.declared.rows.AnchorRow.{AnchorRow}
use Rattle.ts_question.specs.declared.rows.CrlRow.{CrlRow}
use Rattle.ts_question.specs.declared.rows.CommandRow.{CommandRow}

abbrev pub anchor_line : AnchorRow → AnchorLine
anchor_line r = record { id = r.id; subject = r.subject.now; purposes = r.purposes.now }

abbrev pub crl_line : CrlRow → CrlLine
crl_line r = record {
  id = r.id;
  issuer = r.issuer.now;
  number = r.number.now;
  base = r.base.now;
  scope = r.scope.now;
  this_update = r.this_update;
  next_update = r.next_update;
  entries = r.entries;
  size = r.size;
}

abbrev pub command_line : CommandRow → CommandLine
command_line r = record {
  id = r.id;
  kind = r.kind;
  size = r.size;
  about = r.about.now;
  purposes = r.purposes.now;
  outcome = r.outcome;
  detail = r.detail;
}
