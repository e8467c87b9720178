-- The first line feed divides the text.
use Rattle.std.proofs.Common.{sym, ◌∙◌}
use Rattle.ts_pem.specs.Pem.{is_line_feed}
use Rattle.ts_pem.proofs.Splits.{split_front, split_none}
use Rattle.ts_pem.proofs.line.first_line.Goals as goal

pub returns-in-Some-clause-lines : goal.returns-in-Some-clause-lines
returns-in-Some-clause-lines c = split_front is_line_feed c.args.text.now c.in-Some.end (sym c.line_feed.ensures ∙ c.in-Some.is)

pub returns-in-None-clause-lines : goal.returns-in-None-clause-lines
returns-in-None-clause-lines c = split_none is_line_feed c.args.text.now (sym c.line_feed.ensures ∙ c.in-None.is)
