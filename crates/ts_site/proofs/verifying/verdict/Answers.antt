-- The fields of the answer, as a line of JSON.
use Rattle.std.proofs.Common.{rules}
use Rattle.ts_site.proofs.verifying.verdict.Goals as goal

pub returns : goal.returns
returns c = (c.in_ok-fields.fields, c.in_ok-fields.ensures, search rules)
