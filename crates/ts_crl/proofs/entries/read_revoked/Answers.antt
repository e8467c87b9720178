use Rattle.std.proofs.Common.{ap, ◌∙◌}
use Rattle.ts_der.specs.View.{now}
use Rattle.ts_crl.specs.Findings.{findings_of}
use Rattle.ts_crl.proofs.Joining.{entries-walked}
use Rattle.ts_crl.proofs.entries.read_revoked.Goals as goal

pub invariant_of-result-clause-read : goal.invariant_of-result-clause-read
invariant_of-result-clause-read c = let es = c.in_ok-findings.ensures in (entries-walked (now c.args.element) es.0 es.1).0

pub invariant_of-result-clause-found : goal.invariant_of-result-clause-found
invariant_of-result-clause-found c = let es = c.in_ok-findings.ensures in es.2 ∙ ap findings_of (entries-walked (now c.args.element) es.0 es.1).2

pub returns : goal.returns
returns c = let es = c.in_ok-findings.ensures in (entries-walked (now c.args.element) es.0 es.1).1
