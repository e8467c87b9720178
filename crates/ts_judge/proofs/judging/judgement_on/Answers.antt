-- The report is the one on what was read.
use Rattle.std.proofs.Common.{map, ap}
use Rattle.ts_cert.specs.CertView.{cert_in}
use Rattle.ts_crl.specs.ListView.{crl_in}
use Rattle.ts_path.specs.View.{anchor_in}
use Rattle.ts_judge.proofs.Asking.{same_report}
use Rattle.ts_judge.proofs.judging.judgement_on.Goals as goal

pub returns-clause-judged : goal.returns-clause-judged
returns-clause-judged c = record {
  report = c.in_ok-report.report;
  report_is = same_report c.inputs_of-inputs.result (record { lists = c.deref-2.result; deltas = c.deref-3.result }) c.args.options.now c.args.hard _ _ _ _ _ _ _ _ _ _ _
      c.inputs_of-inputs.ensures (ap (map (λ p. p.content.now)) c.deref.ensures.value) (ap (map anchor_in) c.deref-5.ensures.value) (ap (map cert_in) c.deref-4.ensures.value)
      (ap (map crl_in) c.deref-2.ensures.value) (ap (map crl_in) c.deref-3.ensures.value) c.in_ok-report.ensures;
  valid_is = c.is_valid.ensures;
  printed = c.in_ok-text.ensures;
}
