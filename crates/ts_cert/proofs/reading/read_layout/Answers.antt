use Rattle.std.proofs.Common.{ap, sym, ◌∙◌}
use Rattle.std.specs.Prelude.{Result}
use Rattle.ts_der.specs.Answer.{refusal}
use Rattle.ts_shape.specs.declared.fault.CertFault.{CertFault}
use Rattle.ts_cert.specs.Certificate.{Certificate}
use Rattle.ts_cert.proofs.Held.{is-read}
use Rattle.ts_cert.proofs.Judging.{judged}
use Rattle.ts_cert.proofs.reading.read_layout.Goals as goal

pub returns-in-Some-clause-fault : goal.returns-in-Some-clause-fault
returns-in-Some-clause-fault c = sym (ap (λ (r : Result Certificate CertFault). refusal r) (is-read c.args.octets.now c.in-Some.layout c.in-Some.ensures))

pub returns-in-Some-clause-rule : goal.returns-in-Some-clause-rule
returns-in-Some-clause-rule c =
    sym (ap (λ (r : Result Certificate CertFault). refusal r) (is-read c.args.octets.now c.in-Some.layout c.in-Some.ensures)) ∙ judged c.args.octets.now

pub returns-in-None-clause-rule : goal.returns-in-None-clause-rule
returns-in-None-clause-rule c = c.full_layout.ensures.fault ∙ judged c.args.octets.now
