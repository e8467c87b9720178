use Rattle.std.proofs.Common.{refl}
use Rattle.ts_der.specs.View.{now}
use Rattle.ts_ext.proofs.Formats.{is_found, is_answer, is_fault}
use Rattle.ts_ext.proofs.Values.{small-format}
use Rattle.ts_ext.proofs.skip_certs.SkipCerts.read.Goals as goal

pub returns-clause-found : goal.returns-clause-found
returns-clause-found c = is_found small-format (now c.args.element) c.read_skip_certs.result (λ n. n.0) c.args.element.octets c.read_skip_certs.ensures

pub returns-clause-only : goal.returns-clause-only
returns-clause-only c = is_answer small-format (now c.args.element) c.read_skip_certs.result (λ n. n.0) (λ n. record { 0 = n }) (λ y. refl) c.read_skip_certs.ensures

pub returns-clause-fault : goal.returns-clause-fault
returns-clause-fault c = is_fault small-format (now c.args.element) c.read_skip_certs.result (λ n. n.0) c.read_skip_certs.ensures
