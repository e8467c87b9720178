use Rattle.ts_der.specs.View.{now}
use Rattle.ts_ext.proofs.Formats.{is_found, is_read, is_fault}
use Rattle.ts_ext.proofs.NamedBits.{reason_flags-format}
use Rattle.ts_der.specs.BitsView.{bits_in}
use Rattle.ts_ext.proofs.reason_flags.ReasonFlags.read.Goals as goal

pub returns-clause-found : goal.returns-clause-found
returns-clause-found c = is_found reason_flags-format (now c.args.element) c.read_reason_flags.result (λ f. bits_in f.bits) c.args.element.octets c.read_reason_flags.ensures

pub returns-clause-only : goal.returns-clause-only
returns-clause-only c = is_read reason_flags-format (now c.args.element) c.read_reason_flags.result (λ f. bits_in f.bits) c.read_reason_flags.ensures

pub returns-clause-fault : goal.returns-clause-fault
returns-clause-fault c = is_fault reason_flags-format (now c.args.element) c.read_reason_flags.result (λ f. bits_in f.bits) c.read_reason_flags.ensures
