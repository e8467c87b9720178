use Rattle.ts_der.specs.View.{now}
use Rattle.ts_ext.proofs.Formats.{is_found, is_read, is_fault}
use Rattle.ts_ext.proofs.NamedBits.{key_usage-format}
use Rattle.ts_der.specs.BitsView.{bits_in}
use Rattle.ts_ext.proofs.key_usage.KeyUsage.read.Goals as goal

pub returns-clause-found : goal.returns-clause-found
returns-clause-found c = is_found key_usage-format (now c.args.element) c.read_key_usage.result (λ u. bits_in u.bits) c.args.element.octets c.read_key_usage.ensures

pub returns-clause-only : goal.returns-clause-only
returns-clause-only c = is_read key_usage-format (now c.args.element) c.read_key_usage.result (λ u. bits_in u.bits) c.read_key_usage.ensures

pub returns-clause-fault : goal.returns-clause-fault
returns-clause-fault c = is_fault key_usage-format (now c.args.element) c.read_key_usage.result (λ u. bits_in u.bits) c.read_key_usage.ensures
