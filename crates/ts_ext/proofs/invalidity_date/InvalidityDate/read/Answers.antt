use Rattle.std.proofs.Common.{refl}
use Rattle.ts_der.specs.View.{now}
use Rattle.ts_ext.proofs.Formats.{is_found, is_answer, is_fault}
use Rattle.ts_ext.proofs.Values.{invalidity_date-format}
use Rattle.ts_ext.proofs.invalidity_date.InvalidityDate.read.Goals as goal

pub returns-clause-found : goal.returns-clause-found
returns-clause-found c = is_found invalidity_date-format (now c.args.element) c.read_invalidity_date.result (λ d. d.seconds) c.args.element.octets c.read_invalidity_date.ensures

pub returns-clause-only : goal.returns-clause-only
returns-clause-only c = is_answer invalidity_date-format (now c.args.element) c.read_invalidity_date.result (λ d. d.seconds) (λ m. record { seconds = m }) (λ y. refl) c.read_invalidity_date.ensures

pub returns-clause-fault : goal.returns-clause-fault
returns-clause-fault c = is_fault invalidity_date-format (now c.args.element) c.read_invalidity_date.result (λ d. d.seconds) c.read_invalidity_date.ensures
