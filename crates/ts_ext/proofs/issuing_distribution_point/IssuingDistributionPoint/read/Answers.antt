use Rattle.ts_der.specs.View.{now}
use Rattle.ts_ext.specs.NameViews.{issuing_point_in}
use Rattle.ts_ext.proofs.Formats.{is_found, is_read, is_fault}
use Rattle.ts_ext.proofs.Points.{issuing_point-format}
use Rattle.ts_ext.proofs.issuing_distribution_point.IssuingDistributionPoint.read.Goals as goal

pub returns-clause-found : goal.returns-clause-found
returns-clause-found c = is_found issuing_point-format (now c.args.element) c.read_issuing_point.result issuing_point_in c.args.element.octets c.read_issuing_point.ensures

pub returns-clause-only : goal.returns-clause-only
returns-clause-only c = is_read issuing_point-format (now c.args.element) c.read_issuing_point.result issuing_point_in c.read_issuing_point.ensures

pub returns-clause-fault : goal.returns-clause-fault
returns-clause-fault c = is_fault issuing_point-format (now c.args.element) c.read_issuing_point.result issuing_point_in c.read_issuing_point.ensures
