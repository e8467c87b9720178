use Rattle.ts_der.specs.View.{now}
use Rattle.ts_ext.specs.NameViews.{point_in}
use Rattle.ts_ext.proofs.Formats.{is_found, is_read, is_fault}
use Rattle.ts_ext.proofs.Points.{point-format}
use Rattle.ts_ext.proofs.distribution_point.DistributionPoint.read.Goals as goal

pub returns-clause-found : goal.returns-clause-found
returns-clause-found c = is_found point-format (now c.args.element) c.read_point.result point_in c.args.element.octets c.read_point.ensures

pub returns-clause-only : goal.returns-clause-only
returns-clause-only c = is_read point-format (now c.args.element) c.read_point.result point_in c.read_point.ensures

pub returns-clause-fault : goal.returns-clause-fault
returns-clause-fault c = is_fault point-format (now c.args.element) c.read_point.result point_in c.read_point.ensures
