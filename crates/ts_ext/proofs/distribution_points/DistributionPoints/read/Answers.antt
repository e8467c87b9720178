use Rattle.ts_der.specs.View.{now}
use Rattle.ts_ext.specs.NameViews.{points_in}
use Rattle.ts_ext.proofs.Formats.{is_found, is_read, is_fault}
use Rattle.ts_ext.proofs.Points.{points-format}
use Rattle.ts_ext.proofs.distribution_points.DistributionPoints.read.Goals as goal

pub returns-clause-found : goal.returns-clause-found
returns-clause-found c = is_found points-format (now c.args.element) c.read_distribution_points.result points_in c.args.element.octets c.read_distribution_points.ensures

pub returns-clause-only : goal.returns-clause-only
returns-clause-only c = is_read points-format (now c.args.element) c.read_distribution_points.result points_in c.read_distribution_points.ensures

pub returns-clause-fault : goal.returns-clause-fault
returns-clause-fault c = is_fault points-format (now c.args.element) c.read_distribution_points.result points_in c.read_distribution_points.ensures
