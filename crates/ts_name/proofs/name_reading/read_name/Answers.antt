use Rattle.std.proofs.Common.{[]}
use Rattle.ts_der.specs.View.{now}
use Rattle.ts_name.specs.Names.{name_of}
use Rattle.ts_shape.proofs.Walks.{not_refused, not_refused_is}
use Rattle.ts_name.proofs.name_reading.read_name.Goals as goal

pub invariant_of-result : goal.invariant_of-result
unfolding name_of
invariant_of-result c = record { form = not_refused (name_of (now c.args.element)) c.in_ok-check_name.ensures }

pub returns : goal.returns
unfolding name_of
returns c = not_refused_is (name_of (now c.args.element)) [] c.in_ok-check_name.ensures
