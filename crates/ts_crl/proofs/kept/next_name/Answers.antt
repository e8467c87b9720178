use Rattle.ts_der.specs.View.{now}
use Rattle.ts_crl.proofs.Borrowing.{name-kept, name-again}
use Rattle.ts_crl.proofs.kept.next_name.Goals as goal

pub invariant_of-result : goal.invariant_of-result
invariant_of-result c = record { form = name-kept c.args.fields.now (now c.in_ok-element.element) c.element.new.self c.in_ok-element.ensures.exact c.requires }

pub returns : goal.returns
returns c = name-again c.args.fields.now (now c.in_ok-element.element) c.element.new.self c.in_ok-element.ensures.exact c.requires
