use Rattle.ts_der.specs.View.{now}
use Rattle.ts_extensions.proofs.FastFind.{another}
use Rattle.ts_extensions.proofs.fast_find.is_another.Goals as goal

pub returns-in-Some : goal.returns-in-Some
returns-in-Some c = λ differs. another (now c.args.element) c.in-Some.other c.args.arc
    c.in-Some.ensures.0 _ c.in-Some.ensures.1 differs
