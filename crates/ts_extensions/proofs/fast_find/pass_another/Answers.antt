use Rattle.std.proofs.Common.{◌≡◌, Ok, refl, sym, subst, ◌∙◌}
use Rattle.ts_der.specs.Element.{Place}
use Rattle.ts_der.specs.Reading.{is_end, element_at}
use Rattle.ts_der.specs.View.{now}
use Rattle.ts_extensions.proofs.FastFind.{passed}
use Rattle.ts_extensions.proofs.fast_find.pass_another.Goals as goal

pub returns-clause-passed : goal.returns-clause-passed
returns-clause-passed c = λ _.
    let x = c.if-not-is_another.ensures refl in
    let read = subst (λ (here : Place). element_at 0x30 here ≡ Ok (now c.in-Ok.element, c.element.new.self))
    c.fork-ahead.ensures c.in-Ok.ensures.exact in
    (x.0, passed c.args.rest.now c.element.new.self (now c.in-Ok.element) x.0 c.requires read x.1, x.2)
