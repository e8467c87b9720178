use Rattle.std.proofs.Common.{refl, ap, sym, ◌∙◌, arith}
use Rattle.ts_der.specs.Reading.{element_at}
use Rattle.ts_der.specs.View.{now}
use Rattle.ts_extensions.proofs.ValidLists.{stands-sound}
use Rattle.ts_extensions.proofs.fast_list.sound_size.Goals as goal

pub returns-clause-sound : goal.returns-clause-sound
returns-clause-sound c =
    let x = c.if-not-is_sound_and_new.ensures refl in
    let read = ap (element_at 0x30) (sym c.new.ensures) ∙ c.in-Ok.ensures.exact in
    (stands-sound c.args.octets.now (now c.in-Ok.element) c.element.new.self x.0 _ _ (λ i. omega (arith, c.type_inv.octets i)) read x.1 x.2 x.3).0

pub returns-clause-within : goal.returns-clause-within
returns-clause-within c =
    let x = c.if-not-is_sound_and_new.ensures refl in
    let read = ap (element_at 0x30) (sym c.new.ensures) ∙ c.in-Ok.ensures.exact in
    (stands-sound c.args.octets.now (now c.in-Ok.element) c.element.new.self x.0 _ _ (λ i. omega (arith, c.type_inv.octets i)) read x.1 x.2 x.3).1
