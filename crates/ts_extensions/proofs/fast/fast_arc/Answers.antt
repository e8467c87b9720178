use Rattle.std.proofs.Common.{Option, refl, subst}
use Rattle.ts_der.specs.View.{now}
use Rattle.ts_ext.specs.declared.known.Known.{Known}
use Rattle.ts_extensions.specs.ValueRules.{IsValidValue}
use Rattle.ts_extensions.proofs.FastValues.{sound-extension}
use Rattle.ts_extensions.proofs.fast.fast_arc.Goals as goal

pub returns : goal.returns
returns c =
    let is = c.in_ok-arc.ensures in
    let value = c.in_ok-arc.value.now in
    let sound = subst (λ (k : Option Known). IsValidValue k value) c.in_ok-known.ensures (c.if-not-is_fast.ensures refl) in
    sound-extension c.args.holder (now c.args.element) c.in_ok-arc.arc is.0 value is.1 sound
