use Rattle.std.proofs.Common.{◌+◌, suc, ◌++◌, ◌∷◌, [], ◌∙◌, ap, arith, refl}
use Rattle.ts_record.specs.inside.Places.{places, place_of}
use Rattle.ts_record.proofs.Places.{one_empty}
use Rattle.ts_record.proofs.compacted.empty_places.Goals as goal

pub loop-preserved : goal.loop-preserved
loop-preserved g c =
    c.in_ok-push.ensures.items ∙ ap (λ l. l ++ place_of c.loop.counter [] ∷ []) c.loop.invariant
    ∙ one_empty 0 c.loop.counter c.loop.counter [] refl
    ∙ ap (λ k. places 0 k []) {x = suc c.loop.counter} {y = c.loop.counter + 1} (omega arith)

pub returns : goal.returns
returns g c = c.loop.invariant ∙ ap (λ k. places 0 k []) (omega (arith, c.loop-test.false, c.loop.auto.counter-end))
