use Rattle.std.proofs.Common.{ap, ◌∙◌, length, arith}
use Rattle.ts_store.specs.Anchors.{place_of}
use Rattle.ts_store.proofs.Places.{is_set}
use Rattle.ts_store.proofs.anchors.set_in.Goals as goal

pub returns-in_ok-anchors-in-Some-clause-done : goal.returns-in_ok-anchors-in-Some-clause-done
returns-in_ok-anchors-in-Some-clause-done c =
    is_set c.args.anchors.now.items c.args.id.now c.in-Some.i c.index_mut.result.now c.args.purposes.now c.in_ok-anchors-in-Some.field-0
    (c.in-Some.ensures.place ∙ ap (place_of c.args.id.now) c.deref.ensures.value) (omega (arith, c.in-Some.ensures.within, ap length c.deref.ensures.value))
    c.index_mut.ensures.value c.in_ok-anchors-in-Some.ensures
