use Rattle.std.proofs.Common.{◌∷◌, [], sym}
use Rattle.std.proofs.lemmas.List.{nil_from_length}
use Rattle.std.proofs.lemmas.Bool.{eqb-true}
use Rattle.ts_shape.specs.Fields.{Within}
use Rattle.ts_ext.specs.Points.{IsPoint}
use Rattle.ts_extensions.proofs.UriPoints.{uris-more, some-items}
use Rattle.ts_extensions.proofs.fast_points.are_uris.Goals as goal

pub loop-rest-preserved : goal.loop-rest-preserved
loop-rest-preserved c = λ uris are.
    let p = c.in-Some.ensures in
    c.loop-rest.invariant (p.1 ∷ uris) (uris-more c.loop-rest.rest.now p.0 c.in-Some.more.now p.1 uris p.2 p.3 are)

pub returns : goal.returns
returns c = λ e.
    let all = c.loop-rest.invariant [] (nil_from_length c.loop-rest.rest.now (eqb-true _ 0 (sym c.loop-rest-test.ensures))) in
    (all.0, (some-items (Within 0x30 IsPoint) c.args.points.now _ c.is_empty-2.result c.is_empty-2.ensures e all.1, all.1))
