use Rattle.std.proofs.Common.{[], ◌∷◌, sym}
use Rattle.ts_name.proofs.ShortNames.{name-more, no-name}
use Rattle.ts_name.proofs.fast_names.are_short_rdns.Goals as goal

pub loop-rest-preserved : goal.loop-rest-preserved
loop-rest-preserved c =
    let x = c.in-Some.ensures.stands in
    (c.in-Some.ensures.ascii, (λ rdns is. c.loop-rest.invariant.1 ((x.0 ∷ []) ∷ rdns) (name-more c.loop-rest.rest.now c.in-Some.more.now (x.0 ∷ []) rdns x.1 x.2 x.3 is)))

pub returns : goal.returns
returns c = λ e. c.loop-rest.invariant.1 [] (no-name c.loop-rest.rest.now (sym (c.loop-rest-test.ensures)))
