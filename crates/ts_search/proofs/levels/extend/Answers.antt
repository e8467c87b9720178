use Rattle.std.proofs.Common.{refl, ap, ◌∙◌, ◌++◌, ◌∷◌, map, filter, take, arith, List, ℕ}
use Rattle.ts_search.specs.inside.Levels.{is_new, longer}
use Rattle.ts_search.proofs.Takes.{made_whole}
use Rattle.ts_search.proofs.levels.extend.Goals as goal

pub returns : goal.returns
unfolding longer
returns c =
    let new : List ℕ → List (List ℕ) = λ r. map (λ i. i ∷ c.args.chain.now) (filter (is_new c.args.chain.now) r) in
    made_whole c.args.limit (λ c. c.items) c.loop-above.chains.items new c.row_above-above-items.result.now c.loop-above.above-index
    (map (λ c. c.items) c.args.chains.now.items ++ new c.row_above-above-items.result.now) c.loop-above.invariant.few (omega (arith, c.loop-above-test.false)) refl c.loop-above.invariant.made
    ∙ ap (λ r. take c.args.limit (map (λ c. c.items) c.args.chains.now.items ++ new r)) c.row_above-above-items.ensures
