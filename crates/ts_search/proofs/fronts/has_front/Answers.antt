use Rattle.std.proofs.Common.{drop, length, arith}
use Rattle.std.proofs.lemmas.Bool.Decides.{Decides-eqb}
use Rattle.std.proofs.lemmas.Slice.Eq.{starts_is}
use Rattle.std.proofs.Common.{ap, ◌∙◌, ◌++◌}
use Rattle.ts_search.proofs.DeadFronts.{begins-at}
use Rattle.ts_search.proofs.fronts.has_front.Goals as goal

pub returns-then-starts_with : goal.returns-then-starts_with
returns-then-starts_with c = λ _.
    let chain = c.args.chain.now in
    let front = c.as_slice.result.now in
    let begins = (starts_is Decides-eqb chain front c.starts_with.result c.starts_with.ensures.value).0 c.if-starts_with.true in
    begins-at (λ f. f.items) c.args.fronts.now c.loop-front.front-index c.front-item.result chain
    (drop (length front) chain) (omega (arith, c.loop-front-test.true)) c.front-item.is
    (begins ∙ ap (λ t. t ++ drop (length front) chain) c.as_slice.ensures.value)
