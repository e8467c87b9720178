use Rattle.std.proofs.Common.{◌≡◌, ◌∙◌, ◌+◌, ◌<◌, ◌++◌, ◌∷◌, [], length, take, ap, sym, subst, arith}
use Rattle.std.proofs.lemmas.List.{take_more}
use Rattle.ts_acceptor.specs.Acceptor.{StandsFor}
use Rattle.ts_acceptor.proofs.acceptor.Acceptor.open.Goals as goal

pub loop-fact-preserved : goal.loop-fact-preserved
loop-fact-preserved g c =
    let xs = c.args.facts.now in
    let i = c.loop-fact.fact-index in
    let x = c.fact-item.result in
    let inside : i < length xs = omega arith in
    let e : take (i + 1) xs ≡ take i xs ++ x ∷ [] = take_more xs i x inside ∙ ap (λ y. take i xs ++ y ∷ []) (sym c.fact-item.is) in
    record {
      state = subst (StandsFor c.recover.new.self) (sym e) (c.in_ok-recover.ensures.state (take i xs) c.loop-fact.invariant.state);
      config = c.in_ok-recover.ensures.config ∙ c.loop-fact.invariant.config;
    }
