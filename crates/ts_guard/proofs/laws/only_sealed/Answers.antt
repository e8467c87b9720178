use Rattle.std.proofs.Common.{◌∙◌, ◌++◌, List, ℕ, ap, sym}
use Rattle.ts_guard.specs.Sealed.{stream}
use Rattle.ts_guard.specs.Streams.{came_in, contents_in}
use Rattle.ts_guard.proofs.Runs.{each, front}
use Rattle.ts_guard.proofs.laws.only_sealed.Goals as goal

pub returns-clause-front : goal.returns-clause-front
returns-clause-front c key context events a b number held steps =
    ap (λ (l : List ℕ). l ++ came_in events) (sym held) ∙ front key context events a b steps
    ∙ ap (λ n. stream key context n (contents_in events) ++ b.held) number

pub returns-clause-each : goal.returns-clause-each
returns-clause-each c key context events a b steps = each key context events a b steps
