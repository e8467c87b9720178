use Rattle.std.proofs.Common.{ℕ, List, false, ap, ◌∙◌}
use Rattle.std.proofs.lemmas.List.{take_all}
use Rattle.std.proofs.lemmas.List.FromFn.{fill_by_all}
use Rattle.ts_make.specs.KeyUsage.{is_set}
use Rattle.ts_make.proofs.key_usage.flags.Goals as goal

pub returns : goal.returns
returns c =
    let all = take_all c.loop-n.n-index c.args.numbers.now c.loop-n-test.false in
    fill_by_all (is_set c.args.numbers.now) c.loop-n.flags.items c.args.count false c.loop-n.invariant.count (λ k h. c.loop-n.invariant.set k h ∙ ap (λ (numbers : List ℕ). is_set numbers k) all)
