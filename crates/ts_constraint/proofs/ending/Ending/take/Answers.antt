use Rattle.std.proofs.Common.{◌≡◌, ℕ, ◌-◌, ◌∷◌, length, take, ap, sym, ◌∙◌}
use Rattle.ts_constraint.specs.inside.Ending.{octets, backwards}
use Rattle.ts_constraint.proofs.Backwards.{last-first, empty-dotted, empty-plain}
use Rattle.ts_constraint.proofs.ending.Ending.take.Goals as goal

pub returns-in-empty : goal.returns-in-empty
returns-in-empty c = empty-dotted c.args.self.now.text.now c.args.self.now.dotted c.in-empty.len_below c.if-self.true

pub returns-in-empty-2 : goal.returns-in-empty-2
returns-in-empty-2 c = empty-plain c.args.self.now.text.now c.args.self.now.dotted c.in-empty.len_below c.if-self.false

pub returns-in-len1-up : goal.returns-in-len1-up
returns-in-len1-up c =
    let text = c.args.self.now.text.now in
    let dotted = c.args.self.now.dotted in
    last-first text dotted c.in-len1-up.len_at_least ∙ ap (λ (x : ℕ). x ∷ backwards (take (length text - 1) text) dotted) (sym c.to_ascii_lowercase.ensures.value)
