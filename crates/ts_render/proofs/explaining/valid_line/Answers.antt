use Rattle.std.proofs.Common.{◌++◌, ◌∙◌, ap, codes, decimal, List, ℕ}
use Rattle.ts_line.specs.Lines.{hex}
use Rattle.ts_render.proofs.Explained.{four_parts}
use Rattle.ts_render.proofs.explaining.valid_line.Goals as goal

pub returns : goal.returns
returns c =
    four_parts (codes "the chain of ") (decimal c.args.count) (codes " is valid under the trust anchor ") (hex c.args.anchor.now) _ _ _
    (c.in_ok-number.ensures ∙ ap (λ (t : List ℕ). t ++ decimal c.args.count) c.in_ok-line.ensures)
    c.in_ok-text.ensures
    c.in_ok-hex.ensures
