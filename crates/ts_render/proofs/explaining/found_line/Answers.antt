use Rattle.std.proofs.Common.{◌++◌, ◌∙◌, ap, codes, List, ℕ}
use Rattle.std.specs.List.{flat_map}
use Rattle.ts_line.specs.Lines.{hex}
use Rattle.ts_render.specs.Explanations.{place_words}
use Rattle.ts_render.proofs.Explained.{four_parts}
use Rattle.ts_render.proofs.explaining.found_line.Goals as goal

pub returns : goal.returns
returns c =
    four_parts (codes "valid under the trust anchor ") (hex c.args.anchor.now) (codes " are, in this order, these certificates of the question:") (flat_map place_words c.args.places.now) _ _ _
    (c.in_ok-hex.ensures ∙ ap (λ (t : List ℕ). t ++ hex c.args.anchor.now) c.in_ok-line.ensures)
    c.in_ok-text.ensures
    c.in_ok-write_places.ensures
