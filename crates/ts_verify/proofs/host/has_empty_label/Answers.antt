-- The labels are the parts between dots.
use Rattle.std.proofs.Common.{rules, ℕ, List, length}
use Rattle.std.specs.Prelude.{◌==◌}
use Rattle.std.proofs.lemmas.Iterator.Search.{any_from_yields_List}
use Rattle.std.proofs.lemmas.Iterator.Splits.{YieldsList-from_slice_split}
use Rattle.ts_verify.specs.Hosts.{is_dot}
use Rattle.ts_verify.proofs.host.has_empty_label.Goals as goal

pub returns : goal.returns
returns c =
    any_from_yields_List (λ (label : List ℕ). length label == 0) _ _ _ c.any.ensures.ran
    (YieldsList-from_slice_split _ is_dot c.args.name.now c.split.ensures.rest c.split.ensures.done
    c.split.ensures.closure (λ x b q k. search rules)) (λ x b q k. search rules)
