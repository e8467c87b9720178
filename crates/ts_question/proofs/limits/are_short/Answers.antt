use Rattle.std.proofs.Common.{length, sym, ap, ◌∙◌}
use Rattle.std.specs.Prelude.{nat_le}
use Rattle.std.specs.List.{list_all}
use Rattle.std.proofs.lemmas.List.Folds.{list_all-map}
use Rattle.ts_question.proofs.limits.are_short.Goals as goal

pub returns : goal.returns
returns c = c.all_short.ensures ∙ sym (list_all-map (λ s. nat_le (length s) c.args.most) (λ s. s.items) c.as_slice.result.now) ∙ ap (list_all (λ s. nat_le (length s) c.args.most)) c.as_slice.ensures
