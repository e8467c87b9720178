use Rattle.std.proofs.Common.{◌∙◌, ap}
use Rattle.std.specs.Prelude.{option_map}
use Rattle.ts_explain.specs.Why.{apart}
use Rattle.ts_explain.proofs.words.moment_text.Goals as goal

pub returns-in_err-y1 : goal.returns-in_err-y1
returns-in_err-y1 c = λ general is. c.from_residual.ensures ∙ ap (option_map apart) (c.in_err-y1.ensures.only general is)

pub returns : goal.returns
returns c = λ general is. ap (option_map apart) (c.in_ok-y1.ensures.only general is)
