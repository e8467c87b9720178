-- The object has no number that is a fraction, so its text is the compact one.
use Rattle.std.proofs.Common.{◌≡◌, ◌∙◌, ap, rules}
use Rattle.std.proofs.lemmas.Result.{IfOk-weaker}
use Rattle.serde_json.specs.View.{view}
use Rattle.serde_json.specs.Written.{compact_text, has_float}
use Rattle.serde_json.specs.declared.value.Value.{Object, the_lemmas}
use Rattle.ts_json.specs.Answer.{answer_in}
use Rattle.ts_json.proofs.AnswerFloats.{no_float}
use Rattle.ts_json.proofs.answer.answer_text.Goals as goal

pub returns : goal.returns
returns c =
    let built : view (Object c.in_ok-members.members) ≡ answer_in c.args.fields.now = search (rules, the_lemmas) in
    IfOk-weaker c.to_string.result _ _ (λ s text. text (ap has_float built ∙ no_float c.args.fields.now) ∙ ap compact_text built) c.to_string.ensures.text
