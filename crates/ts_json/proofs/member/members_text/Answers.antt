-- The object has no number that is a fraction, so its text is the compact one.
use Rattle.std.proofs.Common.{◌≡◌, ◌∙◌, ap, map, rules}
use Rattle.std.proofs.lemmas.Result.{IfOk-weaker}
use Rattle.serde_json.specs.View.{view}
use Rattle.serde_json.specs.Written.{compact_text, has_float}
use Rattle.serde_json.specs.declared.value.Value.{Object, the_lemmas}
use Rattle.ts_json.specs.Members.{named_value, object_of}
use Rattle.ts_json.proofs.MemberFloats.{of_object}
use Rattle.ts_json.proofs.member.members_text.Goals as goal

pub returns : goal.returns
returns c =
    let built : view (Object c.in_ok-map.map) ≡ object_of (map named_value c.args.members.now) = search (rules, the_lemmas) in
    IfOk-weaker c.to_string.result _ _ (λ s text. text (ap has_float built ∙ of_object c.args.members.now) ∙ ap compact_text built) c.to_string.ensures.text
