-- The fields of an answer, by what the question and the answer say.
use Rattle.std.specs.Prelude.{◌≡◌, ℕ, List, [], Option, Some, None, map, option_map}
use Rattle.std.specs.Prelude.{string_bytes}
use Rattle.base64.specs.Engines.{standard}
use Rattle.base64.specs.GeneralPurpose.{encode_of}
use Rattle.hex.specs.Hex.{encode_lower}
use Rattle.ts_reason.specs.Printed.{reason_text}
use Rattle.ts_explain.specs.Sections.{section}
use Rattle.ts_json.specs.declared.answer.AnswerFields.{AnswerFields}
use Rattle.ts_question.specs.Question.{StoreQuestion, question_encoding}
use Rattle.ts_question.specs.Reply.{NumberedReply}
use Rattle.ts_question.specs.declared.reply.Reply.{Reply}
use Rattle.ts_question.specs.declared.reply.Reply.TheVariants.{Valid, Invalid, Found}
use Rattle.ts_render.specs.Replies.{name_of, position_in, prefix_in, valid_in}
use Rattle.ts_render.specs.Texts.{TellsMoment}
use Rattle.ts_render.specs.Explanations.{IsExplanation}
use Rattle.ts_line.specs.Names.{dotted_form}

abbrev pub anchor_in : Reply → Option (List ℕ)
anchor_in (Valid anchor policies) = Some anchor
anchor_in (Found anchor places policies) = Some anchor
anchor_in other = None

abbrev pub policies_in : Reply → List (List ℕ)
policies_in (Valid anchor policies) = policies
policies_in (Found anchor places policies) = policies
policies_in other = []

abbrev pub places_in : Reply → List ℕ
places_in (Found anchor places policies) = places
places_in other = []

-- the reason and the section, of a reply that gives one
abbrev pub AreWords : Reply → Option (List ℕ) → Option (List ℕ) → Type 0
AreWords (Invalid position reason) (Some name) (Some place) = (name ≡ reason_text reason)
    × (place ≡ section reason)
AreWords (Invalid position reason) name place = ⊥
AreWords other name place = (name ≡ None) × (place ≡ None)

pub record AreFields (asked : StoreQuestion) (answered : NumberedReply) (id : List ℕ)
    (fields : AnswerFields)
    : Type 0 where
  pub k_is : fields.k ≡ answered.k
  pub at_is : TellsMoment asked.terms.moment (option_map string_bytes fields.at)
  pub id_is : string_bytes fields.id ≡ encode_lower id
  pub question_is : string_bytes fields.question ≡ encode_of standard (question_encoding asked)
  pub reply_is : fields.reply.now ≡ name_of answered.reply
  pub valid_is : fields.valid ≡ valid_in answered.reply
  pub position_is : fields.position ≡ position_in answered.reply
  pub words_are : AreWords answered.reply (option_map string_bytes fields.reason)
      (option_map string_bytes fields.section)
  pub anchor_is : option_map string_bytes fields.anchor
      ≡ option_map encode_lower (anchor_in answered.reply)
  pub policies_are : map string_bytes fields.policies.items
      ≡ map dotted_form (policies_in answered.reply)
  pub places_are : fields.places.items ≡ places_in answered.reply
  pub prefix_is : fields.prefix ≡ prefix_in answered.reply
  pub explanation : IsExplanation asked answered.reply (string_bytes fields.explanation)
