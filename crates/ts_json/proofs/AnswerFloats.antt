-- The object of an answer has no number that is a fraction.
use Rattle.std.proofs.Common.{◌≡◌, refl, ℕ, List, [], ◌∷◌, Bool, true, false, Option, Some, None, map, codes, string_bytes, option_map}
use Rattle.serde_json.specs.Data.{Data, string, Members, no_members, put}
use Rattle.serde_json.specs.View.{items_of}
use Rattle.serde_json.specs.Written.{has_float, items_have_float, members_have_float}
use Rattle.ts_json.specs.Object.{text_or_null, number_or_null, array_of}
use Rattle.ts_json.specs.Answer.{answer_in, asked_in, flag_or_null, numbers_of, told_in, verdict_in, whole}
use Rattle.ts_json.specs.declared.answer.AnswerFields.{AnswerFields}
use Rattle.ts_json.proofs.Floats.{put_none, of_text, of_number, of_texts}

pub of_flag : (flag : Option Bool) → has_float (flag_or_null flag) ≡ false
of_flag None = refl
of_flag (Some flag) = refl

pub of_numbers : (ns : List ℕ) → items_have_float (items_of (map whole ns)) ≡ false
of_numbers [] = refl
of_numbers (n ∷ ns) = of_numbers ns

-- the members so far
abbrev to_k : AnswerFields → Members
to_k f = put (codes "k") (whole f.k) no_members

abbrev to_at : AnswerFields → Members
to_at f = put (codes "at") (text_or_null (option_map string_bytes f.at)) (to_k f)

abbrev to_id : AnswerFields → Members
to_id f = put (codes "id") (string (string_bytes f.id)) (to_at f)

abbrev to_question : AnswerFields → Members
to_question f = put (codes "question") (string (string_bytes f.question)) (to_id f)

asked : (f : AnswerFields) → members_have_float (asked_in f) ≡ false
unfolding asked_in
asked f =
    put_none (codes "prefix") (number_or_null f.prefix) (to_question f) (of_number f.prefix)
    (put_none (codes "question") (string (string_bytes f.question)) (to_id f) refl
    (put_none (codes "id") (string (string_bytes f.id)) (to_at f) refl
    (put_none (codes "at") (text_or_null (option_map string_bytes f.at)) (to_k f) (of_text (option_map string_bytes f.at))
    (put_none (codes "k") (whole f.k) no_members refl refl))))

abbrev to_reply : AnswerFields → Members
to_reply f = put (codes "reply") (string f.reply.now) (asked_in f)

abbrev to_valid : AnswerFields → Members
to_valid f = put (codes "valid") (flag_or_null f.valid) (to_reply f)

abbrev to_position : AnswerFields → Members
to_position f = put (codes "position") (number_or_null f.position) (to_valid f)

abbrev to_reason : AnswerFields → Members
to_reason f = put (codes "reason") (text_or_null (option_map string_bytes f.reason)) (to_position f)

verdict : (f : AnswerFields) → members_have_float (verdict_in f) ≡ false
unfolding verdict_in
verdict f =
    put_none (codes "section") (text_or_null (option_map string_bytes f.section)) (to_reason f) (of_text (option_map string_bytes f.section))
    (put_none (codes "reason") (text_or_null (option_map string_bytes f.reason)) (to_position f) (of_text (option_map string_bytes f.reason))
    (put_none (codes "position") (number_or_null f.position) (to_valid f) (of_number f.position)
    (put_none (codes "valid") (flag_or_null f.valid) (to_reply f) (of_flag f.valid)
    (put_none (codes "reply") (string f.reply.now) (asked_in f) refl (asked f)))))

abbrev to_anchor : AnswerFields → Members
to_anchor f = put (codes "anchor") (text_or_null (option_map string_bytes f.anchor)) (verdict_in f)

abbrev to_policies : AnswerFields → Members
to_policies f = put (codes "policies") (array_of (map string_bytes f.policies.items)) (to_anchor f)

abbrev to_places : AnswerFields → Members
to_places f = put (codes "places") (numbers_of f.places.items) (to_policies f)

told : (f : AnswerFields) → members_have_float (told_in f) ≡ false
unfolding told_in
told f =
    put_none (codes "explanation") (string (string_bytes f.explanation)) (to_places f) refl
    (put_none (codes "places") (numbers_of f.places.items) (to_policies f) (of_numbers f.places.items)
    (put_none (codes "policies") (array_of (map string_bytes f.policies.items)) (to_anchor f) (of_texts (map string_bytes f.policies.items))
    (put_none (codes "anchor") (text_or_null (option_map string_bytes f.anchor)) (verdict_in f) (of_text (option_map string_bytes f.anchor)) (verdict f))))

pub no_float : (f : AnswerFields) → has_float (answer_in f) ≡ false
no_float f = told f
