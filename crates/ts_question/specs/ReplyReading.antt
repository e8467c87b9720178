-- An answer read from front to back.
use Rattle.std.specs.Prelude.{ℕ, nat_lt, List, [], ◌∷◌}
use Rattle.std.specs.Int.{w32}
use Rattle.ts_codec.specs.Reading.{Reader, ◌that◌, ◌and◌, ◌then◌, ◌into◌, bare, octet_at, tag_at}
use Rattle.ts_codec.specs.Reading.{number_at, octets_at, blob8_at, oid_at, prefix_at, many_at}
use Rattle.ts_codec.specs.Reading.{by_kind}
use Rattle.ts_reason.specs.Octets.{reason_at}
use Rattle.ts_question.specs.declared.reply.Reply.{Reply}
use Rattle.ts_question.specs.declared.reply.Reply.TheVariants.{Valid, Invalid, Found, NoPath}
use Rattle.ts_question.specs.declared.reply.Reply.TheVariants.{SearchLimit, NotYet, Malformed}
use Rattle.ts_question.specs.declared.reply.Reply.TheVariants.{NoAnchor, Limit, Page}
use Rattle.ts_question.specs.QuestionReading.{subtrees_at}
use Rattle.ts_question.specs.Reply.{NumberedReply, numbered_reply, are_places, is_place}

unfoldable pub accepted_at : Reader (List (List ℕ))
accepted_at = number_at w32 then many_at oid_at

unfoldable pub valid_at : Reader Reply
valid_at = octets_at 32 and accepted_at into (λ x. Valid x.0 x.1)

unfoldable pub invalid_at : Reader Reply
invalid_at = octet_at that is_place and reason_at into (λ x. Invalid x.0 x.1)

unfoldable pub found_at : Reader Reply
found_at = octets_at 32 and blob8_at that are_places and accepted_at
    into (λ x. Found x.0 x.1.0 x.1.1)

-- how many commands are known, which are fewer than k
unfoldable pub not_yet_at : ℕ → Reader Reply
not_yet_at k = number_at w32 that (λ prefix. nat_lt prefix k) into NotYet

unfoldable pub malformed_at : Reader Reply
malformed_at = octet_at and octet_at and number_at w32 into (λ x. Malformed x.0 x.1.0 x.1.1)

unfoldable pub page_at : Reader Reply
page_at = number_at w32 and subtrees_at into (λ x. Page x.0 x.1)

-- the fields after each tag, k commands being looked at
abbrev pub replies : ℕ → List (ℕ × Reader Reply)
replies k = (1, valid_at) ∷ (2, invalid_at) ∷ (3, found_at) ∷ (4, bare NoPath)
    ∷ (5, bare SearchLimit) ∷ (6, not_yet_at k) ∷ (7, malformed_at) ∷ (8, bare NoAnchor)
    ∷ (9, tag_at 1 into (λ o. Limit)) ∷ (10, page_at) ∷ []

unfoldable pub answer_at : Reader NumberedReply
answer_at = prefix_at then (λ k. by_kind (replies k) into numbered_reply k)
