-- What a node answers: its ranges, and its one encoding.
use Rattle.std.specs.Prelude.{◌≡◌, ◌==◌, ◌&&◌, ◌-◌, ℕ, Bool, true, not, nat_le, nat_lt, List, []}
use Rattle.std.specs.Prelude.{◌∷◌, ◌++◌, length, slice_index}
use Rattle.std.specs.List.{flat_map, list_all, list_any}
use Rattle.std.specs.Int.{to_be_bytes, w32}
use Rattle.ts_der.specs.ObjectIdentifier.{is_oid}
use Rattle.ts_question.specs.declared.reply.Reply.{Reply}
use Rattle.ts_question.specs.declared.reply.Reply.TheVariants.{Valid, Invalid, Found, NoPath}
use Rattle.ts_question.specs.declared.reply.Reply.TheVariants.{SearchLimit, NotYet, Malformed}
use Rattle.ts_question.specs.declared.reply.Reply.TheVariants.{NoAnchor, Limit, Page}
use Rattle.ts_codec.specs.Parts.{blob8}
use Rattle.ts_reason.specs.Octets as reasons
use Rattle.ts_question.specs.Question.{are_subtrees, subtrees_encoding}

-- a reply, and the number of commands after which the store was looked at
pub record NumberedReply : Type 0 where
  pub k : ℕ
  pub reply : Reply

abbrev pub numbered_reply : ℕ → Reply → NumberedReply
numbered_reply k reply = record { k = k; reply = reply }

-- ---- ranges

-- no place twice
abbrev pub is_distinct : List ℕ → Bool
is_distinct [] = true
is_distinct (place ∷ places) = not (list_any (λ p. p == place) places) && is_distinct places

-- distinct, and the last is 1, the leaf
abbrev pub are_places : List ℕ → Bool
are_places places = nat_le (length places) 255 && slice_index places (length places - 1) == 1
    && is_distinct places

-- their number fits four octets
abbrev pub are_countable : List (List ℕ) → Bool
are_countable policies = nat_lt (length policies) 4294967296

-- the position of a certificate of a chain
abbrev pub is_place : ℕ → Bool
is_place position = nat_le 1 position && nat_le position 16

-- each field is in its range; a prefix that is not yet k is below it; the rows of a page are at
-- most as many, and as long, as the subtrees of a kind
abbrev pub is_reply : ℕ → Reply → Bool
is_reply k (Valid anchor policies) = are_countable policies
is_reply k (Invalid position reason) = is_place position
is_reply k (Found anchor places policies) = are_places places && are_countable policies
is_reply k (NotYet prefix) = nat_lt prefix k
is_reply k (Page total rows) = are_subtrees rows
is_reply k other = true

abbrev pub is_answer : NumberedReply → Bool
is_answer a = nat_le a.k 1000000 && is_reply a.k a.reply

-- ---- encoding

-- four octets of their number, and the contents octets of each
abbrev pub accepted_encoding : List (List ℕ) → List ℕ
accepted_encoding policies = to_be_bytes w32 (length policies) ++ flat_map blob8 policies

abbrev pub tag_of : Reply → ℕ
tag_of (Valid anchor policies) = 1
tag_of (Invalid position reason) = 2
tag_of (Found anchor places policies) = 3
tag_of NoPath = 4
tag_of SearchLimit = 5
tag_of (NotYet prefix) = 6
tag_of (Malformed index fault place) = 7
tag_of NoAnchor = 8
tag_of Limit = 9
tag_of (Page total rows) = 10

abbrev pub reply_fields : Reply → List ℕ
reply_fields (Valid anchor policies) = anchor ++ accepted_encoding policies
reply_fields (Invalid position reason) = position ∷ reasons.encoding reason
reply_fields (Found anchor places policies) = anchor ++ (blob8 places ++ accepted_encoding policies)
reply_fields NoPath = []
reply_fields SearchLimit = []
reply_fields (NotYet prefix) = to_be_bytes w32 prefix
reply_fields (Malformed index fault place) = index ∷ fault ∷ to_be_bytes w32 place
reply_fields NoAnchor = []
reply_fields Limit = 1 ∷ []
reply_fields (Page total rows) = to_be_bytes w32 total ++ subtrees_encoding rows

-- four octets of k, the tag, and the fields
abbrev pub answer_encoding : NumberedReply → List ℕ
answer_encoding a = to_be_bytes w32 a.k ++ (tag_of a.reply ∷ reply_fields a.reply)

-- ---- which have an encoding

abbrev pub ReplyFieldsFit : Reply → Type 0
ReplyFieldsFit (Valid anchor policies) = (length anchor ≡ 32) × (list_all is_oid policies ≡ true)
ReplyFieldsFit (Invalid position reason) = reasons.Fits reason
ReplyFieldsFit (Found anchor places policies) = (length anchor ≡ 32)
    × (list_all is_oid policies ≡ true)
ReplyFieldsFit (NotYet prefix) = nat_lt prefix 4294967296 ≡ true
ReplyFieldsFit (Malformed index fault place) = nat_lt place 4294967296 ≡ true
ReplyFieldsFit (Page total rows) = nat_lt total 4294967296 ≡ true
ReplyFieldsFit other = Unit {0}

pub record AnswerFits (a : NumberedReply) : Type 0 where
  pub fields : ReplyFieldsFit a.reply
  pub within : is_answer a ≡ true
