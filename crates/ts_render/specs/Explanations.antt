-- What a reply to a question means, in plain words.
use Rattle.std.specs.Prelude.{◌≡◌, ◌==◌, ◌-◌, ◌<◌, ℕ, List, [], ◌++◌, length, codes}
use Rattle.std.specs.Prelude.{if◌then◌else◌, slice_index_or, true}
use Rattle.std.specs.Fmt.{decimal}
use Rattle.std.specs.List.{flat_map, list_all}
use Rattle.ts_cert.specs.Certificate.{Certificate}
use Rattle.ts_cert.specs.Encoding.{IsCertificate}
use Rattle.ts_der.specs.declared.oid.OidRef.{OidRef}
use Rattle.ts_explain.specs.Lines.{IsReasonLine}
use Rattle.ts_line.specs.Lines.{hex, is_printable, with_line_feed}
use Rattle.ts_question.specs.Question.{StoreQuestion}
use Rattle.ts_question.specs.declared.reply.Reply.{Reply}
use Rattle.ts_question.specs.declared.reply.Reply.TheVariants.{Valid, Invalid, Found, NoPath}
use Rattle.ts_question.specs.declared.reply.Reply.TheVariants.{SearchLimit, NotYet, Malformed}
use Rattle.ts_question.specs.declared.reply.Reply.TheVariants.{NoAnchor, Limit, Page}
use Rattle.ts_reason.specs.View.{reason_in}
use Rattle.ts_reason.specs.declared.reason.Reason.{Reason}
use Rattle.ts_render.specs.Chain.{certificates_in}

-- a certificate has this place, counted from 1, among these octets
abbrev pub IsAt : List (List ℕ) → ℕ → Certificate → Type 0
IsAt certificates place c = (place - 1 < length certificates)
    × IsCertificate (slice_index_or certificates (place - 1) []) c

-- the line on the certificate at a place: why it is not good
pub record IsInvalidChainLine (certificates : List (List ℕ)) (place : ℕ) (reason : Reason (List ℕ))
    (line : List ℕ) : Type 0 where
  pub certificate : (c : Certificate) → IsAt certificates place c → (given : Reason OidRef)
      × (reason_in given ≡ reason) × IsReasonLine place (length certificates) c given line
  pub none : ((c : Certificate) → ¬ (IsAt certificates place c))
      → line ≡ codes "no certificate has this place"

-- of a chain that is valid: how many certificates it has, under which trust anchor
abbrev pub valid_words : ℕ → List ℕ → List ℕ
valid_words count anchor = codes "the chain of " ++ (decimal count
    ++ (codes " is valid under the trust anchor " ++ hex anchor))

-- of a chain that was found: the places of its certificates
abbrev pub place_words : ℕ → List ℕ
place_words place = codes " " ++ decimal place

abbrev pub found_words : List ℕ → List ℕ → List ℕ
found_words anchor places = codes "valid under the trust anchor " ++ (hex anchor
    ++ (codes " are, in this order, these certificates of the question:"
    ++ flat_map place_words places))

-- of a part of the question that can't be read: an initial subtree, or which certificate
abbrev pub malformed_words : ℕ → ℕ → List ℕ
malformed_words index place = if index == 0
    then codes "an initial subtree of the question breaks a rule (RFC 5280 4.2.1.10)"
    else codes "certificate " ++ (decimal index
    ++ (codes " of the question is none: it breaks the rule at octet " ++ decimal place))

-- of fewer commands than are asked for
abbrev pub not_yet_words : ℕ → List ℕ
not_yet_words prefix = codes "the node knows " ++ (decimal prefix
    ++ codes " commands, fewer than the question is about")

-- of a page: how many rows it has, of how many
abbrev pub page_words : ℕ → ℕ → List ℕ
page_words count total = codes "a page of " ++ (decimal count ++ (codes " rows, of "
    ++ (decimal total ++ codes " in all; trustd store and trustd log print them")))

-- ---- by the reply

abbrev pub ExplainsReply : StoreQuestion → Reply → List ℕ → Type 0
ExplainsReply q (Valid anchor policies) line =
    line ≡ valid_words (length (certificates_in q)) anchor
ExplainsReply q (Invalid position reason) line =
    IsInvalidChainLine (certificates_in q) position reason line
ExplainsReply q (Found anchor places policies) line = line ≡ found_words anchor places
ExplainsReply q NoPath line =
    line ≡ codes "no chain of these certificates is valid under a trust anchor of the store"
ExplainsReply q SearchLimit line = line
    ≡ codes "none of the first 4096 chains of these certificates is valid, and there are more"
ExplainsReply q (NotYet prefix) line = line ≡ not_yet_words prefix
ExplainsReply q (Malformed index fault place) line = line ≡ malformed_words index place
ExplainsReply q NoAnchor line =
    line ≡ codes "the store has no trust anchor of this id after these commands"
ExplainsReply q Limit line = line ≡ codes "the policies have more paths than a limit"
ExplainsReply q (Page total rows) line = line ≡ page_words (length rows) total

-- such a line has printable characters of ASCII alone
pub record IsExplanation (q : StoreQuestion) (reply : Reply) (line : List ℕ) : Type 0 where
  pub says : ExplainsReply q reply line
  pub printable : list_all is_printable line ≡ true

-- the same, with the line feed that ends it
pub record IsEnded (q : StoreQuestion) (reply : Reply) (text : List ℕ) : Type 0 where
  pub line : List ℕ
  pub text_is : text ≡ with_line_feed line
  pub explanation : IsExplanation q reply line
