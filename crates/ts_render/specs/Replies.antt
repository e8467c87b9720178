-- What replies say in a word.
use Rattle.std.specs.Prelude.{ℕ, Bool, true, false, List, Option, Some, None, codes}
use Rattle.ts_question.specs.declared.reply.Reply.{Reply}
use Rattle.ts_question.specs.declared.reply.Reply.TheVariants.{Valid, Invalid, Found, NoPath}
use Rattle.ts_question.specs.declared.reply.Reply.TheVariants.{SearchLimit, NotYet, Malformed}
use Rattle.ts_question.specs.declared.reply.Reply.TheVariants.{NoAnchor, Limit, Page}

abbrev pub name_of : Reply → List ℕ
name_of (Valid anchor policies) = codes "Valid"
name_of (Invalid position reason) = codes "Invalid"
name_of (Found anchor places policies) = codes "Found"
name_of NoPath = codes "NoPath"
name_of SearchLimit = codes "SearchLimit"
name_of (NotYet prefix) = codes "NotYet"
name_of (Malformed index fault place) = codes "Malformed"
name_of NoAnchor = codes "NoAnchor"
name_of Limit = codes "Limit"
name_of (Page total rows) = codes "Page"

-- whether the chain is valid; a node that has not looked at all chains, or at none, does not say
abbrev pub valid_in : Reply → Option Bool
valid_in (Valid anchor policies) = Some true
valid_in (Found anchor places policies) = Some true
valid_in (Invalid position reason) = Some false
valid_in NoPath = Some false
valid_in (Malformed index fault place) = Some false
valid_in NoAnchor = Some false
valid_in other = None

abbrev pub position_in : Reply → Option ℕ
position_in (Invalid position reason) = Some position
position_in other = None

abbrev pub prefix_in : Reply → Option ℕ
prefix_in (NotYet prefix) = Some prefix
prefix_in other = None

-- the reply to a question that names k is for ever
abbrev pub is_final : Reply → Bool
is_final (NotYet prefix) = false
is_final other = true
