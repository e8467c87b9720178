-- The words for what nodes answer.
use Rattle.std.specs.Prelude.{◌==◌, ℕ, List, [], ◌∷◌, ◌++◌, Option, Some, None, codes, find, length}
use Rattle.std.specs.Fmt.{decimal}
use Rattle.std.specs.List.{flat_map}
use Rattle.hex.specs.Hex.{encode_lower}
use Rattle.ts_line.specs.Names.{dotted_form}
use Rattle.ts_der.specs.declared.fault.DerFault.TheVariants as der
use Rattle.ts_question.specs.declared.reply.Reply.{Reply}
use Rattle.ts_question.specs.declared.reply.Reply.TheVariants.{Valid, Invalid, Found, NoPath}
use Rattle.ts_question.specs.declared.reply.Reply.TheVariants.{SearchLimit, NotYet, Malformed}
use Rattle.ts_question.specs.declared.reply.Reply.TheVariants.{NoAnchor, Limit, Page}
use Rattle.ts_reason.specs.Printed.{reason_text}
use Rattle.ts_shape.specs.Fault.{code_of}
use Rattle.ts_shape.specs.Printed.{rule_name}
use Rattle.ts_shape.specs.declared.fault.CertRule.{CertRule}
use Rattle.ts_shape.specs.declared.fault.CertRule.TheVariants as rules
use Rattle.ts_synod.specs.declared.fault.NodeFault.{NodeFault}
use Rattle.ts_synod.specs.declared.fault.NodeFault.TheVariants as faults

-- the name of a node's fault
abbrev pub fault_name : NodeFault → List ℕ
fault_name faults.Memory = codes "Memory"
fault_name faults.DiskFailed = codes "DiskFailed"
fault_name faults.Broken = codes "Broken"
fault_name faults.RoundsExhausted = codes "RoundsExhausted"
fault_name faults.PositionsExhausted = codes "PositionsExhausted"
fault_name faults.GenerationsExhausted = codes "GenerationsExhausted"

-- ---- a chain

-- accepted policies in dotted form, each behind a space
abbrev pub policies_words : List (List ℕ) → List ℕ
policies_words policies = flat_map (λ oid. codes " " ++ dotted_form oid) policies

-- a chain that is valid, with its policies, or a hyphen where there is none
abbrev pub valid_words : List (List ℕ) → List ℕ
valid_words [] = codes "valid -"
valid_words (policy ∷ policies) = codes "valid" ++ policies_words (policy ∷ policies)

-- the certificate that is not good, and why
abbrev pub invalid_words : ℕ → List ℕ → List ℕ
invalid_words position reason = codes "invalid " ++ (decimal position ++ (codes " " ++ reason))

-- places, each behind a space
abbrev pub places_words : List ℕ → List ℕ
places_words places = flat_map (λ place. codes " " ++ decimal place) places

-- a chain that was found, by the words for its anchor and its certificates
abbrev pub found_words : List ℕ → List ℕ → List (List ℕ) → List ℕ
found_words anchor places policies =
    codes "found " ++ (anchor ++ (places ++ (codes " " ++ valid_words policies)))

-- ---- a part of a question that can't be read

-- the rules that a certificate may break
abbrev pub all_rules : List CertRule
all_rules = rules.Der der.Truncated ∷ rules.Der der.HighTag ∷ rules.Der der.Indefinite
    ∷ rules.Der der.LongLength ∷ rules.Der der.TooLarge ∷ rules.Der der.WrongTag
    ∷ rules.Der der.Trailing ∷ rules.Der der.IntegerForm ∷ rules.Der der.BooleanForm
    ∷ rules.Der der.BitsForm ∷ rules.Der der.NamedBits ∷ rules.Der der.OidForm
    ∷ rules.Der der.SetOrder ∷ rules.Der der.DefaultEncoded ∷ rules.Der der.TextForm
    ∷ rules.Der der.TimeForm ∷ rules.Der der.Empty ∷ rules.AlgorithmMismatch
    ∷ rules.DuplicateExtension ∷ rules.Version ∷ rules.ExtensionsInOldVersion
    ∷ rules.SubtreeBounds ∷ rules.DuplicatePolicy ∷ rules.AddressLength ∷ []

-- the rule of a code
abbrev pub rule_of : ℕ → Option CertRule
rule_of code = find (λ rule. code_of rule == code) all_rules

-- its name, or the code where no rule has it
abbrev pub rule_words : ℕ → Option CertRule → List ℕ
rule_words code (Some rule) = rule_name rule
rule_words code None = decimal code

-- which part, and the rule of this code that it breaks
abbrev pub malformed_words : ℕ → ℕ → List ℕ
malformed_words index code =
    codes "Malformed " ++ (decimal index ++ (codes " " ++ rule_words code (rule_of code)))

-- ---- replies

abbrev pub not_yet_words : ℕ → List ℕ
not_yet_words prefix = codes "NotYet " ++ decimal prefix

-- how many rows a page has, of how many
abbrev pub page_words : ℕ → ℕ → List ℕ
page_words total count = codes "Page " ++ (decimal count ++ (codes " " ++ decimal total))

-- a reply, with an anchor as 64 hexadecimal digits and places as numbers
abbrev pub reply_words : Reply → List ℕ
reply_words (Valid anchor policies) = valid_words policies
reply_words (Invalid position reason) = invalid_words position (reason_text reason)
reply_words (Found anchor places policies) =
    found_words (encode_lower anchor) (places_words places) policies
reply_words NoPath = codes "NoPath"
reply_words SearchLimit = codes "SearchLimit"
reply_words (NotYet prefix) = not_yet_words prefix
reply_words (Malformed index fault place) = malformed_words index fault
reply_words NoAnchor = codes "NoAnchor"
reply_words Limit = codes "Limit PolicyPaths"
reply_words (Page total rows) = page_words total (length rows)
