-- The shape of DER (X.690 8.1, 10, 11) as a table: which elements follow one another, down to the
-- octets, and the first rule broken.
use Rattle.std.specs.Prelude.{ℕ, zero, suc, ◌==◌, ◌||◌, not, Bool, false, List, length, Option}
use Rattle.std.specs.Prelude.{Some, None, option_map, if◌then◌else◌}
use Rattle.ts_der.specs.declared.fault.DerFault.TheVariants.{WrongTag, Trailing}
use Rattle.ts_der.specs.Rules.{Rule, first_broken}
use Rattle.ts_der.specs.Element.{Place, Tlv, inside}
use Rattle.ts_der.specs.Header.{header_rules}
use Rattle.ts_der.specs.Reading.{begins_with, is_end, element_of, behind}
use Rattle.ts_shape.specs.declared.fault.CertRule.{CertRule}
use Rattle.ts_shape.specs.declared.fault.CertRule.TheVariants.{Der}
use Rattle.ts_shape.specs.declared.fault.CertFault.{CertFault}
use Rattle.ts_shape.specs.Fault.{breaks}

-- ---- tables

-- rules of an element's content as a whole: the first that it breaks, if it breaks one
abbrev pub ContentRules : Type 0
ContentRules = List ℕ → Option CertRule

infixr 30 ◌then◌
mutual
  -- what one element is
  pub data Row : Type 0 where
    -- of this tag, with content of a shape, which then keeps the rules; or, if of another tag, what
    -- the next row says
    tagged : ℕ → Shape → ContentRules → Row → Row
    -- of any tag
    any : Row
    -- of no further tag: the tag is wrong
    no_other : Row
    -- what a row says, or absent where none of its tags stands
    optional : Row → Row

  -- what octets are, from front to back
  pub data Shape : Type 0 where
    -- an element, and then others
    ◌then◌ : Row → Shape → Shape
    -- elements of one row, up to the end
    items : Row → Shape
    -- no octet
    nothing : Shape
    -- octets that are not read as elements
    plain : Shape

-- ---- the first rule that is broken

-- whether a tag of a row is first
abbrev pub stands : Row → List ℕ → Bool
stands (tagged tag shape rules other) octets = begins_with tag octets || stands other octets
stands any octets = not (is_end octets)
stands no_other octets = false
stands (optional row) octets = stands row octets

-- whether the element of a row is absent
abbrev pub is_absent : Row → List ℕ → Bool
is_absent (optional row) octets = not (stands row octets)
is_absent row octets = false

-- the first of two faults, if there is one
infixl 20 ◌or_else◌
abbrev pub ◌or_else◌ : {A : Type 0} → Option A → Option A → Option A
(Some x) or_else other = Some x
None or_else other = other

-- the first rule that the header of the element at a place breaks
abbrev pub header_fault : Place → Option CertFault
header_fault here = option_map (λ kind. breaks here.at (Der kind))
    (first_broken header_rules here.rest)

-- the same for elements up to the end, and of what each is, at a place that has no more of them
-- than this
abbrev pub each_fault : (Tlv → Option CertFault) → ℕ → Place → Option CertFault
each_fault fault zero here = None
each_fault fault (suc n) here =
    if is_end here.rest then None else header_fault here or_else fault
    (element_of here) or_else each_fault fault n (behind here)

abbrev mutual
  -- the first rule that an element with a header breaks: of its tag, then within it, then of its
  -- content as a whole
  pub row_fault : Row → Tlv → Option CertFault
  row_fault (tagged tag shape rules other) e =
      if e.tag == tag then judge shape (inside e) or_else option_map (breaks e.at)
      (rules e.content) else row_fault other e
  row_fault any e = None
  row_fault no_other e = Some (breaks e.at (Der WrongTag))
  row_fault (optional row) e = row_fault row e

  -- the first rule that the octets at a place break
  pub judge : Shape → Place → Option CertFault
  judge (row then others) here =
      if is_absent row here.rest then judge others here
      else header_fault here or_else row_fault row (element_of here) or_else judge others
      (behind here)
  judge (items row) here = each_fault (row_fault row) (length here.rest) here
  judge nothing here = if is_end here.rest then None else Some (breaks here.at (Der Trailing))
  judge plain here = None

-- ---- the words of ASN.1

-- rules of DER
abbrev pub der_rules : List Rule → ContentRules
der_rules rules content = option_map Der (first_broken rules content)

-- no rule
abbrev pub no_rules : ContentRules
no_rules content = None

-- one rule, and whether a content breaks it
abbrev pub one_rule : CertRule → (List ℕ → Bool) → ContentRules
one_rule rule is_broken content = if is_broken content then Some rule else None

-- an element of this tag that holds no others
abbrev pub primitive : ℕ → ContentRules → Row
primitive tag rules = tagged tag plain rules no_other

-- SEQUENCE, and SEQUENCE OF by items
abbrev pub sequence : Shape → Row
sequence shape = tagged 0x30 shape no_rules no_other

-- CHOICE
infixr 40 ◌or◌
abbrev pub ◌or◌ : Row → Row → Row
(tagged tag shape rules other) or row = tagged tag shape rules (other or row)
any or row = any
no_other or row = row
(optional other) or row = optional (other or row)
