-- General subtrees (RFC 5280 4.2.1.10), of which name constraints consist.
use Rattle.std.specs.Prelude.{◌≡◌, ℕ, ◌==◌, ◌&&◌, not, Bool, true, false, List, [], ◌∷◌, ◌++◌}
use Rattle.std.specs.Prelude.{Option, is_some, unwrap_or, Result, Ok, Err, if◌then◌else◌}
use Rattle.ts_der.specs.declared.fault.DerFault.TheVariants.{IntegerForm, DefaultEncoded}
use Rattle.ts_der.specs.declared.fault.Fault.{Fault}
use Rattle.ts_der.specs.Answer.{◌>>=◌}
use Rattle.ts_der.specs.Rules.{Rule, rule}
use Rattle.ts_der.specs.Element.{Tlv, inside}
use Rattle.ts_der.specs.Integer.{is_shortest, integer_rules}
use Rattle.ts_der.specs.Reading.{element_at, value_at, end_at}
use Rattle.ts_shape.specs.declared.fault.CertRule.TheVariants.{SubtreeBounds, AddressLength}
use Rattle.ts_shape.specs.declared.fault.CertFault.{CertFault}
use Rattle.ts_shape.specs.Fault.{der, breaks}
use Rattle.ts_shape.specs.Fields.{Within, IfAny, IsInteger, optional_of}
use Rattle.ts_name.specs.General.{GeneralName, IsGeneralName, general_at, has_range_length}

-- GeneralSubtree; minimum and maximum are the content octets of INTEGERs
pub record GeneralSubtree : Type 0 where
  pub base : GeneralName
  pub minimum : List ℕ
  pub maximum : Option (List ℕ)

-- the content of INTEGER 0 (X.690 8.3)
abbrev pub is_zero : List ℕ → Bool
is_zero (octet ∷ []) = octet == 0
is_zero content = false

-- minimum is zero and maximum is absent (4.2.1.10)
abbrev pub is_unbounded : GeneralSubtree → Bool
is_unbounded s = is_zero s.minimum && not (is_some s.maximum)

-- ---- encoding

-- an encoded minimum: INTEGER, and not the default (X.690 11.5)
abbrev pub IsDistance : List ℕ → List ℕ → Type 0
IsDistance content octets = IsInteger content octets × (is_zero octets ≡ false)

-- minimum [0] BaseDistance DEFAULT 0
pub record IsMinimum (octets : List ℕ) (minimum : List ℕ) : Type 0 where
  pub minimum_octets : Option (List ℕ)
  pub encoded : IfAny 0x80 IsDistance octets minimum_octets
  pub value : minimum ≡ unwrap_or minimum_octets (0 ∷ [])

-- GeneralSubtree ::= SEQUENCE { base GeneralName, minimum [0] BaseDistance DEFAULT 0, maximum [1]
-- BaseDistance OPTIONAL }
pub record IsSubtree (content : List ℕ) (s : GeneralSubtree) : Type 0 where
  pub named : List ℕ
  pub least : List ℕ
  pub most : List ℕ
  pub base : IsGeneralName named s.base
  pub minimum : IsMinimum least s.minimum
  pub maximum : IfAny 0x81 IsInteger most s.maximum
  pub fields : content ≡ named ++ (least ++ most)

-- the octets are the subtree of a constraint: minimum is zero, maximum is absent, and an IP address
-- has a mask (4.2.1.10)
pub record IsConstraint (octets : List ℕ) (s : GeneralSubtree) : Type 0 where
  pub whole : Within 0x30 IsSubtree octets s
  pub unbounded : is_unbounded s ≡ true
  pub range : has_range_length s.base ≡ true

-- ---- reading

-- an INTEGER, and then not the default (X.690 8.3.2, 11.5)
abbrev pub minimum_rules : List Rule
minimum_rules = rule IntegerForm (λ c. not (is_shortest c)) ∷ rule DefaultEncoded (λ c. is_zero c)
    ∷ []

-- minimum [0], where it is encoded
abbrev pub minimum_of : Tlv → Result (List ℕ) Fault
minimum_of = value_at minimum_rules (λ c. c)

-- maximum [1]
abbrev pub maximum_of : Tlv → Result (List ℕ) Fault
maximum_of = value_at integer_rules (λ c. c)

-- GeneralSubtree ::= SEQUENCE { base, minimum, maximum }
unfoldable pub subtree_of : Tlv → Result GeneralSubtree Fault
subtree_of e = do
  base ← general_at (inside e)
  minimum ← optional_of 0x80 minimum_of base.1
  maximum ← optional_of 0x81 maximum_of minimum.1
  done ← end_at maximum.1
  Ok (record { base = base.0; minimum = unwrap_or minimum.0 (0 ∷ []); maximum = maximum.0 })

-- the rules of a constraint, whose faults have place 0
unfoldable pub constraint_by_rules : GeneralSubtree → Result GeneralSubtree CertFault
constraint_by_rules s =
    if not (is_unbounded s) then Err (breaks 0 SubtreeBounds)
    else (if not (has_range_length s.base) then Err (breaks 0 AddressLength) else Ok s)

-- the subtree that octets are, and nothing after it
unfoldable pub constraint_of : List ℕ → Result GeneralSubtree CertFault
constraint_of octets = do
  e ← der (element_at 0x30 (record { rest = octets; at = 0 }))
  s ← der (subtree_of e.0)
  done ← der (end_at e.1)
  constraint_by_rules s
