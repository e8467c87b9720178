-- The table of general subtrees (RFC 5280 4.2.1.10), and the first rule that the octets of a
-- constraint break.
use Rattle.std.specs.Prelude.{ℕ, ◌==◌, ◌&&◌, ◌||◌, not, List, length, Option, Some, None}
use Rattle.std.specs.Prelude.{if◌then◌else◌}
use Rattle.ts_der.specs.Element.{Place, Tlv, inside}
use Rattle.ts_der.specs.Integer.{integer_rules}
use Rattle.ts_der.specs.Reading.{is_end, element_of, behind}
use Rattle.ts_shape.specs.declared.fault.CertRule.TheVariants.{SubtreeBounds, AddressLength}
use Rattle.ts_shape.specs.declared.fault.CertFault.{CertFault}
use Rattle.ts_shape.specs.Fault.{breaks}
use Rattle.ts_shape.specs.Shape.{Row, optional, Shape, nothing, ◌then◌, ◌or_else◌, judge, der_rules}
use Rattle.ts_shape.specs.Shape.{primitive, sequence}
use Rattle.ts_name.specs.GeneralTable.{general_name}
use Rattle.ts_name.specs.Subtree.{minimum_rules}

-- minimum [0] BaseDistance DEFAULT 0, BaseDistance ::= INTEGER
abbrev pub minimum : Row
minimum = primitive 0x80 (der_rules minimum_rules)

-- maximum [1] BaseDistance OPTIONAL
abbrev pub maximum : Row
maximum = primitive 0x81 (der_rules integer_rules)

-- base GeneralName, minimum, maximum
abbrev pub subtree_fields : Shape
subtree_fields = general_name then optional minimum then optional maximum then nothing

-- GeneralSubtree ::= SEQUENCE
abbrev pub general_subtree : Row
general_subtree = sequence subtree_fields

-- ---- the first rule that is broken

-- the input, from its first octet on
abbrev pub input : List ℕ → Place
input octets = record { rest = octets; at = 0 }

-- minimum is zero, which is not encoded, and maximum is absent (4.2.1.10): nothing follows base
abbrev pub bounds_fault : Tlv → Option CertFault
bounds_fault subtree = if is_end (behind (inside subtree)).rest then None
    else Some (breaks 0 SubtreeBounds)

-- an IP address has 8 octets or 32 (4.2.1.10)
abbrev pub address_fault : Tlv → Option CertFault
address_fault base =
    if base.tag == 0x87 && not (length base.content == 8 || length base.content == 32)
    then Some (breaks 0 AddressLength) else None

-- the first rule that is broken: the table, and nothing after it; no bounds; an address and its
-- mask
abbrev pub constraint_fault : List ℕ → Option CertFault
constraint_fault octets =
    let subtree = element_of (input octets) in
    judge (general_subtree then nothing) (input octets) or_else
    (bounds_fault subtree or_else address_fault (element_of (inside subtree)))
