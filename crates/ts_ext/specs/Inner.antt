-- What is within an element that is known by its place or by an object identifier beside it,
-- whatever its tag is.
use Rattle.std.specs.Prelude.{Option, option_map}
use Rattle.ts_der.specs.Element.{Tlv, inside}
use Rattle.ts_shape.specs.declared.fault.CertFault.{CertFault}
use Rattle.ts_shape.specs.Fault.{breaks}
use Rattle.ts_shape.specs.Shape.{Shape, ContentRules, ◌or_else◌, judge}

-- the first rule that an element breaks: within it, then of its content as a whole
abbrev pub inner_fault : Shape → ContentRules → Tlv → Option CertFault
inner_fault shape rules e = judge shape (inside e) or_else option_map (breaks e.at)
    (rules e.content)
