-- What contracts see of the attributes that are borrowed.
use Rattle.ts_name.specs.declared.attribute.Attribute.{Attribute}
use Rattle.ts_name.specs.Canon.{Attr}

-- an attribute as octets, without where it lies in memory
abbrev pub attr_of : Attribute → Attr
attr_of a = record { kind = a.kind.now; tag = a.tag; value = a.value.now }
