-- What contracts see of owned canonical forms.
use Rattle.std.specs.Prelude.{List, map}
use Rattle.ts_name.specs.declared.canon.CanonAttribute.{CanonAttribute}
use Rattle.ts_name.specs.declared.canon.CanonRdn.{CanonRdn}
use Rattle.ts_name.specs.declared.canon.Canon.{Canon}
use Rattle.ts_name.specs.Canon.{CanonAttr}

-- the octets of an attribute
abbrev pub attr_in : CanonAttribute → CanonAttr
attr_in a = record { kind = a.kind.items; tag = a.tag; value = a.value.items }

-- the attributes of a relative distinguished name
abbrev pub attrs_in : CanonRdn → List CanonAttr
attrs_in rdn = map attr_in rdn.attributes.items

-- the relative distinguished names of a name
abbrev pub rdns_in : Canon → List (List CanonAttr)
rdns_in name = map attrs_in name.rdns.items
