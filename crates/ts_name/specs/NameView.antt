-- What contracts see of the names that are borrowed.
use Rattle.std.specs.Prelude.{List}
use Rattle.ts_der.specs.Element.{inside}
use Rattle.ts_der.specs.View.{now}
use Rattle.ts_name.specs.declared.name.Name.{Name}
use Rattle.ts_name.specs.declared.rdn.Rdn.{Rdn}
use Rattle.ts_name.specs.Canon.{Attr}
use Rattle.ts_name.specs.Names.{rdns_from, attributes_from}

-- the relative distinguished names of a name
abbrev pub rdns_in : Name → List (List Attr)
rdns_in n = rdns_from (inside (now n.element))

-- the attributes of a relative distinguished name
abbrev pub attributes_in : Rdn → List Attr
attributes_in r = attributes_from (inside (now r.element))
