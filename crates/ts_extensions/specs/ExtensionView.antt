-- What contracts see of extensions that are borrowed.
use Rattle.std.specs.Prelude.{List, map}
use Rattle.ts_der.specs.Element.{inside}
use Rattle.ts_der.specs.View.{now}
use Rattle.ts_shape.specs.Items.{items_at}
use Rattle.ts_extensions.specs.declared.extension.Extension.{Extension as Borrowed}
use Rattle.ts_extensions.specs.declared.extensions.Extensions.{Extensions}
use Rattle.ts_extensions.specs.Extension.{Extension, Located, unlocated, located_in}

abbrev pub located_as : Borrowed → Located
located_as x = record {
  at = x.at;
  extnID = x.id.content.now;
  critical = x.critical;
  value = now x.value;
}

abbrev pub all_located_in : Extensions → List Located
all_located_in x = items_at located_in (inside (now x.list.element))

abbrev pub extensions_in : Extensions → List Extension
extensions_in x = map unlocated (all_located_in x)
