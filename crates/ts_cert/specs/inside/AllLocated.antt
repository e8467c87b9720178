-- The extensions within the SEQUENCE that holds them, and the first rule that they break.
use Rattle.std.specs.Prelude.{List, [], Option, option_map, unwrap_or}
use Rattle.ts_der.specs.declared.reader.Element.{Element}
use Rattle.ts_der.specs.Element.{inside}
use Rattle.ts_der.specs.View.{now}
use Rattle.ts_shape.specs.declared.fault.CertFault.{CertFault}
use Rattle.ts_shape.specs.Items.{items_at}
use Rattle.ts_ext.specs.declared.known.Holder.TheVariants.{Certificate}
use Rattle.ts_extensions.specs.Extension.{Located, located_in}
use Rattle.ts_extensions.specs.ValueRules.{extension_list_fault}

abbrev pub all_located_within : Element → List Located
all_located_within e = items_at located_in (inside (now e))

-- the first rule that the extensions of a certificate break, none where it has none
abbrev pub fault_within : Option Element → Option CertFault
fault_within e = extension_list_fault Certificate (unwrap_or (option_map all_located_within e) [])
