-- What contracts see of the entries of a list.
use Rattle.std.specs.Prelude.{List, map, option_map}
use Rattle.ts_der.specs.Element.{inside}
use Rattle.ts_der.specs.View.{now}
use Rattle.ts_shape.specs.Items.{items_at}
use Rattle.ts_extensions.specs.declared.extension.Extension.{Extension as Borrowed}
use Rattle.ts_extensions.specs.Extension.{Extension, Located, unlocated, located_in}
use Rattle.ts_extensions.specs.ExtensionView.{located_as}
use Rattle.ts_field.specs.View.{time_in}
use Rattle.ts_crl.specs.declared.extension_list.ExtensionList.{ExtensionList}
use Rattle.ts_crl.specs.declared.placed.PlacedFault.{PlacedFault}
use Rattle.ts_crl.specs.declared.entry.Entry.{Entry}
use Rattle.ts_crl.specs.declared.revoked.RevokedEntries.{RevokedEntries}
use Rattle.ts_crl.specs.List.{LocatedExtensions, LocatedEntry, RevokedCertificate, unlocated_entry}
use Rattle.ts_crl.specs.Reading.{located_entry_of as reading_of}

abbrev pub located_items_in : ExtensionList → List Located
located_items_in l = items_at located_in (inside (now l.element))

abbrev pub placed_in : PlacedFault → LocatedExtensions
placed_in p = record { at = p.at; extensions = located_items_in p.list }

abbrev pub entry_as : Entry → LocatedEntry
entry_as e = record {
  userCertificate = e.serial_number.octets.now;
  revocationDate = time_in e.date;
  crlEntryExtensions = option_map placed_in e.extensions;
}

abbrev pub revoked_in : RevokedEntries → List LocatedEntry
revoked_in r = items_at reading_of (inside (now r.element))

-- and what they say, wherever they stand
abbrev pub entry_in : Entry → RevokedCertificate
entry_in e = unlocated_entry (entry_as e)

abbrev pub entries_in : RevokedEntries → List RevokedCertificate
entries_in r = map unlocated_entry (revoked_in r)

abbrev pub extension_as : Borrowed → Extension
extension_as x = unlocated (located_as x)
