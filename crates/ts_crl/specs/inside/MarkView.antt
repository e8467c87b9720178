-- What contracts see of an entry that is known by its serial number.
use Rattle.ts_der.specs.View.{now}
use Rattle.ts_crl.specs.declared.mark.Mark.{Mark as Borrowed}
use Rattle.ts_crl.specs.inside.Marks.{Mark}

abbrev pub mark_as : Borrowed → Mark
mark_as m = record { userCertificate = m.serial_number.now; entry = now m.entry }
