-- What contracts see of the period of validity that a certificate keeps (RFC 5280 4.1.2.5).
use Rattle.ts_field.specs.View.{time_in}
use Rattle.ts_cert.specs.declared.validity.Validity.{Validity}
use Rattle.ts_cert.specs.declared.validity.Period.{Period}

abbrev pub validity_in : Period → Validity
validity_in p = record { not_before = time_in p.not_before; not_after = time_in p.not_after }
