use Rattle.std.proofs.Common.{refl, ap, sym, ◌∙◌}
use Rattle.ts_der.specs.View.{now}
use Rattle.ts_shape.specs.Fields.{integer_at}
use Rattle.ts_crl.specs.inside.Findings.{join}
use Rattle.ts_crl.specs.FindingsView.{findings_in}
use Rattle.ts_crl.specs.List.{LocatedEntry}
use Rattle.ts_crl.proofs.Joining.{entry-read, entry-found-by}
use Rattle.ts_crl.proofs.noting.note_entry.Goals as goal

pub returns : goal.returns
returns c =
    let serial = c.in_ok-next_integer.field-0.octets.now in
    let date = c.in_ok-next_time.field-0 in
    let noted = c.in_ok-note_extensions_if_any.ensures in
    let entry : LocatedEntry = record { userCertificate = serial; revocationDate = date; crlEntryExtensions = noted.0 } in (
      entry,
      entry-read (now c.args.element) serial date noted.0 c.next_integer.new.fields c.next_time.new.fields c.note_extensions_if_any.new.fields
          (ap integer_at (sym c.reader-fields.ensures) ∙ c.in_ok-next_integer.ensures) c.in_ok-next_time.ensures noted.1 c.in_ok-end.ensures.exact,
      noted.2 ∙ ap (join (findings_in c.args.findings.now)) (sym (entry-found-by entry noted.0 refl)),
    )
