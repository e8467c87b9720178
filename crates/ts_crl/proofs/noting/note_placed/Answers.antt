use Rattle.std.proofs.Common.{List, Ok, length, refl, ap, sym, ◌∙◌}
use Rattle.ts_der.specs.Element.{inside}
use Rattle.ts_der.specs.View.{now}
use Rattle.ts_shape.specs.Items.{items_at}
use Rattle.ts_extensions.specs.Extension.{Located, located_in}
use Rattle.ts_crl.specs.inside.Findings.{join, found_among}
use Rattle.ts_crl.specs.FindingsView.{findings_in}
use Rattle.ts_crl.specs.List.{LocatedExtensions}
use Rattle.ts_crl.specs.Reading.{located_extensions_of}
use Rattle.ts_crl.proofs.Joining.{listed, placed-joined}
use Rattle.ts_crl.proofs.noting.note_placed.Goals as goal

pub or_repeat-findings-requires : goal.or_repeat-findings-requires
or_repeat-findings-requires c =
    let found = c.in_ok-count.ensures in
    found.3 ∙ ap length (sym (listed located_in (now c.args.element) found.0 found.1))

pub returns : goal.returns
unfolding located_extensions_of
returns c =
    let e = now c.args.element in
    let first = findings_in c.args.findings.now in
    let found = c.in_ok-count.ensures in
    let same = sym (listed located_in e found.0 found.1) in
    let x : LocatedExtensions = record { at = e.at; extensions = items_at located_in (inside e) } in (
      x,
      rw found.1 (ap (λ (xs : List Located). Ok (record { at = e.at; extensions = xs })) same),
      placed-joined first (findings_in c.note_extensions.new.findings) _ x
          (found.2 ∙ ap (λ (xs : List Located). join first (found_among xs)) same)
          c.or_fault-findings.ensures c.or_repeat-findings.ensures refl refl refl,
    )
