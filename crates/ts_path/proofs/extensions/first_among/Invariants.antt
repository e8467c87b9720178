-- The first of all is the first of those left.
use Rattle.std.proofs.Common.{◌≡◌, map}
use Rattle.std.specs.List.{find}
use Rattle.ts_shape.specs.Items.{items_at}
use Rattle.ts_extensions.specs.Extension.{unlocated, located_in}
use Rattle.ts_extensions.specs.ExtensionView.{extensions_in}
use Rattle.ts_cert.specs.CertView.{cert_in}
use Rattle.ts_path.specs.Extensions.{is_refused}
use Rattle.ts_path.proofs.extensions.first_among.Given as goal

abbrev pub invariant-loop-extension : goal.invariant-loop-extension
invariant-loop-extension l =
    (goal.iterator-loop-extension).can_next l.extension-iterator × (goal.iterator-loop-extension).is_finite l.extension-iterator
    × (find (is_refused (cert_in l.cert).tbsCertificate) (extensions_in l.fn.extensions) ≡ find
    (is_refused (cert_in l.cert).tbsCertificate)
    (map unlocated (items_at located_in l.extension-iterator.rest)))
