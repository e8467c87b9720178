use Rattle.std.proofs.Common.{◌≡◌}
use Rattle.std.specs.List.{find}
use Rattle.std.specs.Str.{bytes_eq}
use Rattle.ts_der.specs.Element.{inside}
use Rattle.ts_der.specs.View.{now}
use Rattle.ts_shape.specs.Items.{items_at}
use Rattle.ts_crl.specs.inside.Marks.{mark_of}
use Rattle.ts_crl.proofs.revoked.RevokedEntries.mark_of.Given as goal

abbrev pub invariant-loop-mark : goal.invariant-loop-mark
invariant-loop-mark l =
    find (λ m. bytes_eq m.userCertificate l.fn.serial.octets.now) (items_at mark_of (inside (now l.fn.self.element)))
    ≡ find (λ m. bytes_eq m.userCertificate l.fn.serial.octets.now) (items_at mark_of l.mark-iterator.rest)
