use Rattle.std.proofs.Common.{◌≡◌, ◌++◌}
use Rattle.std.specs.Prelude.{map}
use Rattle.ts_der.specs.Element.{inside}
use Rattle.ts_der.specs.View.{now}
use Rattle.ts_shape.specs.Items.{items_at}
use Rattle.ts_crl.specs.inside.Endings.{ending_of}
use Rattle.ts_crl.specs.inside.Marks.{mark_of}
use Rattle.ts_crl.proofs.entries.endings_in.Given as goal

abbrev pub invariant-loop-mark : goal.invariant-loop-mark
invariant-loop-mark l =
    map (λ m. ending_of m.userCertificate) (items_at mark_of (inside (now l.fn.entries)))
    ≡ l.endings.items ++ map (λ m. ending_of m.userCertificate) (items_at mark_of l.mark-iterator.rest)
