-- No extension that was passed is the one that is looked for.
use Rattle.std.proofs.Common.{◌≡◌, length}
use Rattle.std.specs.List.{find}
use Rattle.std.specs.Str.{bytes_eq}
use Rattle.ts_shape.specs.Items.{items_at}
use Rattle.ts_extensions.specs.Extension.{located_in}
use Rattle.ts_extensions.specs.ExtensionView.{all_located_in}
use Rattle.ts_ext.specs.Known.{identifier_of}
use Rattle.ts_extensions.proofs.extensions.Extensions.find.Given as goal

abbrev pub invariant-loop-items : goal.invariant-loop-items
invariant-loop-items l =
    find (λ x. bytes_eq x.extnID (identifier_of l.fn.known)) (all_located_in l.fn.self)
    ≡ find (λ x. bytes_eq x.extnID (identifier_of l.fn.known)) (items_at located_in l.items.rest)

abbrev pub decreases-loop-items : goal.decreases-loop-items
decreases-loop-items l = length (items_at located_in l.items.rest)
