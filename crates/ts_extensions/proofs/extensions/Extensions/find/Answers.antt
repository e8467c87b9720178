use Rattle.std.proofs.Common.{List, sym, ap, ◌∙◌}
use Rattle.std.specs.List.{find}
use Rattle.std.specs.Str.{bytes_eq}
use Rattle.ts_shape.proofs.ItemParts.{walk-end}
use Rattle.ts_extensions.specs.Extension.{Located, located_in}
use Rattle.ts_ext.specs.Known.{identifier_of}
use Rattle.ts_extensions.proofs.extensions.Extensions.find.Goals as goal

pub returns : goal.returns
returns c = sym (c.loop-items.invariant
    ∙ ap (λ (xs : List Located). find (λ x. bytes_eq x.extnID (identifier_of c.args.known)) xs)
    (walk-end located_in c.loop-items.items.rest (sym c.loop-items-test.ensures)))
