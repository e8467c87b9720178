use Rattle.std.proofs.Common.{List, ap, ◌∙◌}
use Rattle.std.specs.List.{find}
use Rattle.std.specs.Prelude.{option_map}
use Rattle.std.specs.Str.{bytes_eq}
use Rattle.ts_extensions.specs.Extension.{Located, unlocated}
use Rattle.ts_extensions.specs.ExtensionView.{located_as}
use Rattle.ts_ext.specs.Known.{identifier_of}
use Rattle.ts_crl.specs.EntryView.{located_items_in}
use Rattle.ts_crl.proofs.Finds.{unlocated-find, seen-twice}
use Rattle.ts_crl.proofs.values.find_in.Goals as goal

pub returns : goal.returns
returns c =
    let test = λ (x : Located). bytes_eq x.extnID (identifier_of c.args.known) in
    seen-twice located_as unlocated c.find.result
    ∙ (ap (option_map unlocated) (c.find.ensures ∙ ap (λ (xs : List Located). find test xs) c.extensions.ensures) ∙ unlocated-find c.args.known (located_items_in c.args.list))
