use Rattle.std.proofs.Common.{ap, ◌∙◌}
use Rattle.std.specs.Prelude.{option_map}
use Rattle.ts_extensions.specs.Extension.{unlocated}
use Rattle.ts_extensions.specs.ExtensionView.{located_as, all_located_in}
use Rattle.ts_crl.proofs.Finds.{unlocated-find, seen-twice}
use Rattle.ts_crl.proofs.slots.find_among.Goals as goal

pub returns : goal.returns
returns c = seen-twice located_as unlocated c.find.result ∙ (ap (option_map unlocated) c.find.ensures ∙ unlocated-find c.args.known (all_located_in c.args.extensions))
