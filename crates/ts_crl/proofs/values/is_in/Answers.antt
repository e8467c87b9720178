use Rattle.std.proofs.Common.{◌∙◌}
use Rattle.std.specs.Prelude.{map}
use Rattle.ts_extensions.specs.Extension.{unlocated}
use Rattle.ts_crl.specs.EntryView.{extension_as, located_items_in}
use Rattle.ts_crl.specs.Values.{is_known}
use Rattle.ts_crl.proofs.Finds.{some-found}
use Rattle.ts_crl.proofs.values.is_in.Goals as goal

pub returns : goal.returns
returns c = c.is_some.ensures ∙ some-found extension_as c.find_in.result (is_known c.args.known) (map unlocated (located_items_in c.args.list)) c.find_in.ensures
