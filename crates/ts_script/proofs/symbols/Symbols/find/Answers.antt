-- What is known by a name is what the map has at it.
use Rattle.std.proofs.Common.{◌∙◌, ap, option_map}
use Rattle.ts_script.specs.Known.{thing_in}
use Rattle.ts_script.proofs.Lookup.{looked_up, borrowed}
use Rattle.ts_script.proofs.symbols.Symbols.find.Goals as goal

pub returns : goal.returns
returns c = borrowed thing_in c.get.result ∙ (ap (option_map thing_in) c.get.ensures.value ∙ looked_up c.args.name.now c.args.self.now.things.entries)
