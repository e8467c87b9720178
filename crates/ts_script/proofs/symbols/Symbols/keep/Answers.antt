-- A free name is last.
use Rattle.std.proofs.Common.{◌∙◌, ap, map}
use Rattle.ts_script.specs.Known.{entry_in}
use Rattle.ts_script.proofs.Lookup.{kept_last}
use Rattle.ts_script.proofs.symbols.Symbols.keep.Goals as goal

pub returns-clause-kept : goal.returns-clause-kept
returns-clause-kept c = λ free. ap (map entry_in) c.in_ok-insert.ensures.entries ∙ kept_last c.args.name c.args.kept c.args.self.now.things.entries free
