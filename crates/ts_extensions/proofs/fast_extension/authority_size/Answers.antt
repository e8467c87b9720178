use Rattle.std.proofs.Common.{sym, ◌∙◌}
use Rattle.ts_extensions.proofs.FastItems.{authority-item}
use Rattle.ts_extensions.proofs.fast_extension.authority_size.Goals as goal

pub returns-clause-sound : goal.returns-clause-sound
returns-clause-sound c = authority-item c.args.octets.now (sym c.lie_between.ensures ∙ c.if-not-lie_between.false) c.if-octets-lt17.false c.if-octets.false
