use Rattle.std.proofs.Common.{sym, ◌∙◌}
use Rattle.ts_extensions.proofs.FastItems.{authority-key-item}
use Rattle.ts_extensions.proofs.fast_extension.authority_key_size.Goals as goal

pub returns-clause-sound : goal.returns-clause-sound
returns-clause-sound c = authority-key-item c.args.octets.now (sym c.lie_between.ensures ∙ c.if-not-lie_between.false) c.if-octets-lt33.false
