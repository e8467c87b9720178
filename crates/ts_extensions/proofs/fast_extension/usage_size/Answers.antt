use Rattle.std.proofs.Common.{sym, ◌∙◌}
use Rattle.ts_extensions.proofs.FastItems.{usage-item}
use Rattle.ts_extensions.proofs.fast_extension.usage_size.Goals as goal

pub returns-clause-sound : goal.returns-clause-sound
returns-clause-sound c = usage-item c.args.octets.now (sym c.lie_between.ensures ∙ c.if-not-lie_between.false) c.if-octets-lt16.false c.if-octets-ne2.false
