use Rattle.ts_crl.proofs.Ends.{starts}
use Rattle.ts_crl.proofs.endings.ending.Goals as goal

pub loop-octet-init : goal.loop-octet-init
loop-octet-init c = starts c.args.serial.now c.saturating_sub-start.result c.saturating_sub-start.ensures
