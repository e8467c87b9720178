use Rattle.std.proofs.Common.{rules}
use Rattle.ts_der.specs.Octets.{AreOctets}
use Rattle.ts_crl.proofs.Magnitudes.{equally_long, longer}
use Rattle.ts_crl.proofs.numbers.is_less.Goals as goal

pub returns-then-number-other : goal.returns-then-number-other
returns-then-number-other c =
    let fits : AreOctets c.args.number.now = search rules in
    let others_fit : AreOctets c.args.other.now = search rules in
    equally_long c.args.number.now c.args.other.now c.lt.result fits others_fit c.requires.natural c.requires.full_natural c.if-number-other.true c.lt.ensures

pub returns-else-number-other : goal.returns-else-number-other
returns-else-number-other c =
    let fits : AreOctets c.args.number.now = search rules in
    let others_fit : AreOctets c.args.other.now = search rules in
    longer c.args.number.now c.args.other.now fits others_fit c.requires.shortest c.requires.natural c.requires.full_shortest c.requires.full_natural
    c.if-number-other.false
