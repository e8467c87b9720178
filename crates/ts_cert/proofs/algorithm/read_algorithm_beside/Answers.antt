use Rattle.std.proofs.Common.{sym, ◌∙◌}
use Rattle.std.proofs.lemmas.Slice.Eq.{bytes_eq-Decides}
use Rattle.ts_der.specs.View.{now}
use Rattle.ts_field.specs.View.{algorithm_in}
use Rattle.ts_cert.proofs.Beside.{beside}
use Rattle.ts_cert.proofs.algorithm.read_algorithm_beside.Goals as goal

pub returns-then-eq : goal.returns-then-eq
returns-then-eq c =
    let read = c.requires.read in
    let same = (bytes_eq-Decides c.args.element.whole.now c.args.other.whole.now).0 (sym c.eq.ensures ∙ c.if-eq.true) in
    beside (now c.args.element) (algorithm_in c.args.other) read.0 c.requires.fits c.requires.encoded read.1 same
