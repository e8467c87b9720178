use Rattle.std.proofs.Common.{List, Ok, refl, ap, sym, ◌∙◌}
use Rattle.ts_der.specs.View.{now}
use Rattle.ts_extensions.specs.Extension.{Located}
use Rattle.ts_extensions.proofs.ValidLists.{sound-read}
use Rattle.ts_extensions.proofs.checked_extensions.judge.Goals as goal

pub returns-in-Certificate-clause-placed : goal.returns-in-Certificate-clause-placed
returns-in-Certificate-clause-placed c =
    let read = sound-read (now c.args.element) (c.if-have_ends_of_their_own.ensures refl) in
    read.0 ∙ ap (λ (xs : List Located). Ok xs) (sym c.within.ensures)

pub returns-in-Certificate-clause-judged : goal.returns-in-Certificate-clause-judged
returns-in-Certificate-clause-judged c =
    let read = sound-read (now c.args.element) (c.if-have_ends_of_their_own.ensures refl) in
    rw (c.in-Certificate.is, c.within.ensures) (sym read.1)
