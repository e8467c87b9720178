-- Had a moment a text, it would have been printed.
use Rattle.std.proofs.Common.{rules}
use Rattle.std.proofs.Math.Facts.{to_z-of_z}
use Rattle.ts_render.proofs.text.moment_text.Goals as goal

pub returns-in-None : goal.returns-in-None
returns-in-None c text is =
    let found = simp (to_z-of_z, c.ranges.moment) at c.print_general.ensures.only in
    let some = found text is in
    search (rules, some, c.in-None.is)
