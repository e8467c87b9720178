-- The octets behind those of the command are those of the purposes.
use Rattle.std.proofs.Common.{◌∙◌, sym}
use Rattle.ts_render.proofs.Settings.{all_told_by, none_read, read_as}
use Rattle.ts_render.proofs.rows.purposes_of.Goals as goal

pub returns-in-Some : goal.returns-in-Some
returns-in-Some c =
    let octets = c.args.octets.now in
    let read = rw c.in-Some.is at c.in_ok-command-2.ensures.found in
    let command = c.deref.ensures.value ∙ c.in_ok-command.ensures in
    all_told_by c.purposes_by.result octets _ read.0 (sym command ∙ read.1)
    (read_as octets c.deref.result.now _ command (rw c.in-Some.is at c.in_ok-command-2.ensures.only))
    c.purposes_by.ensures

pub returns : goal.returns
returns c =
    let octets = c.args.octets.now in
    none_read octets (read_as octets c.deref.result.now _ (c.deref.ensures.value ∙ c.in_ok-command.ensures) (rw c.in-None.is at c.in_ok-command-2.ensures.only))
