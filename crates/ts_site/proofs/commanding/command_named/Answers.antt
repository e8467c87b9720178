-- The pairs name a command, or none.
use Rattle.std.proofs.Common.{rules, ◌≡◌, map}
use Rattle.ts_form.specs.Pairs.{pair_in}
use Rattle.ts_api.specs.Asking.{pairs_in}
use Rattle.ts_site.proofs.Wanting.{is_named}
use Rattle.ts_site.proofs.commanding.command_named.Goals as goal

pub returns-in-Ok : goal.returns-in-Ok
returns-in-Ok c =
    let told : map pair_in c.deref.result.now ≡ pairs_in c.args.target.now = search rules in
    is_named c.command_id_of.result c.args.target.now (rw told at c.command_id_of.ensures)
