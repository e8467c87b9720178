use Rattle.std.proofs.Common.{◌≡◌, Ok, subst}
use Rattle.std.proofs.lemmas.Result.{IfOk-weaker}
use Rattle.ts_store.specs.Tables.{Tables, change as change_by}
use Rattle.ts_command.specs.declared.command.Command.{Command}
use Rattle.ts_store.proofs.Applied.{drop_taken}
use Rattle.ts_store.proofs.taken.taken_of.Goals as goal

pub returns-in-AddAnchor-clause-done : goal.returns-in-AddAnchor-clause-done
returns-in-AddAnchor-clause-done c =
    IfOk-weaker c.anchor_taken.result _ _
    (λ taken done. λ (new : Tables) e. done c.args.tables.now new
    (subst (λ (d : Command). change_by d c.args.tables.now ≡ Ok new) c.in-AddAnchor.is e))
    c.anchor_taken.ensures.done

pub returns-in-DropCrl-clause-done : goal.returns-in-DropCrl-clause-done
returns-in-DropCrl-clause-done c =
    drop_taken c.other_taken-in-DropCrl.result c.args.command.now c.args.tables.now c.in-DropCrl.id
    c.in-DropCrl.crl c.crl_removal.result c.other_taken-in-DropCrl.ensures c.in-DropCrl.is
    c.crl_removal.ensures
