use Rattle.ts_store.specs.Tables.{Tables}
use Rattle.ts_store.proofs.Changing.{anchor-added}
use Rattle.ts_store.proofs.tables.Tables.change.Goals as goal

pub returns-in_ok-refusal-in-AddAnchor-clause-done : goal.returns-in_ok-refusal-in-AddAnchor-clause-done
returns-in_ok-refusal-in-AddAnchor-clause-done c =
    let old : Tables = record { anchors = c.self.inside.anchors; complete = c.self.inside.complete; deltas = c.self.inside.deltas } in
    anchor-added c.in_ok-refusal-in-AddAnchor.refusal old c.args.self.now c.add.new.self
    c.in-AddAnchor.id c.in-AddAnchor.certificate c.octets.result.now c.args.command.now
    c.self.view_is c.in-AddAnchor.is
    c.octets.ensures c.in_ok-refusal-in-AddAnchor.ensures.done
