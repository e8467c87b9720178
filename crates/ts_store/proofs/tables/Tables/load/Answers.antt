use Rattle.ts_crl.specs.ListView.{crl_in}
use Rattle.ts_crl.specs.Table.{crl_fault}
use Rattle.ts_store.specs.Tables.{Tables}
use Rattle.std.proofs.Common.{sym, ap, ◌∙◌}
use Rattle.sha2.specs.Sha256.{sha256}
use Rattle.ts_store.proofs.Changing.{crl-is, delta-loaded, complete-loaded}
use Rattle.ts_store.proofs.tables.Tables.load.Goals as goal

pub returns-in_ok-refusal-clause-done : goal.returns-in_ok-refusal-clause-done
returns-in_ok-refusal-clause-done c =
    let old : Tables = record { anchors = c.self.inside.anchors; complete = c.self.inside.complete; deltas = c.self.inside.deltas } in
    delta-loaded c.in_ok-refusal.refusal old c.args.self.now c.put.new.self c.args.octets.now c.in-Ok.crl c.digest.result (crl_in c.view.result) c.self.view_is
    (crl-is c.args.octets.now c.in-Ok.crl (crl_fault c.args.octets.now) c.in-Ok.ensures.kept c.in-Ok.ensures.refused) (c.digest.ensures ∙ ap sha256 c.as_slice.ensures) c.view.ensures.exact
    (sym c.is_delta-is_delta.ensures ∙ c.if-is_delta.true) c.in_ok-refusal.ensures.done

pub returns-in_ok-refusal-2-clause-done : goal.returns-in_ok-refusal-2-clause-done
returns-in_ok-refusal-2-clause-done c =
    let old : Tables = record { anchors = c.self.inside.anchors; complete = c.self.inside.complete; deltas = c.self.inside.deltas } in
    complete-loaded c.in_ok-refusal-2.refusal old c.args.self.now c.put-else-is_delta.new.self c.args.octets.now c.in-Ok.crl c.digest.result (crl_in c.view.result) c.self.view_is
    (crl-is c.args.octets.now c.in-Ok.crl (crl_fault c.args.octets.now) c.in-Ok.ensures.kept c.in-Ok.ensures.refused) (c.digest.ensures ∙ ap sha256 c.as_slice.ensures) c.view.ensures.exact
    (sym c.is_delta-is_delta.ensures ∙ c.if-is_delta.false) c.in_ok-refusal-2.ensures.done
