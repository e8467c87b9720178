use Rattle.std.proofs.Common.{◌≡◌, [], None, drop}
use Rattle.std.specs.Prelude.{map, unwrap_or, option_map}
use Rattle.ts_ext.specs.NamedBits.{no_reasons}
use Rattle.ts_ext.specs.NameViews.{points_in}
use Rattle.ts_crl.specs.ListView.{crl_in}
use Rattle.ts_revoke.specs.inside.ByList.{found_after, reasons_after}
use Rattle.ts_revoke.specs.inside.Looked.{AreLooked}
use Rattle.ts_revoke.specs.View.{question_in}
use Rattle.ts_revoke.proofs.own_pass.seen_among.Given as goal

abbrev pub invariant-loop-place : goal.invariant-loop-place
invariant-loop-place g l =
    let q = question_in l.fn.q (g.S.SignatureCheck.accepts l.fn.check) in
    let points = unwrap_or (option_map points_in l.fn.points) [] in
    (found_after q points l.found (map crl_in (drop l.place l.fn.q.crls.now.lists.now)) ≡ found_after q points None q.lists)
    × (reasons_after q points l.reasons (map crl_in (drop l.place l.fn.q.crls.now.lists.now)) ≡ reasons_after q points no_reasons q.lists)
    × AreLooked q l.fn.q.crls.now.lists.now l.table
