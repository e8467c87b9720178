use Rattle.std.proofs.Common.{◌≡◌, drop}
use Rattle.std.specs.Prelude.{map}
use Rattle.ts_crl.specs.ListView.{crl_in}
use Rattle.ts_revoke.specs.inside.ByList.{status_after}
use Rattle.ts_revoke.specs.Usable.{issuer_point}
use Rattle.ts_revoke.specs.View.{question_in}
use Rattle.ts_revoke.proofs.issuer_pass.issuer_pass.Given as goal

abbrev pub invariant-loop-place : goal.invariant-loop-place
invariant-loop-place g l =
    let q = question_in l.fn.q (g.S.SignatureCheck.accepts l.fn.check) in
    let p = issuer_point q.certificate in
    status_after q p l.fn.covered l.reasons (map crl_in (drop l.place l.fn.q.crls.now.lists.now)) ≡ status_after q p l.fn.covered l.fn.covered q.lists
