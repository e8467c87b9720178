use Rattle.std.proofs.Common.{get_or, subst, sym}
use Rattle.ts_crl.specs.ListView.{crl_in}
use Rattle.ts_revoke.specs.declared.looked.Looked.TheVariants.{NotYet}
use Rattle.ts_revoke.specs.inside.Looked.{IsLooked}
use Rattle.ts_revoke.specs.View.{question_in}
use Rattle.ts_revoke.proofs.issuer_pass.issuer_pass.Goals as goal

pub said_by-revoked-requires : goal.said_by-revoked-requires
said_by-revoked-requires g c =
    let q = question_in c.args.q.now (g.S.SignatureCheck.accepts c.args.check.now) in
    let crl = c.crl-item.result in
    let place = c.loop-place.place in
    let entry = get_or c.args.table.now place NotYet in
    let known = subst (λ l. IsLooked q (crl_in l) entry) (sym c.crl-item.is) (c.requires.looked place crl c.loop-place-test.true) in
    record { known = subst (IsLooked q (crl_in crl)) (sym c.looked_at-looked.ensures) known }
