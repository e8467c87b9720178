use Rattle.std.proofs.Common.{ℕ, Bool, ap, ◌∙◌, map, arith}
use Rattle.ts_cert.specs.CertView.{cert_in}
use Rattle.ts_search.specs.Candidates.{issues}
use Rattle.ts_search.proofs.Rows.{test_is, one_more_issuer, no_issuer}
use Rattle.ts_search.proofs.issuers.issuers_of.Goals as goal
use Rattle.ts_search.proofs.issuers.issuers_of.Goals.{then-issues+in_ok-push, else-issues}

pub loop-i-preserved : goal.loop-i-preserved
loop-i-preserved c =
    let certificates = c.args.certificates.now in
    let p : ℕ → Bool = λ k. issues (map cert_in certificates) k c.args.place in
    let test = test_is certificates c.loop-i.i c.args.place c.index-certificates-i.result
    c.index-certificates-place.result c.issues.result (omega (arith, c.loop-i-test.true))
    c.requires.within c.index-certificates-i.is c.index-certificates-place.is
    c.issues.ensures in
    elim c.if-issues.branch [
      | then-issues+in_ok-push w ↦
          one_more_issuer p c.loop-i.i c.loop-i.row.items c.if-issues.row.items c.loop-i.invariant
          (test ∙ w.if-issues.true) (ap (λ r. r.items) w.row-is ∙ w.in_ok-push.ensures.items)
      | else-issues w ↦ no_issuer p c.loop-i.i c.if-issues.row.items (ap (λ r. r.items) w.row-is ∙ c.loop-i.invariant) (test ∙ w.if-issues.false)
    ]
