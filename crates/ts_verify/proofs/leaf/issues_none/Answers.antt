use Rattle.std.proofs.Common.{◌≡◌, ◌≢◌, ℕ, ◌<◌, false, map, length, arith, sym, ◌∙◌, below_more, refl}
use Rattle.std.proofs.lemmas.Bool.{false≢true}
use Rattle.std.proofs.lemmas.List.{length-map}
use Rattle.ts_cert.specs.CertView.{cert_in}
use Rattle.ts_search.specs.Candidates.{issues}
use Rattle.ts_search.proofs.Rows.{test_is}
use Rattle.ts_verify.proofs.leaf.issues_none.Goals as goal
use Rattle.ts_verify.proofs.leaf.issues_none.Goals.{else-other-place-via-then-other-place+else-issues, else-other-place-via-else-other-place}

pub returns-then-issues : goal.returns-then-issues
returns-then-issues c =
    let certs = c.args.certificates.now in
    let test = test_is certs c.args.place c.loop-other.other c.index-certificates-place.result
    c.index-certificates-other.result c.issues.result c.requires c.loop-other-test.true
    c.index-certificates-place.is c.index-certificates-other.is c.issues.ensures in
    let within : c.loop-other.other < length (map cert_in certs) =
    omega (arith, length-map certs cert_in, c.loop-other-test.true) in (
      λ f. absurd (false≢true f),
      λ none. sym (none c.loop-other.other within c.if-other-place.true) ∙ (test ∙ c.if-issues.true),
    )

pub loop-other-preserved : goal.loop-other-preserved
loop-other-preserved c =
    let certs = c.args.certificates.now in
    let P : ℕ → Type 0 = λ j. j ≢ c.args.place → issues (map cert_in certs) c.args.place j ≡ false in
    elim c.else-other-place.branch [
      | else-other-place-via-then-other-place+else-issues w ↦
          let test = test_is certs c.args.place c.loop-other.other w.index-certificates-place.result
          w.index-certificates-other.result w.issues.result c.requires c.loop-other-test.true
          w.index-certificates-place.is w.index-certificates-other.is w.issues.ensures in
          below_more P c.loop-other.other c.loop-other.invariant (λ ne. test ∙ w.if-issues.false)
      | else-other-place-via-else-other-place w ↦
          below_more P c.loop-other.other c.loop-other.invariant
          (λ ne. absurd (ne w.if-other-place.false))
    ]

pub returns : goal.returns
returns c =
    let certs = c.args.certificates.now in (
      λ t j l ne. c.loop-other.invariant j
          (omega (arith, length-map certs cert_in, l, c.loop-other-test.false)) ne,
      λ none. refl,
    )
