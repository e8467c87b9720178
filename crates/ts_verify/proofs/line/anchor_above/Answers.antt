-- The anchors are looked at one by one.
use Rattle.std.proofs.Common.{◌≡◌, ◌+◌, ◌∙◌, ℕ, Option, map, length, sym, subst, arith}
use Rattle.ts_cert.specs.CertView.{cert_in}
use Rattle.ts_path.specs.View.{anchor_in}
use Rattle.ts_verify.specs.Lines.{is_anchored}
use Rattle.ts_verify.proofs.Named.{anchored_is, anchors_end, signed_under_is, signs_under}
use Rattle.ts_verify.proofs.Places.{at_place}
use Rattle.ts_verify.proofs.Preferred.{IsSought, note_place, pass_place}
use Rattle.ts_verify.proofs.line.anchor_above.Goals as goal
use Rattle.ts_verify.proofs.line.anchor_above.Goals.{then-is_issued_under+else-has_signed, else-is_issued_under}

pub has_signed-requires : goal.has_signed-requires
has_signed-requires g c =
    c.requires.digest (cert_in c.index-certificates-top.result)
    (at_place cert_in c.args.certificates.now c.args.top c.index-certificates-top.result c.requires.top c.index-certificates-top.is)

pub loop-place-preserved : goal.loop-place-preserved
loop-place-preserved g c =
    let good = g.S.SignatureCheck.accepts c.args.check.now in
    let anchors = c.args.anchors.now in
    let certs = c.args.certificates.now in
    let top = c.args.top in
    let place = c.loop-place.place in
    let named = is_anchored (map anchor_in anchors) (map cert_in certs) top in
    let signed = signs_under good (map anchor_in anchors) (map cert_in certs) top in
    let cert = c.index-certificates-top.result in
    let anchor = c.index-anchors-place.result in
    let named_is = anchored_is anchors certs top place cert anchor c.is_issued_under.result c.requires.top c.loop-place-test.true
    c.index-certificates-top.is c.index-anchors-place.is c.is_issued_under.ensures in
    elim c.if-is_issued_under.branch [
      | then-is_issued_under+else-has_signed w ↦
          let unsigned = signed_under_is good anchors certs top place cert anchor w.has_signed.result c.requires.top c.loop-place-test.true
          c.index-certificates-top.is c.index-anchors-place.is w.has_signed.ensures in
          subst (λ (found : Option ℕ). IsSought named signed (place + 1) found) (sym (w.named_place-is ∙ w.or-named_place.ensures))
          (note_place named signed place c.loop-place.named_place (named_is ∙ w.if-is_issued_under.true) (unsigned ∙ w.if-has_signed.false) c.loop-place.invariant)
      | else-is_issued_under w ↦
          subst (λ (found : Option ℕ). IsSought named signed (place + 1) found) (sym w.named_place-is)
          (pass_place named signed place c.loop-place.named_place (named_is ∙ w.if-is_issued_under.false) c.loop-place.invariant)
    ]

pub returns-clause-above : goal.returns-clause-above
returns-clause-above g c =
    let good = g.S.SignatureCheck.accepts c.args.check.now in
    let anchors = c.args.anchors.now in
    let certs = c.args.certificates.now in
    let named = is_anchored (map anchor_in anchors) (map cert_in certs) c.args.top in
    let signed = signs_under good (map anchor_in anchors) (map cert_in certs) c.args.top in
    let ended : c.loop-place.place ≡ length anchors = omega (arith, c.loop-place-test.false, c.loop-place.auto.place-end) in
    anchors_end good anchors certs c.args.top c.loop-place.named_place
    (subst (λ (n : ℕ). IsSought named signed n c.loop-place.named_place) ended c.loop-place.invariant)
