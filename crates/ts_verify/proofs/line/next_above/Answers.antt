-- The certificates are looked at one by one.
use Rattle.std.proofs.Common.{◌≡◌, ◌+◌, ◌∙◌, ℕ, Option, map, length, sym, ap, subst, arith}
use Rattle.ts_cert.specs.CertView.{cert_in}
use Rattle.ts_verify.specs.Lines.{has_signed, is_next}
use Rattle.ts_verify.proofs.Named.{certificates_end, signed_by_is, signs}
use Rattle.ts_verify.proofs.Places.{at_place}
use Rattle.ts_verify.proofs.Preferred.{IsSought, note_place, pass_place, prefer_place}
use Rattle.ts_verify.proofs.line.next_above.Goals as goal
use Rattle.ts_verify.proofs.line.next_above.Goals.{then-is_next+else-has_signed, else-is_next}

pub has_signed-requires : goal.has_signed-requires
has_signed-requires g c =
    c.requires.digest (cert_in c.index-certificates-top.result)
    (at_place cert_in c.args.certificates.now c.args.top c.index-certificates-top.result c.requires.top c.index-certificates-top.is)

pub returns-then-has_signed-clause-above : goal.returns-then-has_signed-clause-above
returns-then-has_signed-clause-above g c =
    let good = g.S.SignatureCheck.accepts c.args.check.now in
    let certs = c.args.certificates.now in
    let top = c.args.top in
    let place = c.loop-place.place in
    let cert = c.index-certificates-top.result in
    let signed = signed_by_is good certs top place cert c.index-certificates-place.result c.has_signed.result c.requires.top c.loop-place-test.true
    c.index-certificates-top.is c.index-certificates-place.is
    (c.has_signed.ensures ∙ ap (λ k. has_signed good k (cert_in cert)) c.subject_public_key_info-key.ensures) in
    let next = is_next (map cert_in certs) top c.args.used.now in
    prefer_place next (signs good (map cert_in certs) top) place c.loop-place.named_place
    (sym {b = next place} c.is_next.ensures ∙ c.if-is_next.true) (signed ∙ c.if-has_signed.true) c.loop-place.invariant

pub loop-place-preserved : goal.loop-place-preserved
loop-place-preserved g c =
    let good = g.S.SignatureCheck.accepts c.args.check.now in
    let certs = c.args.certificates.now in
    let top = c.args.top in
    let place = c.loop-place.place in
    let cert = c.index-certificates-top.result in
    let next = is_next (map cert_in certs) top c.args.used.now in
    elim c.if-is_next.branch [
      | then-is_next+else-has_signed w ↦
          let unsigned = signed_by_is good certs top place cert w.index-certificates-place.result w.has_signed.result c.requires.top c.loop-place-test.true
          c.index-certificates-top.is w.index-certificates-place.is
          (w.has_signed.ensures ∙ ap (λ k. has_signed good k (cert_in cert)) w.subject_public_key_info-key.ensures) in
          subst (λ (found : Option ℕ). IsSought next (signs good (map cert_in certs) top) (place + 1) found) (sym (w.named_place-is ∙ w.or-named_place.ensures))
          (note_place next (signs good (map cert_in certs) top) place c.loop-place.named_place
          (sym {b = next place} c.is_next.ensures ∙ w.if-is_next.true) (unsigned ∙ w.if-has_signed.false) c.loop-place.invariant)
      | else-is_next w ↦
          subst (λ (found : Option ℕ). IsSought next (signs good (map cert_in certs) top) (place + 1) found) (sym w.named_place-is)
          (pass_place next (signs good (map cert_in certs) top) place c.loop-place.named_place
          (sym {b = next place} c.is_next.ensures ∙ w.if-is_next.false) c.loop-place.invariant)
    ]

pub returns-clause-above : goal.returns-clause-above
returns-clause-above g c =
    let good = g.S.SignatureCheck.accepts c.args.check.now in
    let certs = c.args.certificates.now in
    let next = is_next (map cert_in certs) c.args.top c.args.used.now in
    let ended : c.loop-place.place ≡ length certs = omega (arith, c.loop-place-test.false, c.loop-place.auto.place-end) in
    certificates_end good certs c.args.top c.args.used.now c.loop-place.named_place
    (subst (λ (n : ℕ). IsSought next (signs good (map cert_in certs) c.args.top) n c.loop-place.named_place) ended c.loop-place.invariant)
