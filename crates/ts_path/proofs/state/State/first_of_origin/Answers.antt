-- The conditions on the anchor, the signature and the time.
use Rattle.std.proofs.Common.{refl, sym, ◌∙◌}
use Rattle.std.proofs.lemmas.Bool.{false≢true}
use Rattle.ts_path.specs.Conditions.{Meets}
use Rattle.ts_reason.specs.Conditions.{anchor_purpose, signature, too_early, expired}
use Rattle.ts_path.proofs.Steps.{begin, next}
use Rattle.ts_path.proofs.state.State.first_of_origin.Goals as goal

pub returns-then-not-is_trusted : goal.returns-then-not-is_trusted
unfolding Meets
returns-then-not-is_trusted g c = λ above. record { fails = λ is. false≢true (c.if-not-is_trusted.ensures ∙ is); first = begin _; details = tt }

pub returns-then-not-is_signed : goal.returns-then-not-is_signed
unfolding Meets
returns-then-not-is_signed g c = λ above. record {
  fails = λ is. false≢true (c.if-not-is_signed.ensures ∙ is);
  first = next _ anchor_purpose (begin _) (sym c.if-not-is_trusted.ensures);
  details = tt;
}

pub returns-then-not-has_begun : goal.returns-then-not-has_begun
unfolding Meets
returns-then-not-has_begun g c = λ above. record {
  fails = λ is. false≢true (c.if-not-has_begun.ensures.1 is);
  first = next _ signature (next _ anchor_purpose (begin _) (sym c.if-not-is_trusted.ensures)) (sym c.if-not-is_signed.ensures);
  details = tt;
}

pub returns-then-not-has_not_ended : goal.returns-then-not-has_not_ended
unfolding Meets
returns-then-not-has_not_ended g c = λ above. record {
  fails = λ is. false≢true (c.if-not-has_not_ended.ensures.1 is);
  first =
      next _ too_early (next _ signature (next _ anchor_purpose (begin _) (sym c.if-not-is_trusted.ensures)) (sym c.if-not-is_signed.ensures))
      (c.if-not-has_begun.ensures.0 refl);
  details = tt;
}

pub returns : goal.returns
unfolding Meets
returns g c = λ above.
    next _ expired
    (next _ too_early (next _ signature (next _ anchor_purpose (begin _) (sym c.if-not-is_trusted.ensures)) (sym c.if-not-is_signed.ensures))
    (c.if-not-has_begun.ensures.0 refl))
    (c.if-not-has_not_ended.ensures.0 refl)
