use Rattle.std.proofs.Common.{◌≤◌, take, length, subst, ap, arith}
use Rattle.ts_answer.specs.Held.{TrustStore}
use Rattle.ts_answer.specs.Machine.{IsAnswer}
use Rattle.ts_answer.proofs.Cached.{found_right, kept_right, used}
use Rattle.ts_answer.proofs.answers.Answers.answer.Goals as goal

pub returns-in-Some-find-clause-answer : goal.returns-in-Some-find-clause-answer
returns-in-Some-find-clause-answer g c = λ within.
    let good = g.S.SignatureCheck.accepts in
    subst (λ (h : TrustStore g.row.S.Denot). IsAnswer (good h.check) (take c.args.k h.commands) c.args.question.now c.in-Some-find.answer) c.self.view_is
    (found_right (good c.self.inside.check) c.self.inside.history c.args.k c.args.question.now
    c.in-Some-find.answer c.ranges.k.fits c.in-Some.ensures.fits c.in-Some-find.ensures.found.0
    c.in-Some.key c.in-Some.ensures.key c.self.inside.cache c.self.invariant.0
    c.in-Some-find.ensures.found.1)

pub invariant_of-self : goal.invariant_of-self
invariant_of-self g c = (
  used (g.S.SignatureCheck.accepts c.self.inside.check) c.self.inside.history c.find.new.self
      c.self.inside.cache c.find.ensures.others c.self.invariant.0,
  c.self.invariant.1,
  c.self.invariant.2,
)

pub invariant_of-self-2 : goal.invariant_of-self-2
invariant_of-self-2 g c = (
  used (g.S.SignatureCheck.accepts c.self.inside.check) c.self.inside.history c.find.new.self
      c.self.inside.cache c.find.ensures.others c.self.invariant.0,
  c.self.invariant.1,
  c.self.invariant.2,
)

pub invariant_of-self-in_err-answer : goal.invariant_of-self-in_err-answer
invariant_of-self-in_err-answer g c = (
  used (g.S.SignatureCheck.accepts c.self.inside.check) c.self.inside.history c.find.new.self
      c.self.inside.cache c.find.ensures.others c.self.invariant.0,
  c.self.invariant.1,
  c.self.invariant.2,
)

pub invariant_of-self-3 : goal.invariant_of-self-3
invariant_of-self-3 g c =
    let before = used (g.S.SignatureCheck.accepts c.self.inside.check) c.self.inside.history
    c.find.new.self c.self.inside.cache c.find.ensures.others c.self.invariant.0 in
    let taken : c.args.k ≤ length c.self.inside.history = omega (arith, ap (λ (h : TrustStore g.row.S.Denot). length h.commands) c.self.view_is) in (
      kept_right (g.S.SignatureCheck.accepts c.self.inside.check) c.self.inside.history c.args.k
          c.args.question.now c.in_ok-answer.answer c.ranges.k.fits c.in-Some.ensures.fits
          c.in_ok-answer.ensures.fits c.in-Some.key c.in-Some.ensures.key taken
          c.in_ok-answer.ensures.answer c.keep.new.self c.find.new.self c.keep.ensures before,
      c.self.invariant.1,
      c.self.invariant.2,
    )
