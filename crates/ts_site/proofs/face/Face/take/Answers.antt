-- One more step, behind the others; and why there is no other.
use Rattle.std.proofs.Common.{rules, arith, ◌≡◌, inl, inr, subst, Bool, true, false, None, ◌++◌}
use Rattle.ts_site.specs.Faces.{state_of}
use Rattle.ts_site.specs.inside.Stepping.{Leads}
use Rattle.ts_site.proofs.Steps.{counted, finished, idle_behind, joined}
use Rattle.ts_site.proofs.face.Face.take.Goals as goal

pub returns-in-Some : goal.returns-in-Some
returns-in-Some c =
    let before = c.loop-step.invariant in
    (before.0, before.1, inl (c.in-Some.field-0, c.in-Some.is))

pub returns-then-not-branch : goal.returns-then-not-branch
returns-then-not-branch c =
    let s = state_of c.loop-step.self in
    let t = state_of c.step.new.self in
    let before = c.loop-step.invariant in
    let step = c.in_ok-step.ensures in
    let last : c.in_ok-step.field-0 ≡ false = search rules in (
      step.0 ++ before.0,
      joined c.args.scene.now c.args.now (state_of c.args.self.now) before.0 s step.0 t before.1 step.1,
      inr (inr (inl (idle_behind before.0 step.0 t step.2 (subst (λ (more : Bool). Leads more step.0 s t) last step.4)))),
    )

pub loop-step-preserved : goal.loop-step-preserved
loop-step-preserved c =
    let s = state_of c.loop-step.self in
    let t = state_of c.step.new.self in
    let before = c.loop-step.invariant in
    let step = c.in_ok-step.ensures in
    let more : c.in_ok-step.field-0 ≡ true = search rules in
    let none : s.1 ≡ None = search rules in
    let leads = subst (λ (more : Bool). Leads more step.0 s t) more step.4 in (
      step.0 ++ before.0,
      joined c.args.scene.now c.args.now (state_of c.args.self.now) before.0 s step.0 t before.1 step.1,
      counted c.loop-step._step s before.0 step.0 before.2 before.3 none leads.1 step.3,
      inr leads.0,
    )

pub returns : goal.returns
returns c =
    let before = c.loop-step.invariant in (
      before.0,
      before.1,
      finished c.loop-step._step before.0 (state_of c.loop-step.self) c.loop-step.self.paused
          (omega (arith, c.loop-step-test.false)) before.2 before.3,
    )
