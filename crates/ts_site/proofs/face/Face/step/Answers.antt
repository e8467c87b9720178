-- Something was read, and what came of it was answered or asked.
use Rattle.std.proofs.Common.{arith, inl, inr, refl, subst, sym, [], ◌∷◌}
use Rattle.ts_http.specs.Reading.{Tells}
use Rattle.ts_http.specs.declared.reading.Progress.{Progress}
use Rattle.ts_site.specs.Faces.{State, TakesOne, state_of}
use Rattle.ts_site.proofs.Steps.{after_read, goes, refused}
use Rattle.ts_site.proofs.face.Face.step.Goals as goal

pub returns-in-Goes : goal.returns-in-Goes
returns-in-Goes c =
    let a = c.args.self.now.connection in
    let told = subst (λ (p : Progress). Tells a.stage a c.read.new.self p) c.in-Goes.is c.in_ok-read.ensures.told in (
      state_of c.args.self.now ∷ [],
      (refl, (c.requires, inl (c.in_ok-read.ensures.read, c.requires, c.in_ok-read.ensures.times))),
      omega arith,
      omega arith,
      (inl told.1, goes a.stage a c.read.new.self told),
    )

pub returns-in-Waits : goal.returns-in-Waits
returns-in-Waits c =
    let a = c.args.self.now.connection in
    let waits = subst (λ (p : Progress). Tells a.stage a c.read.new.self p) c.in-Waits.is c.in_ok-read.ensures.told in
    (state_of c.args.self.now ∷ [], (refl, (c.requires, inl (c.in_ok-read.ensures.read, c.requires, c.in_ok-read.ensures.times))), omega arith, omega arith, inl waits)

pub returns-in_ok-refuse-in-Some : goal.returns-in_ok-refuse-in-Some
returns-in_ok-refuse-in-Some c =
    let s = state_of c.args.self.now in
    let mid : State = (c.read.new.self, c.args.self.now.asking) in
    let told = c.in_ok-refuse-in-Some.ensures in
    let one : TakesOne c.args.scene.now c.args.now s mid = (c.requires, inl (c.in_ok-read.ensures.read, c.requires, c.in_ok-read.ensures.times)) in (
      mid ∷ s ∷ [],
      ((refl, one), (c.requires, inr (inl (c.in-Some.status, sym c.in-Some.ensures, told.0, told.1, told.2)))),
      omega arith,
      omega arith,
      inr (refused mid.0 _ c.in-Some.status told.0 (sym c.in-Some.ensures) told.2.0),
    )

pub returns-in-None : goal.returns-in-None
returns-in-None c =
    let s = state_of c.args.self.now in
    let a = c.args.self.now.connection in
    let mid : State = (c.read.new.self, c.args.self.now.asking) in
    let due = subst (λ (p : Progress). Tells a.stage a c.read.new.self p) c.in-Stops.is c.in_ok-read.ensures.told in
    after_read c.take_request.result c.args.scene.now c.args.now s mid
    (state_of c.take_request.new.self) c.requires c.in_ok-read.ensures.read c.requires
    c.in_ok-read.ensures.times due (sym c.in-None.ensures) c.take_request.ensures
