-- The answer came to something, which follows.
use Rattle.std.proofs.Common.{rules, ◌≡◌, subst, Option, Some, None}
use Rattle.ts_site.specs.Faces.{Follows, state_of}
use Rattle.ts_site.specs.declared.face.Asking.{Asking}
use Rattle.ts_site.proofs.Begun.{on_ok}
use Rattle.ts_site.proofs.face.Face.give.Goals as goal

pub returns-clause-given : goal.returns-clause-given
returns-clause-given c =
    let was : c.args.self.now.asking ≡ Some c.in-Some.asking = search rules in
    let none : c.take.new.self ≡ None = search rules in
    on_ok c.follow.result _ _
    (λ follows. (
      c.in-Some.asking,
      was,
      c.in_ok-next.next,
      c.in_ok-next.ensures,
      subst (λ (o : Option Asking). Follows c.args.now c.in_ok-next.next (c.args.self.now.connection, o) (state_of c.follow.new.self)) none follows,
    )) c.follow.ensures.follows
