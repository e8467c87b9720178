-- What is wrong of a hello.
use Rattle.std.proofs.Common.{arith, get_or, refl}
use Rattle.ts_guard.proofs.Fronts.{headed}
use Rattle.ts_guard.proofs.hello.is_whole.Goals as goal

pub returns-then-octets-ne-VERSION-clause-fault : goal.returns-then-octets-ne-VERSION-clause-fault
returns-then-octets-ne-VERSION-clause-fault c =
    let octets = c.args.octets.now in (
      c.in-Some.found,
      get_or octets 4 0,
      get_or octets 5 0,
      headed octets c.in-Some.found (get_or octets 4 0) (get_or octets 5 0) c.in-Some.ensures.range
          (omega arith) c.in-Some.ensures.found refl refl,
      c.if-octets-ne-VERSION.true,
    )

pub returns-then-found-size-clause-fault : goal.returns-then-found-size-clause-fault
returns-then-found-size-clause-fault c =
    let octets = c.args.octets.now in (
      c.in-Some.found,
      get_or octets 5 0,
      headed octets c.in-Some.found 3 (get_or octets 5 0) c.in-Some.ensures.range
          (omega arith) c.in-Some.ensures.found c.if-octets-ne-VERSION.false refl,
      c.if-found-size.true,
    )
