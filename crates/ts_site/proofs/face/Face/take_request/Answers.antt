-- The request that waits has begun.
use Rattle.std.proofs.Common.{inl, refl, sym}
use Rattle.ts_site.proofs.face.Face.take_request.Goals as goal

pub returns : goal.returns
returns c = inl (
  refl,
  (c.in-Some.request.now, sym c.in-Some.ensures, c.in_ok-next.next, c.in_ok-next.ensures, c.in_ok-follow.ensures.follows),
)
