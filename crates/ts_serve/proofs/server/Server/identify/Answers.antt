-- Which node it is was said.
use Rattle.std.proofs.Common.{refl, ◌∷◌, []}
use Rattle.ts_wire.specs.declared.frame.Frame.TheVariants.{Identity}
use Rattle.ts_serve.proofs.Saying.{said}
use Rattle.ts_serve.proofs.server.Server.identify.Goals as goal

pub returns : goal.returns
returns g c = record {
  said = said _ _ _ (Identity _ _ _ ∷ []) c.send.result _
      (record {
        said = λ i. Identity (c.identity-identity.ensures.node i) (c.identity-identity.ensures.nodes i) (c.identity-identity.ensures.group i) ∷ [];
        same = refl;
      }) c.send.ensures.sent c.send.ensures.front c.send.ensures.fault;
}
