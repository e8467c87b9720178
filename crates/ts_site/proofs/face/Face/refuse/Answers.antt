-- The line is written.
use Rattle.std.proofs.Common.{subst, ℕ, List}
use Rattle.ts_api.specs.Response.{IsLine}
use Rattle.ts_site.proofs.Begun.{on_both}
use Rattle.ts_site.proofs.face.Face.refuse.Goals as goal

pub returns : goal.returns
returns c =
    let line = subst (λ (words : List ℕ). IsLine c.args.status words c.in_ok-response.response) c.words_of.ensures c.in_ok-response.ensures in
    on_both c.respond.result _ _ _
    (λ told timed. (c.in_ok-response.response, line, (told, c.respond.ensures.asks, timed)))
    c.respond.ensures.responds c.respond.ensures.times
