use Rattle.std.proofs.Common.{◌∙◌, ◌<◌, ◌++◌, ◌∷◌, [], ap, length, arith}
use Rattle.ts_answer.specs.Held.{TrustStore}
use Rattle.ts_answer.proofs.Cached.{pushed}
use Rattle.ts_answer.proofs.Entries.{one_more}
use Rattle.ts_answer.proofs.Pages.{taken_more}
use Rattle.ts_answer.proofs.answers.Answers.push.Goals as goal

pub invariant_of-self-2 : goal.invariant_of-self-2
invariant_of-self-2 g c =
    let inside = c.self.inside in
    let few : length inside.history < 1000000 = omega (arith, c.requires, ap (λ (h : TrustStore g.row.S.Denot). length h.commands) c.self.view_is) in
    let good = g.S.SignatureCheck.accepts inside.check in
    let entries = c.in-Ok.ensures.items ∙ ap (λ l. l ++ c.of.result ∷ []) c.reserve.ensures.items in (
      pushed good c.push.result inside.history c.push.new.self c.args.command.now
          inside.cache c.push.ensures.pushed c.push.ensures.refused c.self.invariant.0,
      one_more
          inside.history c.push.new.self c.args.command.now inside.log.items c.push-2.new.self.items
          c.of.result c.in_ok-outcome.outcome c.self.invariant.1 c.in_ok-outcome.ensures.pushed entries
          c.in_ok-outcome.ensures.outcome c.of.ensures,
      taken_more c.push.result inside.history
          c.push.new.self c.args.command.now c.push.ensures.pushed c.push.ensures.refused few
          c.has_encoding.ensures c.self.invariant.2,
    )
