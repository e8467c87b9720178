use Rattle.std.proofs.Common.{◌∙◌, ◌≤◌, length, sym, subst, take, arith}
use Rattle.ts_synod.specs.Log.{prefix}
use Rattle.ts_log.specs.Log.{learned_of}
use Rattle.ts_node.proofs.Questions.{IsAt, answered}
use Rattle.ts_node.proofs.roles.Roles.answer.Goals as goal
use Rattle.ts_node.proofs.roles.Roles.answer.Goals.{in-None, in-Some}

pub returns-clause-reply : goal.returns-clause-reply
returns-clause-reply g c =
    let m = g.M.Machine in
    let cs = prefix (learned_of c.args.self.now.log) in
    let k = c.match-k.at in
    let is_answer = m.is_answer (m.basis c.args.machine.now) in
    let here : IsAt c.args.k (length cs) k =
    elim c.match-k.branch [
      | in-Some w ↦ subst (λ o. IsAt o (length cs) k) (sym w.in-Some.is) w.at-is
      | in-None w ↦ subst (λ o. IsAt o (length cs) k) (sym w.in-None.is)
          (w.at-is ∙ c.prefix-prefix.ensures)
    ] in
    let le : k ≤ length cs = omega (arith, c.prefix-prefix.ensures) in
    answered g.row.M-Question.Denot m.client_id m.outcome is_answer cs c.args.k k
    c.args.question.now c.in_ok-answer.answer here le
    (subst (λ xs. is_answer (take k xs) c.args.question.now c.in_ok-answer.answer)
    c.in_ok-feed.ensures.whole
    (subst (λ b. m.is_answer b (take k (m.commands c.feed.new.machine)) c.args.question.now
    c.in_ok-answer.answer) c.feed.ensures.basis c.in_ok-answer.ensures.answer))
