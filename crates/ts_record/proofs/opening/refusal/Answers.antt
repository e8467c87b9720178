use Rattle.std.proofs.Common.{◌∙◌, sym}
use Rattle.ts_record.proofs.Opened.{not_live}
use Rattle.ts_record.proofs.opening.refusal.Goals as goal
use Rattle.ts_record.proofs.opening.refusal.Goals.{in-Right, in_default}

pub returns-then-not-matches : goal.returns-then-not-matches
returns-then-not-matches c = elim c.match-matches.branch [
  | in-Right w ↦ absurd (cc (sym w.matches-is ∙ c.if-not-matches.true))
  | in_default w ↦ (c.requires, (c.begins_old.ensures.old c.if-begins_old.true, not_live c.look_at-second.result c.args.b.now c.look_at-second.ensures w.in_default.not-Right))
]
