-- A `check` line is answered as one.
use Rattle.std.proofs.Common.{rules, ◌≡◌, arith}
use Rattle.std.proofs.lemmas.Grind.{common_steps}
use Rattle.ts_script.specs.Known.{known_in}
use Rattle.ts_lab.specs.Says.{kind_of, check_kind}
use Rattle.ts_lab.proofs.Checked.{check_answered}
use Rattle.ts_lab.proofs.answer.answer_line.Goals as goal

pub returns-then-eq-3 : goal.returns-then-eq-3
returns-then-eq-3 c =
    let kind : kind_of c.args.line.now ≡ check_kind = first_of (search rules, grind (arith, common_steps)) in
    check_answered (known_in c.args.known.now) c.args.line.now c.answer_check.result kind c.answer_check.ensures.said c.answer_check.ensures.fault
