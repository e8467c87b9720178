use Rattle.std.proofs.Common.{refl}
use Rattle.ts_time.specs.Reading.{generalized_time_in}
use Rattle.ts_time.specs.Text.{IsGeneral}
use Rattle.ts_time.proofs.ReadingLemmas.{same_answer, general_in-found, general_in-only}
use Rattle.ts_time.proofs.TextLemmas.{ok_or-only}
use Rattle.ts_time.proofs.general.read_general.Goals as goal

pub returns-clause-only : goal.returns-clause-only
returns-clause-only c = λ m h. rw (c.ok_or.ensures.value, c.find_general.ensures.only m h) refl

pub returns-clause-fault : goal.returns-clause-fault
returns-clause-fault c =
    rw c.ok_or.ensures.value (ok_or-only c.find_general.result _ (IsGeneral c.args.content.now) c.find_general.ensures.only)

pub returns-clause-exact : goal.returns-clause-exact
returns-clause-exact c =
    let content = c.args.content.now in
    let same = same_answer c.find_general.result (generalized_time_in content)
    (IsGeneral content) c.find_general.ensures.found c.find_general.ensures.only
    (general_in-found content) (general_in-only content) in
    rw (c.ok_or.ensures.value, same) refl
