use Rattle.std.proofs.Common.{refl}
use Rattle.ts_time.specs.Reading.{utc_in}
use Rattle.ts_time.specs.Text.{IsUtc}
use Rattle.ts_time.proofs.ReadingLemmas.{same_answer, utc_in-found, utc_in-only}
use Rattle.ts_time.proofs.TextLemmas.{ok_or-only}
use Rattle.ts_time.proofs.utc.read_utc.Goals as goal

pub returns-clause-only : goal.returns-clause-only
returns-clause-only c = λ m h. rw (c.ok_or.ensures.value, c.find_utc.ensures.only m h) refl

pub returns-clause-fault : goal.returns-clause-fault
returns-clause-fault c =
    rw c.ok_or.ensures.value (ok_or-only c.find_utc.result _ (IsUtc c.args.content.now) c.find_utc.ensures.only)

pub returns-clause-exact : goal.returns-clause-exact
returns-clause-exact c =
    let content = c.args.content.now in
    let same = same_answer c.find_utc.result (utc_in content) (IsUtc content) c.find_utc.ensures.found c.find_utc.ensures.only (utc_in-found content) (utc_in-only content) in
    rw (c.ok_or.ensures.value, same) refl
