use Rattle.ts_time.proofs.TextLemmas.{IsGeneral-one_moment, IsGeneral-one_text}
use Rattle.ts_time.proofs.laws.general_is_one_to_one.Goals as goal

pub returns-clause-one_moment : goal.returns-clause-one_moment
returns-clause-one_moment c = IsGeneral-one_moment

pub returns-clause-one_text : goal.returns-clause-one_text
returns-clause-one_text c = IsGeneral-one_text
