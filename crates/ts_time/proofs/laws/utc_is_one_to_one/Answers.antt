use Rattle.ts_time.proofs.TextLemmas.{IsUtc-one_moment, IsUtc-one_text}
use Rattle.ts_time.proofs.laws.utc_is_one_to_one.Goals as goal

pub returns-clause-one_moment : goal.returns-clause-one_moment
returns-clause-one_moment c = IsUtc-one_moment

pub returns-clause-one_text : goal.returns-clause-one_text
returns-clause-one_text c = IsUtc-one_text
