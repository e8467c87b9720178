-- The law of all connections.
use Rattle.ts_links.specs.Account.{account_after, nothing}
use Rattle.ts_links.proofs.Fairness.{fair_changes, fair_start}
use Rattle.ts_links.proofs.Splitting.{split_front}
use Rattle.ts_links.proofs.laws.each_is_answered.Goals as goal

pub returns-clause-fair : goal.returns-clause-fair
returns-clause-fair c links others events unused changes slot = fair_changes slot events nothing links others (fair_start links unused slot) changes

pub returns-clause-exact : goal.returns-clause-exact
returns-clause-exact c links others events unused changes slot link is frames fault splits =
    split_front (account_after slot nothing events) link frames fault (fair_changes slot events nothing links others (fair_start links unused slot) changes link is) splits
