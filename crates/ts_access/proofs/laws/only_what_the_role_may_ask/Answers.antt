use Rattle.ts_access.proofs.Entries.{at_vouched}
use Rattle.ts_access.proofs.Runs.{from_nothing}
use Rattle.ts_access.proofs.laws.only_what_the_role_may_ask.Goals as goal

pub returns-clause-stands : goal.returns-clause-stands
returns-clause-stands c keys calls a b begins made = from_nothing keys calls a b begins made

pub returns-clause-vouched : goal.returns-clause-vouched
returns-clause-vouched c keys entrance came handed at =
    at_vouched keys entrance.node entrance.challenge entrance.stage came handed at
