use Rattle.ts_guard.specs.declared.session.Direction.TheVariants.{FromClient}
use Rattle.ts_access.specs.Entered.{session_of}
use Rattle.ts_access.proofs.Runs.{from_holder}
use Rattle.ts_access.proofs.laws.from_the_holder_of_a_key.Goals as goal

pub returns : goal.returns
returns c keys node challenge came handed v seals sent are fits few unforged as_sent =
    let front = c.front_of_what_was_sealed.ensures seals (session_of challenge v.greeting)
    FromClient v.contents sent are fits few unforged as_sent in
    from_holder keys node challenge came handed v sent front.0 front.1
