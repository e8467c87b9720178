use Rattle.ts_synod.proofs.laws.a_turn_is_events.Goals as goal
use Rattle.ts_synod.proofs.Turns.{crash_is_events, turn_is_events}

pub returns-clause-turn : goal.returns-clause-turn
returns-clause-turn g c = λ store n w i inputs member. turn_is_events store n i member inputs w

pub returns-clause-crash : goal.returns-clause-crash
returns-clause-crash g c = λ store n w i inputs member. crash_is_events store n i member inputs w
