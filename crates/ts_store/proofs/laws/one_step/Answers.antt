use Rattle.ts_store.proofs.Steps.{unchanged, taken, held, kept, joined}
use Rattle.ts_store.proofs.laws.one_step.Goals as goal

pub returns-clause-unchanged : goal.returns-clause-unchanged
returns-clause-unchanged c = unchanged

pub returns-clause-taken : goal.returns-clause-taken
returns-clause-taken c = taken

pub returns-clause-joined : goal.returns-clause-joined
returns-clause-joined c = joined

pub returns-clause-held : goal.returns-clause-held
returns-clause-held c = held

pub returns-clause-kept : goal.returns-clause-kept
returns-clause-kept c = kept
