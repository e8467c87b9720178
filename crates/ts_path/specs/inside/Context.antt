-- What a context asks.
use Rattle.ts_revoke.specs.Question.{Check}
use Rattle.ts_path.specs.declared.context.Context.{Context}
use Rattle.ts_path.specs.Asked.{ValidationInputs}
use Rattle.ts_path.specs.View.{asked_in}

abbrev pub asked_by : {S : Type 0} → (S → Check) → Context S → ValidationInputs
asked_by accepts x = asked_in x.anchor.now x.inputs.now x.crls.now (accepts x.check.now)
