-- The conditions one after the other.
use Rattle.ts_path.specs.inside.Context.{asked_by}
use Rattle.ts_path.proofs.state.State.first_before_policies.Goals as goal

pub returns : goal.returns
returns g c = λ above.
    c.first_of_names.ensures (asked_by g.S.SignatureCheck.accepts c.args.context.now) above
    (c.in_default-first_of_status.ensures above (c.in_default.ensures above))
