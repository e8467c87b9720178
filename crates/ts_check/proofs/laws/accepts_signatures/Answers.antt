use Rattle.ts_check.proofs.Natives.{native-found, native-again}
use Rattle.ts_check.proofs.laws.accepts_signatures.Goals as goal

pub returns : goal.returns
returns c = λ identifier key signed signature o o2.
    ((λ t. native-found identifier key signed signature o o2 t), (λ s. native-again identifier key signed signature o2 s))
