use Rattle.ts_guard.proofs.Texts.{front_of_sealed}
use Rattle.ts_guard.proofs.laws.front_of_what_was_sealed.Goals as goal

pub returns : goal.returns
returns c seals session direction contents sent seal_fits fits few unforged as_sent =
    front_of_sealed seals session direction contents sent seal_fits fits few unforged as_sent
