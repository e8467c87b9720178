-- Where enough octets are ready, no frame is made ready.
use Rattle.std.proofs.Common.{rules, ◌≡◌, ◌≤◌, ℕ, List, [], ◌∷◌, length}
use Rattle.std.specs.Global.{Vec}
use Rattle.ts_carrier.specs.Mailbox.{fill}

pub enough_ready : (ready : List ℕ) (frames : List (Vec ℕ)) → 16384 ≤ length ready → fill ready frames ≡ (ready, frames)
enough_ready ready [] enough = search rules
enough_ready ready (frame ∷ frames) enough = search rules
