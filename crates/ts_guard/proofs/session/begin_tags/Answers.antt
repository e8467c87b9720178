-- The pieces come one after another.
use Rattle.std.proofs.Common.{List, ℕ, subst}
use Rattle.std.specs.Prelude.{codes}
use Rattle.ts_hmac.specs.Holding.{Holds}
use Rattle.ts_guard.proofs.Contexts.{same_pieces}
use Rattle.ts_guard.proofs.session.begin_tags.Goals as goal

pub returns : goal.returns
returns c =
    let session = c.args.session.now in
    let pieces =
    same_pieces (codes "lehoratu 3") c.to_be_bytes.result _ session.challenge session.nonce
    c.octet.result _ c.to_be_bytes.ensures c.octet.ensures in
    subst (λ (l : List ℕ). Holds c.update-5.new.self c.args.key.now l) pieces
    (c.update-5.ensures _ _ (c.update-4.ensures _ _
    (c.update-3.ensures _ _ (c.update-2.ensures _ _
    (c.update.ensures _ _ c.new-hmac.ensures)))))
