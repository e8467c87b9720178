use Rattle.std.proofs.Common.{◌∙◌, ap, map}
use Rattle.ts_store.proofs.Borrowed.{removed}
use Rattle.ts_store.proofs.snapshot.remove_crl.Goals as goal

pub returns-then-at-len : goal.returns-then-at-len
returns-then-at-len c = ap (map (λ x. x.now)) c.remove-list.ensures.items ∙ removed (λ x. x.now) c.args.lists.now.items c.args.at
