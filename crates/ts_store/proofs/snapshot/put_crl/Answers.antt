use Rattle.std.proofs.Common.{◌∙◌, ap, map, sym}
use Rattle.std.specs.Borrow.{Bor}
use Rattle.ts_store.specs.declared.stored.StoredCrl.{StoredCrl}
use Rattle.ts_store.specs.inside.Taken.{with_crl_at}
use Rattle.ts_store.proofs.Borrowed.{replaced}
use Rattle.ts_store.proofs.snapshot.put_crl.Goals as goal

pub returns-then-at-len : goal.returns-then-at-len
returns-then-at-len c =
    replaced (λ (x : Bor StoredCrl). x.now) c.args.lists.now.items c.args.at _
    ∙ ap (λ k. with_crl_at k c.args.at (map (λ (x : Bor StoredCrl). x.now) c.args.lists.now.items)) (sym c.in-Crl.is)
