use Rattle.std.proofs.Common.{◌≡◌, map, take}
use Rattle.std.specs.Borrow.{Bor}
use Rattle.ts_crl.specs.ListView.{crl_in}
use Rattle.ts_store.specs.declared.stored.StoredCrl.{StoredCrl}
use Rattle.ts_answer.specs.Asked.{lists_in}
use Rattle.ts_answer.proofs.store.lists_of.Given as goal

abbrev pub invariant-loop-kept : goal.invariant-loop-kept
invariant-loop-kept l = map crl_in l.lists.items ≡ lists_in (map (λ (c : Bor StoredCrl). c.now) (take l.kept-index l.stored))
