use Rattle.std.proofs.Common.{◌≡◌, ◌++◌, map, take}
use Rattle.std.specs.Borrow.{Bor}
use Rattle.ts_store.specs.declared.stored.StoredCrl.{StoredCrl}
use Rattle.ts_listing.specs.Listing.{crl_rows}
use Rattle.ts_listing.proofs.listing.push_crls.Given as goal

abbrev pub invariant-loop-stored : goal.invariant-loop-stored
invariant-loop-stored l = l.rows ≡ l.fn.rows ++ crl_rows (map (λ (c : Bor StoredCrl). c.now) (take l.stored-index l.lists))
