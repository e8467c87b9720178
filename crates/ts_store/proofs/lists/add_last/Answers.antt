use Rattle.std.proofs.Common.{arith, length}
use Rattle.std.proofs.lemmas.Bool.{le-leb, lt-leb}
use Rattle.ts_store.proofs.Slots.{is-full, is-last}
use Rattle.ts_store.proofs.lists.add_last.Goals as goal

pub returns-then-len-ge-MAX_CRLS-clause-done : goal.returns-then-len-ge-MAX_CRLS-clause-done
returns-then-len-ge-MAX_CRLS-clause-done c =
    is-full c.args.new c.args.lists.now.items c.requires (le-leb 1024 (length c.args.lists.now.items) (omega (arith, c.if-len-ge-MAX_CRLS.true, c.len.ensures)))

pub returns-clause-done : goal.returns-clause-done
returns-clause-done c =
    is-last c.args.new c.args.lists.now.items c.push.new.self.items c.requires
    (lt-leb 1024 (length c.args.lists.now.items)
    (omega (arith, c.if-len-ge-MAX_CRLS.false, c.len.ensures))) c.in_ok-push.ensures.items
