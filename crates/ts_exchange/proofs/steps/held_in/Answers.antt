-- One more row, or no more.
use Rattle.std.proofs.Common.{rules, ◌≡◌, ℕ, List, true, inr, subst, sym}
use Rattle.ts_sync.specs.Plan.{kept_in}
use Rattle.ts_exchange.specs.Held.{HasOther, HoldsAll, HoldsMore, IsNeither}
use Rattle.ts_exchange.proofs.Held.{first_case, next_row}
use Rattle.ts_exchange.proofs.steps.held_in.Goals as goal

pub loop-octets-preserved : goal.loop-octets-preserved
loop-octets-preserved c =
    let x = c.octets-item.result in
    let old = kept_in c.loop-octets.held in
    let new = kept_in c.hold.new.held in
    let next = next_row c.args.rows.now c.loop-octets.octets-index x c.loop-octets-test.true c.octets-item.is in
    let set : c.in_ok-hold.field-0 ≡ true = search rules in
    let read : HoldsMore c.deref.result.now old new = first_case c.in_ok-hold.field-0 _ _ set c.in_ok-hold.ensures in
    let more : HoldsMore x.items old new = subst (λ (octets : List ℕ). HoldsMore octets old new) c.deref.ensures.value read in
    let inv = c.loop-octets.invariant in (
      λ held rest. inv.0 held (subst (λ (rows : List (List ℕ)). HoldsAll rows old held) (sym next) (new, more, rest)),
      λ other. inv.1 (subst HasOther (sym next) (inr other)),
    )
