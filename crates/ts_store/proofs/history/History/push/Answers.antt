use Rattle.std.proofs.Common.{◌≡◌, ◌∙◌, ◌+◌, ◌++◌, ◌∷◌, [], ap, sym, subst, length, arith, Ok}
use Rattle.ts_store.specs.Tables.{Tables, change}
use Rattle.ts_store.specs.Contents.{contents_of}
use Rattle.ts_store.specs.inside.History.{IsHistory}
use Rattle.ts_store.specs.Outcome.{outcome_after}
use Rattle.ts_store.specs.inside.Taken.{apply_change}
use Rattle.ts_store.proofs.Replays.{came_to, commands_count, goes_on}
use Rattle.ts_store.proofs.history.History.push.Goals as goal

pub invariant_of-self-2 : goal.invariant_of-self-2
invariant_of-self-2 c =
    let ts = c.self.inside.taken.items in
    let one = c.in_ok-kept.field-0 in
    let few = commands_count ts in
    let low = ap length c.self.view_is in
    let items = c.in-Ok.ensures.items ∙ (λ i. c.in_ok-reserve.ensures.items i ++ record { kept = one.kept; change = c.change_made-change.ensures i } ∷ []) in
    let makes = λ (new : Tables) (e : change c.args.command.now c.self.inside.store.tables ≡ Ok new).
    ap (λ t. apply_change one.change one.kept (contents_of t)) (sym c.tables.ensures) ∙ c.in_ok-kept.ensures.done new (ap (change c.args.command.now) c.tables.ensures ∙ e) in
    subst (λ l. IsHistory l c.apply.new.self) (sym items)
    (goes_on ts c.self.inside.store c.apply.new.self one.kept one.change c.args.command.now
    (c.taken-position.result + 1) c.in_ok-outcome.outcome c.self.invariant
    (omega (arith, few, low, c.requires)) c.in_ok-kept.ensures.same
    (omega (arith, c.taken-position.ensures)) makes c.in_ok-outcome.ensures.done)

pub returns-clause-outcome : goal.returns-clause-outcome
returns-clause-outcome c =
    let ts = c.self.inside.taken.items in
    let few = commands_count ts in
    came_to c.self.inside.store c.apply.new.self _ c.args.command.now (c.taken-position.result + 1)
    c.in_ok-outcome.outcome c.self.invariant.now
    (omega (arith, few, c.taken-position.ensures, c.self.invariant.counted))
    c.in_ok-outcome.ensures.done
    ∙ ap (λ l. outcome_after l c.args.command.now) c.self.view_is
