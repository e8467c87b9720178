-- A node that is broken, and one that is not.
use Rattle.std.proofs.Common.{◌≡◌, ◌||◌, Bool, true, false, List, Result, Ok, Err, OnOk, refl, subst, true≢false}
use Rattle.ts_synod.specs.declared.message.Message.{Message}
use Rattle.ts_synod.specs.Node as world
use Rattle.ts_node.specs.declared.input.Input.{Input}
use Rattle.ts_node.specs.declared.input.Input.TheVariants as inputs
use Rattle.ts_node.specs.Inputs.{IsInput}

pub both_not : (a b : Bool) → a ≡ false → b ≡ false → (a || b) ≡ false
both_not true b h k = absurd (true≢false h)
both_not false b h k = k

pub first_not : (a b : Bool) → (a || b) ≡ false → a ≡ false
first_not true b h = absurd (true≢false h)
first_not false b h = refl

pub second_not : (a b : Bool) → (a || b) ≡ false → b ≡ false
second_not true b h = absurd (true≢false h)
second_not false b h = h

pub second_yes : (a : Bool) → (a || true) ≡ false → ⊥
second_yes true h = true≢false h
second_yes false h = true≢false h

pub ok_both : {T E : Type 0} (r : Result T E) (a b : Bool) → OnOk r (a ≡ false) → OnOk r (b ≡ false) → OnOk r ((a || b) ≡ false)
ok_both (Ok x) a b h k = both_not a b h k
ok_both (Err e) a b h k = tt

pub ok_any : {T E : Type 0} (r : Result T E) (P : Type 0) → P → OnOk r P
ok_any (Ok x) P h = h
ok_any (Err e) P h = tt

pub ok_after : {T E : Type 0} (r : Result T E) {P Q : Type 0} → (P → Q) → OnOk r P → OnOk r Q
ok_after (Ok x) f h = f h
ok_after (Err e) f h = tt

-- compaction is no event
pub no_event : {C Q : Type 0} (sent : List (Message C)) (input : Input C Q) (event : world.Input C Q) → input ≡ inputs.Compact → IsInput sent input event → ⊥
no_event {C} {Q} sent input event is h = go event (subst (λ (i : Input C Q). IsInput sent i event) is h)
  where
    go : (e : world.Input C Q) → IsInput sent inputs.Compact e → ⊥
    go (world.Deliver which) k = k
    go (world.Submit c) k = k
    go (world.Question j q) k = k
    go (world.Outcome id) k = k
    go world.CatchUp k = k
    go world.Status k = k
