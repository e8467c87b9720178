-- A turn looks at its next message.
use Rattle.std.proofs.Common.{◌≡◌, ◌≢◌, ◌∙◌, ◌≤◌, ◌<◌, ◌+◌, ◌==◌, ◌++◌, ◌∷◌, ℕ, suc, zero, List, []}
use Rattle.std.proofs.Common.{Bool, true, false, Some, length, slice_get, refl, sym, ap, subst}
use Rattle.std.proofs.Common.{arith, length-append, append_assoc}
use Rattle.std.proofs.lemmas.Bool.Decides.{Decides-eqb}
use Rattle.std.proofs.lemmas.Grind.{flat_map-append}
use Rattle.std.specs.Prelude.{slice_index_or}
use Rattle.ts_synod.specs.declared.message.Fact.{Fact}
use Rattle.ts_synod.specs.declared.message.Message.{Message}
use Rattle.ts_synod.specs.Config.{Config}
use Rattle.ts_synod.specs.Force.{log_of}
use Rattle.ts_synod.specs.Laws.{node_with}
use Rattle.ts_synod.specs.Node as world
use Rattle.ts_synod.specs.Node.{Effect}
use Rattle.ts_synod.specs.Store.{Store}
use Rattle.ts_synod.specs.Turn.{turn}
use Rattle.ts_log.specs.Log.{learned_of}
use Rattle.ts_record.specs.Facts.{AllFit, FactFits, fact_encoding, encodings}
use Rattle.ts_node.specs.declared.plan.Plan.{Plan}
use Rattle.ts_node.specs.declared.roles.Roles.{Roles}
use Rattle.ts_node.specs.declared.turn.Turn.{Turn}
use Rattle.ts_node.specs.Growing.{IsPart}
use Rattle.ts_node.specs.Roles.{StandFor, config_of, volatile_of}
use Rattle.ts_node.specs.inside.Roles.{Makes, AreUnchanged, facts_in, volatile_after}
use Rattle.ts_node.specs.inside.Staged.{FitBehind, IsFull, IsHeld, IsSoFar}
use Rattle.ts_node.specs.Turn.{inputs_of}
use Rattle.ts_node.proofs.Fits.{all_more}
use Rattle.ts_node.proofs.Images.{log_extends, part_extends}
use Rattle.ts_node.proofs.Rooms.{all_second}
use Rattle.ts_node.proofs.Turns.{and_then, delivered, inputs_other, inputs_own, next, turn_more}

test_other : (a b : ℕ) → a ≢ b → (a == b) ≡ false
test_other a b different = go (a == b) refl
  where
    go : (t : Bool) → (a == b) ≡ t → (a == b) ≡ false
    go false e = e
    go true e = absurd (different ((Decides-eqb a b).0 e))

-- what is read at a place is there
get_is : {A : Type 0} (xs : List A) (k : ℕ) (x : A) → k < length xs → x ≡ slice_index_or xs k x → slice_get xs k ≡ Some x
get_is [] k x l e = absurd (omega (arith, l))
get_is (y ∷ ys) zero x l e = ap (λ z. Some z) (sym e)
get_is (y ∷ ys) (suc k) x l e = get_is ys k x (omega (arith, l)) e

module _ {C O Q : Type 0} (store : Store C O (List C) Q (List C)) (config : Config)
    (kept : List (Fact C)) (volatile : world.Volatile C) (sent : List (Message C))
    (event : world.Input C Q) (roles : Roles C) (now : Turn C) (m : Message C)
    (within : now.looked < length now.messages.items) (is : m ≡ slice_index_or now.messages.items now.looked m) (was : IsSoFar store config kept volatile sent event roles now) where
  -- one to another node
  pub look_other : m.to ≢ roles.me → IsSoFar store config kept volatile sent event roles (record now { looked = now.looked + 1 })
  look_other other = record {
    stand = was.stand;
    same = was.same;
    effect = ap (λ es. (turn store config (node_with kept volatile) sent es).effect)
        (inputs_other config.me sent event now.messages.items [] now.looked m within is
        (test_other m.to config.me (subst (λ (k : Config). m.to ≢ k.me) was.same other)))
        ∙ was.effect;
  }

  module _ (roles1 : Roles C) (plan : Plan C) (same : AreUnchanged roles roles1)
      (makes : (facts : List (Fact C)) → StandFor roles facts
      → Makes roles1 plan (world.on_message store (config_of roles) facts (volatile_of roles) m))
    where
      made : Makes roles1 plan (world.on_message store config (kept ++ now.facts.items) (volatile_of roles) m)
      made = subst (λ k. Makes roles1 plan (world.on_message store k (kept ++ now.facts.items) (volatile_of roles) m)) was.same (makes (kept ++ now.facts.items) was.stand)

      -- there is no room
      pub look_full : (octets : C → List ℕ) (size : ℕ) → m.to ≡ roles.me
          → size ≡ now.before + length (encodings octets now.facts.items)
          → (AllFit octets (facts_in plan.change)
          → size + length (encodings octets (facts_in plan.change)) ≤ 4194500 → ⊥)
          → IsFull octets store config kept sent roles1 now
      look_full octets size own so_long none =
          let v : volatile_of roles1 ≡ volatile_of roles = same.volatile in
          record {
            message = m;
            is = get_is now.messages.items now.looked m within is;
            full = λ together.
                let f : facts_in plan.change ≡
                (world.on_message store config (kept ++ now.facts.items)
                (volatile_of roles1) m).facts = made.facts
                ∙ ap (λ w. (world.on_message store config (kept ++ now.facts.items) w m).facts)
                (sym v) in
                let two = subst (λ fs. FitBehind octets now.before (now.facts.items ++ fs)) (sym f) together in
                let a = ap length (flat_map-append (fact_encoding octets) now.facts.items (facts_in plan.change)) in
                let b = length-append (encodings octets now.facts.items) (encodings octets (facts_in plan.change)) in
                none (all_second (FactFits octets) now.facts.items (facts_in plan.change) two.0) (let l = two.1 in omega arith);
          }

      pub look_none : IsSoFar store config kept volatile sent event roles1 now
      look_none = record {
        stand = same.stand (kept ++ now.facts.items) was.stand;
        same = same.config ∙ was.same;
        effect = was.effect ∙ (λ i. record { facts = now.facts.items; messages = now.messages.items; volatile = sym same.volatile i });
      }

      -- it was taken
      pub look_own : m.to ≡ roles.me → (roles2 : Roles C) (then' : Turn C)
          → ((facts : List (Fact C)) → StandFor roles1 facts
          → StandFor roles2 (facts ++ facts_in plan.change))
          → volatile_of roles2 ≡ volatile_after roles1 plan.change
          → config_of roles2 ≡ config_of roles1
          → then'.facts.items ≡ now.facts.items ++ facts_in plan.change → then'.messages.items ≡ now.messages.items ++ plan.messages.items → then'.looked ≡ now.looked
          → IsSoFar store config kept volatile sent event roles2 (record then' { looked = then'.looked + 1 })
      look_own own roles2 then' stand vol conf facts messages looked =
          let node = node_with kept volatile in
          let before = inputs_of config.me sent event now.looked now.messages.items in
          let e = (turn store config node sent before).effect in
          let step = world.on_message store config (kept ++ now.facts.items) (volatile_of roles) m in
          let test : (m.to == config.me) ≡ true = (Decides-eqb m.to config.me).1 (own ∙ ap (λ (k : Config). k.me) was.same) in
          let at : inputs_of config.me sent event (then'.looked + 1) then'.messages.items ≡ before ++ world.Deliver (length sent + now.looked) ∷ [] =
          ap (λ ms. inputs_of config.me sent event (then'.looked + 1) ms) messages
          ∙ ap (λ k. inputs_of config.me sent event (k + 1) (now.messages.items ++ plan.messages.items)) looked
          ∙ inputs_own config.me sent event now.messages.items plan.messages.items now.looked m within is test in
          let there : slice_get e.messages now.looked ≡ Some m =
          subst (λ (f : Effect C). slice_get f.messages now.looked ≡ Some m) (sym was.effect) (get_is now.messages.items now.looked m within is) in
          let so : next store config node sent e (world.Deliver (length sent + now.looked)) ≡ step =
          delivered store config node sent e now.looked m there ∙ ap (λ (f : Effect C). world.on_message store config (kept ++ f.facts) f.volatile m) was.effect in
          record {
            stand = subst (StandFor roles2) (append_assoc kept now.facts.items (facts_in plan.change)
                ∙ ap (λ fs. kept ++ fs) (sym facts))
                (stand (kept ++ now.facts.items) (same.stand (kept ++ now.facts.items) was.stand));
            same = conf ∙ same.config ∙ was.same;
            effect = ap (λ es. (turn store config node sent es).effect) at ∙ turn_more store config before node sent (world.Deliver (length sent + now.looked))
                ∙ ap (and_then e) so ∙ ap (λ (f : Effect C). and_then f step) was.effect
                ∙ (λ i. record {
                  facts = (ap (λ fs. now.facts.items ++ fs) (sym made.facts) ∙ sym facts) i;
                  messages = (ap (λ ms. now.messages.items ++ ms) (sym made.messages) ∙ sym messages) i;
                  volatile = (sym made.volatile ∙ sym vol) i;
                });
          }

pub held_more : {C : Type 0} (octets : C → List ℕ) (now then' : Turn C) (more : List (Fact C))
    (size : ℕ) → IsHeld octets now → AllFit octets more
    → size ≡ now.size + length (encodings octets more) → size ≤ 4194500
    → then'.facts.items ≡ now.facts.items ++ more → then'.size ≡ size → then'.before ≡ now.before
    → then'.looked + 1 ≤ length then'.messages.items
    → IsHeld octets (record then' { looked = then'.looked + 1 })
held_more octets now then' more size was fit is short facts same behind looked = record {
  fit = subst (AllFit octets) (sym facts) (all_more (FactFits octets) now.facts.items more was.fit fit);
  size =
      let a = ap (λ fs. length (encodings octets fs)) facts in
      let b = ap length (flat_map-append (fact_encoding octets) now.facts.items more) in
      let c = length-append (encodings octets now.facts.items) (encodings octets more) in
      let d = was.size in
      omega arith;
  short = omega (arith, same, short);
  looked = looked;
}

pub part_more : {C : Type 0} (commands : List C) (roles1 roles2 : Roles C)
    (facts more : List (Fact C)) → StandFor roles1 facts → StandFor roles2 (facts ++ more)
    → IsPart commands (learned_of roles1.log) → IsPart commands (learned_of roles2.log)
part_more commands roles1 roles2 facts more a b part =
    subst (IsPart commands) (sym b.log) (part_extends (log_of facts) (log_of (facts ++ more)) commands (log_extends facts more) (subst (IsPart commands) a.log part))
