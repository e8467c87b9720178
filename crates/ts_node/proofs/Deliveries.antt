-- Which rule of the world an input is for.
use Rattle.std.proofs.Common.{◌≡◌, ◌≢◌, ◌∙◌, ◌<◌, ◌≤◌, ◌==◌, ◌&&◌, ℕ, List, Option, Bool, true, false, nat_le, length, refl, sym, ap, arith}
use Rattle.std.proofs.lemmas.Bool.Decides.{nat_tests, Decides-eqb}
use Rattle.ts_synod.specs.declared.message.Message.{Message}
use Rattle.ts_synod.specs.Config.{Config, is_node}
use Rattle.ts_synod.specs.Force.{log_of}
use Rattle.ts_synod.specs.Log.{catch_up, prefix}
use Rattle.ts_synod.specs.Store.{Store, settling}
use Rattle.ts_synod.specs.Acceptor.{only_messages}
use Rattle.ts_synod.specs.Node as world
use Rattle.ts_node.specs.declared.input.Input.TheVariants as inputs
use Rattle.ts_node.specs.Inputs.{IsInput}

pub reaches : (to me from nodes : ℕ) → to ≡ me → 1 ≤ from → from ≤ nodes → ((to == me) && is_node nodes from) ≡ true
reaches to me from nodes e low high =
    let a : (to == me) ≡ true = (Decides-eqb to me).1 e in
    let b : nat_le 1 from ≡ true = grind (arith, nat_tests) in
    let d : nat_le from nodes ≡ true = grind (arith, nat_tests) in
    rw (a, b, d) refl

first_false : (x y : Bool) → x ≡ false → (x && y) ≡ false
first_false x y e = rw e refl

second_false : (x y : Bool) → y ≡ false → (x && y) ≡ false
second_false true y e = e
second_false false y e = refl

not_true : (b : Bool) → (b ≡ true → ⊥) → b ≡ false
not_true true h = absurd (h refl)
not_true false h = refl

pub misses_me : (to me from nodes : ℕ) → to ≢ me → ((to == me) && is_node nodes from) ≡ false
misses_me to me from nodes ne = first_false (to == me) (is_node nodes from) (not_true (to == me) (λ t. ne ((Decides-eqb to me).0 t)))

pub misses_low : (to me from nodes : ℕ) → from < 1 → ((to == me) && is_node nodes from) ≡ false
misses_low to me from nodes l = second_false (to == me) (is_node nodes from) (first_false (nat_le 1 from) (nat_le from nodes) (grind (arith, nat_tests)))

pub misses_high : (to me from nodes : ℕ) → nodes < from → ((to == me) && is_node nodes from) ≡ false
misses_high to me from nodes l = second_false (to == me) (is_node nodes from) (second_false (nat_le 1 from) (nat_le from nodes) (grind (arith, nat_tests)))

module _ {C O T Q V : Type 0} (store : Store C O T Q V) (config : Config) (node : world.Node C) (sent : List (Message C)) where
  pub deliver_is : (m : Message C) (event : world.Input C Q) → IsInput sent (inputs.Deliver m) event
      → world.with_reply (world.on_message store config node.facts node.volatile m) world.Done ≡
      world.step store config node sent event
  deliver_is m (world.Deliver which) is = ap (λ (o : Option (Message C)). world.with_reply (world.on_delivery store config node o) world.Done) (sym is)
  deliver_is m (world.Submit c) is = absurd is
  deliver_is m (world.Question k q) is = absurd is
  deliver_is m (world.Outcome id) is = absurd is
  deliver_is m world.CatchUp is = absurd is
  deliver_is m world.Status is = absurd is

  pub submit_is : (c : C) (event : world.Input C Q) → IsInput sent (inputs.Submit c) event → world.on_submit store config node c ≡ world.step store config node sent event
  submit_is c (world.Deliver which) is = absurd is
  submit_is c (world.Submit d) is = ap (world.on_submit store config node) is
  submit_is c (world.Question k q) is = absurd is
  submit_is c (world.Outcome id) is = absurd is
  submit_is c world.CatchUp is = absurd is
  submit_is c world.Status is = absurd is

  pub ask_is : (k : Option ℕ) (q : Q) (event : world.Input C Q)
      → IsInput sent (inputs.Ask k q) event
      → world.reply_only node.volatile (world.on_question store (prefix (log_of node.facts)) k q) ≡
      world.step store config node sent event
  ask_is k q (world.Deliver which) is = absurd is
  ask_is k q (world.Submit d) is = absurd is
  ask_is k q (world.Question at' question) is =
      ap (λ j. world.reply_only node.volatile
      (world.on_question store (prefix (log_of node.facts)) j q)) is.0
      ∙ ap (λ x. world.reply_only node.volatile
      (world.on_question store (prefix (log_of node.facts)) at' x)) is.1
  ask_is k q (world.Outcome id) is = absurd is
  ask_is k q world.CatchUp is = absurd is
  ask_is k q world.Status is = absurd is

  pub outcome_is : (id : List ℕ) (event : world.Input C Q) → IsInput sent (inputs.Outcome id) event
      → world.reply_only node.volatile
      (world.outcome_reply store id (settling store (prefix (log_of node.facts)) id)) ≡ world.step
      store config node sent event
  outcome_is id (world.Deliver which) is = absurd is
  outcome_is id (world.Submit d) is = absurd is
  outcome_is id (world.Question k q) is = absurd is
  outcome_is id (world.Outcome other) is = ap (λ x. world.reply_only node.volatile (world.outcome_reply store x (settling store (prefix (log_of node.facts)) x))) is
  outcome_is id world.CatchUp is = absurd is
  outcome_is id world.Status is = absurd is

  pub catch_up_is : (event : world.Input C Q) → IsInput sent inputs.CatchUp event
      → world.with_reply (world.output_effect node.volatile
      (only_messages (catch_up config (log_of node.facts)))) world.Done ≡ world.step store config
      node sent event
  catch_up_is (world.Deliver which) is = absurd is
  catch_up_is (world.Submit d) is = absurd is
  catch_up_is (world.Question k q) is = absurd is
  catch_up_is (world.Outcome id) is = absurd is
  catch_up_is world.CatchUp is = refl
  catch_up_is world.Status is = absurd is

  pub status_is : (event : world.Input C Q) → IsInput sent inputs.Status event
      → world.reply_only node.volatile (world.Prefix (length (prefix (log_of node.facts)))) ≡
      world.step store config node sent event
  status_is (world.Deliver which) is = absurd is
  status_is (world.Submit d) is = absurd is
  status_is (world.Question k q) is = absurd is
  status_is (world.Outcome id) is = absurd is
  status_is world.CatchUp is = absurd is
  status_is world.Status is = refl
