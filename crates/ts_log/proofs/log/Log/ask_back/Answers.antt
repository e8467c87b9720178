use Rattle.std.proofs.Common.{◌⊎◌, ◌≤◌, ◌∙◌, ◌+◌, ◌++◌, ◌∷◌, [], ap, length, inl, inr, sym, arith}
use Rattle.ts_synod.specs.declared.message.Body.TheVariants.{Ask}
use Rattle.ts_synod.specs.Messages.{send}
use Rattle.ts_synod.specs.Log.{prefix}
use Rattle.ts_log.specs.Log.{config_of, learned_of}
use Rattle.ts_log.proofs.Asking.{asks_none, asks_one}
use Rattle.ts_log.proofs.log.Log.ask_back.Goals as goal
use Rattle.ts_log.proofs.log.Log.ask_back.Goals.{then-count-via-then-count, then-count-via-else-count+then-count-ge-LAST_POSITION}

pub returns-then-count : goal.returns-then-count
returns-then-count g c =
    let a = c.args.self.now in
    let n = c.args.count in
    let before = length (prefix (learned_of a)) in
    let none : (n ≤ before) ⊎ (1000000 ≤ n) =
    elim c.then-count.branch [
      | then-count-via-then-count w ↦ inl (omega (arith, c.count.ensures.count))
      | then-count-via-else-count+then-count-ge-LAST_POSITION w ↦ inr (omega arith)
    ] in
    c.new-messages.ensures.items ∙ sym (asks_none (config_of a) before n c.args.from none)

pub returns : goal.returns
returns g c =
    let a = c.args.self.now in
    let n = c.args.count in
    let before = length (prefix (learned_of a)) in
    c.in_ok-push.ensures.items
    ∙ ap (λ ms. ms ++ send a.me c.args.from (Ask (n + 1)) ∷ []) c.new-messages.ensures.items
    ∙ sym (asks_one (config_of a) before n c.args.from (omega (arith, c.count.ensures.count))
    (omega arith))
