-- One more text, or no more.
use Rattle.std.proofs.Common.{rules, ◌≡◌, ◌+◌, ◌∙◌, ◌∷◌, ◌++◌, [], ap, Some, drop, map, None}
use Rattle.std.proofs.lemmas.List.{drop_all}
use Rattle.serde_json.specs.Find.{as_str}
use Rattle.serde_json.specs.View.{items_view, view}
use Rattle.ts_form.specs.Pairs.{pair_in}
use Rattle.ts_form.specs.Said.{both, items_said}
use Rattle.ts_form.proofs.Dropping.{next_value}
use Rattle.ts_form.proofs.Saying.{behind_all, next_item, no_more_items, no_text, text_is, unsaid_item}
use Rattle.ts_form.proofs.json.push_items.Goals as goal

pub returns-in_default-clause-unsaid : goal.returns-in_default-clause-unsaid
returns-in_default-clause-unsaid c =
    let inv = c.loop-item.invariant in
    let name = c.args.name.now in
    let xs = c.args.items.now in
    let x = c.item-item.result in
    let none : as_str (view x) ≡ None = search rules in
    let left = inv.2 ∙ ap (λ rest. both (Some inv.0) (items_said name rest)) (next_value xs c.loop-item.item-index x c.loop-item-test.true c.item-item.is) in
    unsaid_item _ inv.0 name (view x) (items_view (drop (c.loop-item.item-index + 1) xs)) left (no_text name (view x) none)

pub loop-item-preserved : goal.loop-item-preserved
loop-item-preserved c =
    let inv = c.loop-item.invariant in
    let name = c.args.name.now in
    let xs = c.args.items.now in
    let i = c.loop-item.item-index in
    let x = c.item-item.result in
    let text = c.in-Some.text.now in
    let seen : as_str (view x) ≡ Some text = search rules in
    let left = inv.2 ∙ ap (λ rest. both (Some inv.0) (items_said name rest)) (next_value xs i x c.loop-item-test.true c.item-item.is) in (
      inv.0 ++ (name, text) ∷ [],
      behind_all (map pair_in c.args.pairs.now.items) inv.0 (map pair_in c.loop-item.pairs.items) (map pair_in c.push.new.pairs.items) (name, text) inv.1 c.in_ok-push.ensures,
      next_item _ inv.0 name text (view x) (items_view (drop (i + 1) xs)) left (text_is (view x) text seen),
    )

pub returns : goal.returns
returns c =
    let inv = c.loop-item.invariant in
    let name = c.args.name.now in
    let over = drop_all c.loop-item.item-index c.args.items.now c.loop-item-test.false in
    record {
      said = record {
        more = inv.0;
        is = no_more_items _ inv.0 name (inv.2 ∙ ap (λ rest. both (Some inv.0) (items_said name (items_view rest))) over);
        behind = inv.1;
      };
      unsaid = tt;
    }
