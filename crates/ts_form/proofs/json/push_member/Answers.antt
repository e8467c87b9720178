-- What each kind of value says.
use Rattle.std.proofs.Common.{rules, ◌≡◌, true, false, map, string_bytes, subst, List, Option, OnOk, IfErr}
use Rattle.serde_json.specs.Data.{null, boolean, number, object, string, array}
use Rattle.serde_json.specs.View.{items_view, members_view, number_view, view}
use Rattle.serde_json.specs.declared.value.Value.{the_lemmas}
use Rattle.ts_form.specs.Pairs.{NamedValue, pair_in}
use Rattle.ts_form.specs.Said.{IsUnsaid, AppendsPairs, items_said}
use Rattle.ts_form.proofs.Saying.{listed, said_false, said_null, said_number, said_text, said_true, unsaid_number, unsaid_object}
use Rattle.ts_form.proofs.json.push_member.Goals as goal

pub returns-in-Null : goal.returns-in-Null
returns-in-Null c =
    let seen : view c.args.value.now ≡ null = search (rules, the_lemmas) in
    record { said = said_null _ _ _ seen; unsaid = tt }

pub returns-in_ok-push-in-Bool-true : goal.returns-in_ok-push-in-Bool-true
returns-in_ok-push-in-Bool-true c =
    let seen : view c.args.value.now ≡ boolean true = search (rules, the_lemmas) in
    record { said = said_true _ _ _ _ seen c.in_ok-push-in-Bool-true.ensures; unsaid = tt }

pub returns-in_ok-push-in-Bool-false : goal.returns-in_ok-push-in-Bool-false
returns-in_ok-push-in-Bool-false c =
    let seen : view c.args.value.now ≡ boolean false = search (rules, the_lemmas) in
    record { said = said_false _ _ _ _ seen c.in_ok-push-in-Bool-false.ensures; unsaid = tt }

pub returns-in_ok-push-in-String : goal.returns-in_ok-push-in-String
returns-in_ok-push-in-String c =
    let seen : view c.args.value.now ≡ string (string_bytes c.in-String.text) = search (rules, the_lemmas) in
    record { said = said_text _ _ c.as_str.result.now _ _ _ seen c.as_str.ensures.value c.in_ok-push-in-String.ensures; unsaid = tt }

pub returns-in_ok-push-in-Number : goal.returns-in_ok-push-in-Number
returns-in_ok-push-in-Number c =
    let seen : view c.args.value.now ≡ number (number_view c.in-Number.number) = search (rules, the_lemmas) in
    let text : c.as_str-in-Number.result.now ≡ string_bytes c.in_ok-text-in-Number.text = c.as_str-in-Number.ensures.value in
    record { said = said_number _ c.as_str-in-Number.result.now c.in-Some.number (number_view c.in-Number.number) _ _ _ seen (search rules) (search rules) c.in_ok-push-in-Number.ensures; unsaid = tt }

pub returns-in-Array : goal.returns-in-Array
returns-in-Array c =
    let items = c.deref.result.now in
    let seen : view c.args.value.now ≡ array (items_view items) = search (rules, the_lemmas) in
    let same = listed c.args.name.now (view c.args.value.now) (items_view items) seen in
    let owes : OnOk c.push_items.result
    (AppendsPairs (items_said c.args.name.now (items_view items))
    (map pair_in c.args.pairs.now.items) (map pair_in c.push_items.new.pairs.items)) =
    c.push_items.ensures.said in
    let not : IfErr c.push_items.result (IsUnsaid (items_said c.args.name.now (items_view items))) = c.push_items.ensures.unsaid in
    record {
      said = subst (λ (s : Option (List NamedValue)). OnOk c.push_items.result (AppendsPairs s (map pair_in c.args.pairs.now.items) (map pair_in c.push_items.new.pairs.items))) same owes;
      unsaid = subst (λ (s : Option (List NamedValue)). IfErr c.push_items.result (IsUnsaid s)) same not;
    }

pub returns-in_default-clause-unsaid : goal.returns-in_default-clause-unsaid
returns-in_default-clause-unsaid c =
    let seen : view c.args.value.now ≡ number (number_view c.in-Number.number) = search (rules, the_lemmas) in
    unsaid_number c.args.name.now (view c.args.value.now) (number_view c.in-Number.number) seen (search rules)

pub returns-in-Object-clause-unsaid : goal.returns-in-Object-clause-unsaid
returns-in-Object-clause-unsaid c =
    let seen : view c.args.value.now ≡ object (members_view c.in-Object.field-0.entries) = search (rules, the_lemmas) in
    unsaid_object c.args.name.now (view c.args.value.now) (members_view c.in-Object.field-0.entries) seen
