-- The page has no number that is a fraction, so its text is the compact one.
use Rattle.std.proofs.Common.{◌≡◌, ◌∙◌, List, ap, codes, map, rules}
use Rattle.std.proofs.lemmas.Result.{IfOk-weaker}
use Rattle.serde_json.specs.Data.{Data, array, object, put}
use Rattle.serde_json.specs.View.{items_of, members_view, view}
use Rattle.serde_json.specs.Written.{compact_text, has_float}
use Rattle.serde_json.specs.declared.value.Value.{Object, the_lemmas}
use Rattle.ts_json.specs.Members.{members_of, named_value, object_of, page_of}
use Rattle.ts_json.proofs.MemberFloats.{each_row, of_page, row_of}
use Rattle.ts_json.proofs.member.page_text.Goals as goal

pub returns : goal.returns
returns c =
    let rows = map row_of c.args.rows.now in
    let value : view c.from.result ≡ array (items_of (map object_of rows)) = c.from.ensures ∙ ap (λ (ds : List Data). array (items_of ds)) (c.in_ok-values.ensures ∙ each_row c.args.rows.now) in
    let members : members_view c.put.new.map.entries ≡ put (codes "rows") (view c.from.result) (members_view c.in_ok-all.all.entries) = c.in_ok-put.ensures.ok in
    let members_all : members_view c.in_ok-all.all.entries ≡ members_of (map named_value c.args.members.now) = c.in_ok-all.ensures in
    let opened : view (Object c.put.new.map) ≡ object (members_view c.put.new.map.entries) = search (rules, the_lemmas) in
    let built : view (Object c.put.new.map) ≡ page_of (map named_value c.args.members.now) rows =
    opened ∙ ap object (members
    ∙ (ap (λ (d : Data). put (codes "rows") d (members_view c.in_ok-all.all.entries)) value
    ∙ ap (put (codes "rows") (array (items_of (map object_of rows)))) members_all)) in
    IfOk-weaker c.to_string.result _ _ (λ s text. text (ap has_float built ∙ of_page c.args.members.now c.args.rows.now) ∙ ap compact_text built) c.to_string.ensures.text
