-- One more row, or no more.
use Rattle.std.proofs.Common.{rules, arith, ◌≡◌, ◌+◌, ◌++◌, ℕ, List, inl, inr, subst, sym, ap, ◌∙◌, map, refl}
use Rattle.std.proofs.lemmas.List.{drop_all}
use Rattle.ts_json.specs.Members.{NamedValue, named_value}
use Rattle.ts_render.specs.RowMembers.{members_of_row}
use Rattle.ts_render.specs.Rows.{IsNoRow, IsRow}
use Rattle.ts_site.specs.Listings.{AreMembers, HasNoRow}
use Rattle.ts_site.proofs.Members.{items, next, over, told_all, told_more, view, view_more}
use Rattle.ts_site.proofs.listing.all_members.Goals as goal

pub returns-in_default : goal.returns-in_default
returns-in_default c =
    let x = c.index-rows-place.result in
    let left = next c.args.rows.now c.loop-place.place x c.loop-place-test.true c.index-rows-place.is in
    let none : IsNoRow c.deref.result.now = search rules in
    c.loop-place.invariant.1 (subst HasNoRow (sym left)
    (inl (subst (λ (octets : List ℕ). IsNoRow octets) c.deref.ensures.value none)))

pub loop-place-preserved : goal.loop-place-preserved
loop-place-preserved c =
    let x = c.index-rows-place.result in
    let p = c.loop-place.place in
    let from = c.args.from in
    let row = c.in-Some.row in
    let m = c.in_ok-row_members.field-0 in
    let all = c.loop-place.all.items in
    let left = next c.args.rows.now p x c.loop-place-test.true c.index-rows-place.is in
    let is : IsRow c.deref.result.now row = search rules in
    let one : map named_value m.items ≡ members_of_row (from + p + 1) row = search rules in
    let place : from + (p + 1) ≡ from + p + 1 = omega arith in (
      λ rest are. subst (λ (ms : List (List NamedValue)). AreMembers from (items c.args.rows.now) (ms ++ rest))
          (sym (ap view c.in_ok-push.ensures.items ∙ view_more all m))
          (told_more from (from + p) (from + p + 1) (from + (p + 1)) x.items _ _ row (map named_value m.items) (view all) rest (items c.args.rows.now)
          left (subst (λ (octets : List ℕ). IsRow octets row) c.deref.ensures.value is) one refl place c.loop-place.invariant.0 are),
      λ other. c.loop-place.invariant.1 (subst HasNoRow (sym left) (inr other)),
    )

pub returns : goal.returns
returns c =
    told_all c.args.from (c.args.from + c.loop-place.place) _ (view c.loop-place.all.items) (items c.args.rows.now)
    (over c.args.rows.now c.loop-place.place (drop_all c.loop-place.place c.args.rows.now c.loop-place-test.false))
    c.loop-place.invariant.0
