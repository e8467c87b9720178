-- One more name, or no more.
use Rattle.std.proofs.Common.{rules, ◌≡◌, ◌∙◌, [], arith, length, sym, ap, subst, true, false, nat_lt, string_bytes}
use Rattle.std.proofs.lemmas.Bool.Decides.{nat_tests}
use Rattle.serde_json.specs.View.{members_view, view}
use Rattle.ts_form.specs.Said.{has_long_name}
use Rattle.ts_form.proofs.Saying.{long_name, next_name, no_name}
use Rattle.ts_form.proofs.json.has_long_name.Goals as goal

pub returns-then-len-gt-MAX_NAME : goal.returns-then-len-gt-MAX_NAME
returns-then-len-gt-MAX_NAME c =
    let whole = has_long_name (members_view c.args.members.now.entries) in
    let name = string_bytes c.in-Some.name.now in
    let left = subst (λ es. whole ≡ has_long_name (members_view es)) c.in-Some.ensures.steps c.loop-name.invariant in
    let long : nat_lt 64 (length name) ≡ true = grind (arith, nat_tests, c.len.ensures, c.if-len-gt-MAX_NAME.true) in
    sym (left ∙ long_name name (view c.in-Some.field-0-1.now) (members_view c.next.new.self) long)

pub loop-name-preserved : goal.loop-name-preserved
loop-name-preserved c =
    let whole = has_long_name (members_view c.args.members.now.entries) in
    let name = string_bytes c.in-Some.name.now in
    let left = subst (λ es. whole ≡ has_long_name (members_view es)) c.in-Some.ensures.steps c.loop-name.invariant in
    let short : nat_lt 64 (length name) ≡ false = grind (arith, nat_tests, c.len.ensures, c.if-len-gt-MAX_NAME.false) in
    left ∙ next_name name (view c.in-Some.field-0-1.now) (members_view c.next.new.self) short

pub returns : goal.returns
returns c =
    let over : c.loop-name.name-iterator ≡ [] = search rules in
    sym (c.loop-name.invariant ∙ (ap (λ es. has_long_name (members_view es)) over ∙ no_name))
