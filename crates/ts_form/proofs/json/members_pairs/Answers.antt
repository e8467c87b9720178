-- One more member, or no more.
use Rattle.std.proofs.Common.{rules, ◌≡◌, [], arith, subst, map, string_bytes}
use Rattle.std.proofs.lemmas.List.{length-map}
use Rattle.serde_json.specs.View.{members_view, view}
use Rattle.ts_form.specs.Pairs.{AreFew, AreMany, pair_in}
use Rattle.ts_form.specs.Said.{IsNotTaken, IsUnsaid, members_said, value_said}
use Rattle.ts_form.specs.declared.fault.FormFault.{FormFault}
use Rattle.ts_form.proofs.Saying.{IsSoFar, next_member, said_few, said_many, unsaid_member}
use Rattle.ts_form.proofs.json.members_pairs.Goals as goal

pub returns-in_err-push_member-clause-unsaid : goal.returns-in_err-push_member-clause-unsaid
returns-in_err-push_member-clause-unsaid c =
    let name = string_bytes c.in-Some.name.now in
    let value = view c.in-Some.value.now in
    let rest = members_view c.next.new.self in
    let whole = members_said (members_view c.args.members.now.entries) in
    let taken = map pair_in c.loop-name.pairs.items in
    let left = subst (λ es. IsSoFar whole taken (members_said (members_view es))) c.in-Some.ensures.steps c.loop-name.invariant in
    let told : (fault : FormFault) → IsUnsaid (value_said c.as_str.result.now value) fault → IsNotTaken whole fault = λ fault.
    unsaid_member whole taken name c.as_str.result.now value rest fault left c.as_str.ensures.value in
    search (rules, told)

pub loop-name-preserved : goal.loop-name-preserved
loop-name-preserved c =
    let whole = members_said (members_view c.args.members.now.entries) in
    let taken = map pair_in c.loop-name.pairs.items in
    let left = subst (λ es. IsSoFar whole taken (members_said (members_view es))) c.in-Some.ensures.steps c.loop-name.invariant in
    next_member whole taken (map pair_in c.push_member.new.pairs.items)
    (string_bytes c.in-Some.name.now) c.as_str.result.now (view c.in-Some.value.now)
    (members_view c.next.new.self) left c.as_str.ensures.value c.in_ok-push_member.ensures.said

pub returns-then-len-gt-MAX_PAIRS-clause-unsaid : goal.returns-then-len-gt-MAX_PAIRS-clause-unsaid
returns-then-len-gt-MAX_PAIRS-clause-unsaid c =
    let whole = members_said (members_view c.args.members.now.entries) in
    let taken = map pair_in c.loop-name.pairs.items in
    let over : c.loop-name.name-iterator ≡ [] = search rules in
    let so = subst (λ es. IsSoFar whole taken (members_said (members_view es))) over c.loop-name.invariant in
    let many : AreMany taken = omega (arith, length-map c.loop-name.pairs.items pair_in, c.if-len-gt-MAX_PAIRS.true) in
    said_many whole taken so many

pub returns-clause-said : goal.returns-clause-said
returns-clause-said c =
    let whole = members_said (members_view c.args.members.now.entries) in
    let taken = map pair_in c.loop-name.pairs.items in
    let over : c.loop-name.name-iterator ≡ [] = search rules in
    let so = subst (λ es. IsSoFar whole taken (members_said (members_view es))) over c.loop-name.invariant in
    let few : AreFew taken = omega (arith, length-map c.loop-name.pairs.items pair_in, c.if-len-gt-MAX_PAIRS.false) in
    said_few whole taken so few
