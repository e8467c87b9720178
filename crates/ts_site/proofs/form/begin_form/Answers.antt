-- The question of the fields is asked.
use Rattle.std.proofs.Common.{◌≡◌, List, Result, inr, map, refl, subst}
use Rattle.std.proofs.Math.Facts.{to_z-of_z}
use Rattle.ts_form.specs.Pairs.{NamedValue, pair_in, pairs_of}
use Rattle.ts_form.specs.declared.pair.Pair.{Pair}
use Rattle.ts_api.specs.Asking.{IsAskedFrom}
use Rattle.ts_api.specs.declared.asking.AskedQuestion.{AskedQuestion}
use Rattle.ts_api.specs.declared.asking.NoQuestion.{NoQuestion}
use Rattle.ts_site.proofs.form.begin_form.Goals as goal

pub returns-in_ok-frame-in-Ok-2 : goal.returns-in_ok-frame-in-Ok-2
returns-in_ok-frame-in-Ok-2 c =
    let body = c.args.request.now.body.items in
    let same : map pair_in c.in-Ok.pairs.items ≡ pairs_of body = rw c.deref.ensures.value at c.in-Ok.ensures.pairs in
    let found = simp (to_z-of_z, c.ranges.now) at c.in_ok-asked.ensures in
    let of_pairs = subst (λ (ps : List Pair). IsAskedFrom (map pair_in ps) c.args.now c.in_ok-asked.field-0) c.deref-2.ensures.value found in
    let of_body = subst (λ (xs : List NamedValue). IsAskedFrom xs c.args.now c.in_ok-asked.field-0) same of_pairs in
    let by = subst (λ (r : Result AskedQuestion NoQuestion). IsAskedFrom (pairs_of body) c.args.now r) c.in-Ok-2.is of_body in
    rw c.ask.ensures (c.in-Ok-2.asked, c.in-Ok.pairs, same, by, (c.in_ok-frame-in-Ok-2.ensures, refl))

pub returns-in_ok-no_question_page-in-Err-2 : goal.returns-in_ok-no_question_page-in-Err-2
returns-in_ok-no_question_page-in-Err-2 c =
    let body = c.args.request.now.body.items in
    let same : map pair_in c.in-Ok.pairs.items ≡ pairs_of body = rw c.deref.ensures.value at c.in-Ok.ensures.pairs in
    let found = simp (to_z-of_z, c.ranges.now) at c.in_ok-asked.ensures in
    let of_pairs = subst (λ (ps : List Pair). IsAskedFrom (map pair_in ps) c.args.now c.in_ok-asked.field-0) c.deref-2.ensures.value found in
    let of_body = subst (λ (xs : List NamedValue). IsAskedFrom xs c.args.now c.in_ok-asked.field-0) same of_pairs in
    let by = subst (λ (r : Result AskedQuestion NoQuestion). IsAskedFrom (pairs_of body) c.args.now r) c.in-Err-2.is of_body in
    inr (c.in-Err-2.why, by)
