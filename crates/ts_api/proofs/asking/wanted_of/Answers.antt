-- The query, and then the body.
use Rattle.std.proofs.Common.{rules, ◌≡◌, map}
use Rattle.ts_form.specs.Pairs.{AreFew, pair_in}
use Rattle.ts_api.specs.Asking.{pairs_in}
use Rattle.ts_api.proofs.Bodies.{body_refused, body_says, query_refused}
use Rattle.ts_api.proofs.asking.wanted_of.Goals as goal

pub returns-in-Ok-clause-says : goal.returns-in-Ok-clause-says
returns-in-Ok-clause-says c =
    let same : map pair_in c.deref-2.result.now ≡ pairs_in c.args.request.now.target.items = search rules in
    let says = rw c.deref-in-Ok.ensures.value at c.with_body.ensures.says in
    let few : AreFew (pairs_in c.args.request.now.target.items) = search rules in
    body_says c.with_body.result c.args.request.now.target.items c.args.request.now.body.items _ few (rw same at c.in-Ok.ensures.says) says

pub returns-in-Ok-clause-refused : goal.returns-in-Ok-clause-refused
returns-in-Ok-clause-refused c =
    let same : map pair_in c.deref-2.result.now ≡ pairs_in c.args.request.now.target.items = search rules in
    let refused = rw c.deref-in-Ok.ensures.value at c.with_body.ensures.refused in
    body_refused c.with_body.result c.args.request.now.target.items c.args.request.now.body.items _ (rw same at c.in-Ok.ensures.says) refused

pub returns-clause-refused : goal.returns-clause-refused
returns-clause-refused c =
    let same : map pair_in c.deref-2.result.now ≡ pairs_in c.args.request.now.target.items = search rules in
    query_refused c.args.request.now.target.items c.args.request.now.body.items _ (rw same at c.in-Err.ensures.refused)
