-- The text of the body is the body.
use Rattle.std.proofs.Common.{rules, ◌≡◌}
use Rattle.std.specs.Str.{IsUtf8}
use Rattle.ts_api.proofs.Bodies.{unsaid_json}
use Rattle.ts_api.proofs.asking.object_pairs.Goals as goal

pub returns-clause-unsaid : goal.returns-clause-unsaid
returns-clause-unsaid c =
    let same : c.in-Ok.text.now ≡ c.args.body.now = search rules in
    let text : IsUtf8 c.args.body.now = search rules in
    unsaid_json c.json_pairs.result c.args.body.now text (rw same at c.json_pairs.ensures.unsaid)
