-- What is left goes on from what was shown so far.
use Rattle.std.proofs.Common.{◌≡◌, drop, map}
use Rattle.std.specs.Prelude.{fold}
use Rattle.ts_http.specs.Request.{field_in}
use Rattle.ts_api.specs.Request.{bearer_in, with_field}
use Rattle.ts_api.proofs.request.bearer_in.Given as goal

abbrev pub invariant-loop-field : goal.invariant-loop-field
invariant-loop-field l = fold with_field l.bearer (map field_in (drop l.field-index l.fields))
    ≡ bearer_in (map field_in l.fields)
