-- The fields so far are those that the spans so far cover.
use Rattle.std.proofs.Common.{◌≡◌, map, take}
use Rattle.httparse.specs.Spans.{header_bytes}
use Rattle.ts_http.specs.Request.{field_in}
use Rattle.ts_http.proofs.request.fields_at.Given as goal

abbrev pub invariant-loop-header : goal.invariant-loop-header
invariant-loop-header l = map field_in l.fields.items ≡ map (header_bytes l.octets) (take l.header-index l.headers)
