-- What a request is of a head of HTTP/1.1.
use Rattle.std.specs.Prelude.{◌≡◌, ℕ, List, [], map}
use Rattle.httparse.specs.Spans.{span_bytes}
use Rattle.httparse.specs.declared.spans.HeaderSpan.{HeaderSpan}
use Rattle.httparse.specs.declared.spans.RequestSpans.{RequestSpans}
use Rattle.http1.specs.Fields.{Header}
use Rattle.http1.specs.ServerTrace.{headers_at}
use Rattle.ts_http.specs.declared.request.Field.{Field}
use Rattle.ts_http.specs.declared.request.Request.{Request}

-- its name and its value
abbrev pub field_in : Field → Header
field_in field = (field.name.items, field.value.items)

-- the request has the parts that spans cover, and no body yet
pub record IsAt (octets : List ℕ) (headers : List HeaderSpan) (head : RequestSpans) (r : Request)
    : Type 0 where
  pub method_is : r.method.items ≡ span_bytes octets head.method
  pub target_is : r.target.items ≡ span_bytes octets head.path
  pub fields_are : map field_in r.fields.items ≡ headers_at octets headers head.headers
  pub body_is : r.body.items ≡ []
