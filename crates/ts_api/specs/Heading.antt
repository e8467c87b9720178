-- The line and the header fields of a response (RFC 9110 15, RFC 9111 5.2.2).
use Rattle.std.specs.Prelude.{◌==◌, ◌++◌, ℕ, List, [], ◌∷◌, Option, Some, None, codes}
use Rattle.std.specs.Prelude.{if◌then◌else◌}
use Rattle.http1.specs.Fields.{Header}
use Rattle.ts_api.specs.declared.response.Content.{Content}
use Rattle.ts_api.specs.declared.response.Content.TheVariants as contents
use Rattle.ts_api.specs.declared.response.Keeps.{Keeps}
use Rattle.ts_api.specs.declared.response.Keeps.TheVariants.{Never, Hour, Always}
use Rattle.ts_api.specs.declared.response.Response.{Response}
use Rattle.ts_api.specs.declared.route.Methods.{Methods}
use Rattle.ts_api.specs.declared.route.Methods.TheVariants.{Get, Post, Both}

-- the reason phrase of a status (RFC 9110 15)
abbrev pub phrase_of : ℕ → List ℕ
phrase_of status =
    if status == 200 then codes "OK"
    else (if status == 202 then codes "Accepted"
    else (if status == 400 then codes "Bad Request"
    else (if status == 401 then codes "Unauthorized"
    else (if status == 403 then codes "Forbidden"
    else (if status == 404 then codes "Not Found"
    else (if status == 405 then codes "Method Not Allowed"
    else (if status == 413 then codes "Content Too Large"
    else (if status == 414 then codes "URI Too Long"
    else (if status == 431 then codes "Request Header Fields Too Large"
    else (if status == 501 then codes "Not Implemented"
    else (if status == 503 then codes "Service Unavailable" else codes "Error")))))))))))

-- the media type of a body
abbrev pub media_type : Content → List ℕ
media_type contents.Text = codes "text/plain; charset=utf-8"
media_type contents.Json = codes "application/json"
media_type contents.Html = codes "text/html; charset=utf-8"
media_type contents.Css = codes "text/css; charset=utf-8"
media_type contents.JavaScript = codes "text/javascript; charset=utf-8"
media_type contents.Metrics = codes "text/plain; version=0.0.4; charset=utf-8"

-- the value of Cache-Control (RFC 9111 5.2.2, RFC 8246)
abbrev pub control_of : Keeps → List ℕ
control_of Never = codes "no-store"
control_of Hour = codes "max-age=3600"
control_of Always = codes "public, max-age=31536000, immutable"

-- the value of Allow (RFC 9110 10.2.1)
abbrev pub allow_of : Methods → List ℕ
allow_of Get = codes "GET, HEAD"
allow_of Post = codes "POST"
allow_of Both = codes "GET, HEAD, POST"

-- what a page may load and do (CSP Level 3): its own style, script and forms
abbrev pub page_policy : List ℕ
page_policy = codes "default-src 'none'; style-src 'self'; script-src 'self'; "
    ++ codes "form-action 'self'; base-uri 'none'; frame-ancestors 'none'"

-- the methods of a path that was asked for by another one
abbrev pub allow_fields : Option Methods → List Header
allow_fields None = []
allow_fields (Some methods) = (codes "allow", allow_of methods) ∷ []

-- a field that goes with a status: how to show a key (RFC 9110 11.6.1), when to ask again (10.2.3)
abbrev pub status_fields : ℕ → List Header
status_fields status =
    if status == 401 then (codes "www-authenticate", codes "Bearer") ∷ []
    else (if status == 503 then (codes "retry-after", codes "1") ∷ [] else [])

abbrev pub headers_of : Response → List Header
headers_of r =
    (codes "content-type", media_type r.content) ∷ (codes "cache-control", control_of r.keeps)
    ∷ (codes "content-security-policy", page_policy)
    ∷ (codes "x-content-type-options", codes "nosniff")
    ∷ (codes "referrer-policy", codes "no-referrer")
    ∷ (allow_fields r.allow ++ status_fields r.status)
