-- The head, the body, and the end.
use Rattle.std.proofs.Common.{length, refl, rules}
use Rattle.http1.specs.declared.conn.BodySize.TheVariants.{Known}
use Rattle.ts_http.proofs.Responses.{not_refused, with_body}
use Rattle.ts_http.proofs.writing.whole.Goals as goal

pub returns : goal.returns
returns c =
    with_body _ _ c.as_bytes.result.now _ _ _ (Known (length c.args.body.now)) refl c.as_bytes.ensures.value
    c.new-out.result.items c.write_response.new.output.items c.write_data.new.output.items c.write_end.new.output.items c.write_response.new.self c.write_data.new.self c.write_end.new.self
    (search rules) c.new-out.ensures.items
    (not_refused _ _ _ c.write_response.result c.write_response.ensures.outcome (search rules)) c.in_ok-write_response.ensures.ok c.in_ok-write_response.ensures.next
    (not_refused _ _ _ c.write_data.result c.write_data.ensures.outcome (search rules)) c.in_ok-write_data.ensures.ok c.in_ok-write_data.ensures.counted
    (not_refused _ _ _ c.write_end.result c.write_end.ensures.outcome (search rules)) c.in_ok-write_end.ensures.ok c.in_ok-write_end.ensures.done
