-- A response that was written whole is one by the plan.
use Rattle.std.proofs.Common.{◌≡◌, ◌∙◌, ◌<◌, ◌^◌, ◌++◌, refl, sym, ap, subst, ℕ, Bool, true, false, List, [], ◌∷◌, length, Result, Ok, Err, is_ok, Option, Some, None, append_assoc}
use Rattle.http1.specs.declared.conn.BodySize.{BodySize}
use Rattle.http1.specs.declared.conn.BodySize.TheVariants.{Known}
use Rattle.http1.specs.declared.conn.Writing.{Writing}
use Rattle.http1.specs.declared.conn.Writing.TheVariants as Writes
use Rattle.http1.specs.declared.error.WriteError.{WriteError}
use Rattle.http1.specs.declared.server.Server.{Server}
use Rattle.http1.specs.Conn.{Plan, plan_refusal, planned_headers, data_refusal, data_text, after_data, finish_refusal, finish_text}
use Rattle.http1.specs.Encoder.{AreAccepted, after_piece, body_text, encoder_for, end_refusal, piece_refusal}
use Rattle.http1.specs.Fields.{Header}
use Rattle.http1.specs.Head.{head_refusal, is_status_line, response_text}
use Rattle.http1.specs.Output.{GivesOrRefuses}
use Rattle.http1.specs.Server.{after_end, after_response, cycle, planned_response, responding, response_plan, response_refusal, with_writing, writing}
use Rattle.ts_http.specs.Writing.{IsWritten, after_writing, pieces_of}

-- what succeeded was not refused
pub not_refused : (refusal : Option WriteError) (spare len : ℕ) (r : Result (Unit {0}) WriteError) → GivesOrRefuses refusal spare len r → is_ok r ≡ true → refusal ≡ None
not_refused None spare len r gives ok = refl
not_refused (Some e) spare len r gives ok = cc (sym (ap is_ok gives) ∙ ok)

record Planned (r : Result Plan WriteError) (line : Bool) (headers : List Header) : Type 0 where
  plan : Plan
  is : r ≡ Ok plan
  line_is : head_refusal line (headers ++ plan.extra) ≡ None

has_plan : (r : Result Plan WriteError) (line : Bool) (headers : List Header) → plan_refusal r line headers ≡ None → Planned r line headers
has_plan (Ok plan) line headers none = record { plan = plan; is = refl; line_is = none }
has_plan (Err e) line headers none = cc

-- the server while the body is written
abbrev sending : Server → Plan → Writing → Server
sending s plan w = record s {
  writing = w;
  request = record (s.request) { keep_alive = plan.keep_alive; expects_continue = false };
}

module _ (old : Server) (status : ℕ) (reason phrase : List ℕ) (headers : List Header) (body : List ℕ) (size : BodySize) (sized : size ≡ Known (length body)) (reasoned : reason ≡ phrase) where
  -- the head as it was planned
  head_planned : (p : Planned (response_plan old status size headers)
      (is_status_line old.request.minor status reason) headers) (o0 o1 : List ℕ) → o0 ≡ [] → o1 ≡ o0
      ++ planned_response old status reason size headers
      → o1 ≡ response_text old.request.minor status phrase (headers ++ p.plan.extra)
  head_planned p o0 o1 empty is1 =
      is1 ∙ ap (λ (o : List ℕ). o ++ planned_response old status reason size headers) empty
      ∙ (ap (λ (r : Result Plan WriteError). response_text old.request.minor status reason (planned_headers r headers)) p.is
      ∙ ap (λ (r : List ℕ). response_text old.request.minor status r (headers ++ p.plan.extra)) reasoned)

  is_planned : (p : Planned (response_plan old status size headers) (is_status_line old.request.minor status reason) headers) → response_plan old status (Known (length body)) headers ≡ Ok p.plan
  is_planned p = subst (λ (n : BodySize). response_plan old status n headers ≡ Ok p.plan) sized p.is

  is_line : (p : Planned (response_plan old status size headers)
      (is_status_line old.request.minor status reason) headers)
      → head_refusal (is_status_line old.request.minor status phrase) (headers ++ p.plan.extra) ≡
      None
  is_line p = subst (λ (r : List ℕ). head_refusal (is_status_line old.request.minor status r) (headers ++ p.plan.extra) ≡ None) reasoned p.line_is

  -- with its body
  pub with_body : (o0 o1 o2 o3 : List ℕ) (s1 s2 s3 : Server) → length body < 2 ^ 64
      → o0 ≡ [] → response_refusal old status reason size headers ≡ None → o1 ≡ o0 ++ planned_response old status reason size headers → s1 ≡ after_response old status size headers
      → data_refusal (writing s1) (length body) ≡ None → o2 ≡ o1 ++ data_text (writing s1) body → s2 ≡ with_writing s1 (after_data (writing s1) (length body))
      → finish_refusal (writing s2) [] ≡ None → o3 ≡ o2 ++ finish_text (writing s2) [] → s3 ≡ after_end s2
      → IsWritten old status phrase headers body false o3 s3
  with_body o0 o1 o2 o3 s1 s2 s3 short empty none1 is1 next1 none2 is2 next2 none3 is3 next3 =
      let p = has_plan (response_plan old status size headers) (is_status_line old.request.minor status reason) headers none1 in
      let e = encoder_for p.plan.framing in
      let e2 = after_piece e (length body) in
      let head = response_text old.request.minor status phrase (headers ++ p.plan.extra) in
      let began : s1 ≡ sending old p.plan (Writes.Body e) = next1 ∙ ap (responding old) p.is in
      let w1 : writing s1 ≡ Writes.Body e = ap writing began in
      let sent : s2 ≡ sending old p.plan (Writes.Body e2) =
      next2 ∙ (ap (λ (s : Server). with_writing s (after_data (writing s) (length body))) began) in
      let w2 : writing s2 ≡ Writes.Body e2 = ap writing sent in
      let accepted1 : piece_refusal e (length body) ≡ None = sym (ap (λ (w : Writing). data_refusal w (length body)) w1) ∙ none2 in
      let accepted2 : end_refusal e2 [] ≡ None = sym (ap (λ (w : Writing). finish_refusal w []) w2) ∙ none3 in
      let text1 : o1 ≡ head = head_planned p o0 o1 empty is1 in
      let text3 : o3 ≡ (o1 ++ data_text (Writes.Body e) body) ++ finish_text (Writes.Body e2) [] =
      is3 ∙ (ap (λ (o : List ℕ). o ++ finish_text (writing s2) []) (is2 ∙ ap (λ (w : Writing). o1 ++ data_text w body) w1)
      ∙ ap (λ (w : Writing). (o1 ++ data_text (Writes.Body e) body) ++ finish_text w []) w2) in
      let whole : o3 ≡ head ++ body_text (body ∷ []) e [] =
      text3 ∙ (append_assoc o1 (data_text (Writes.Body e) body) (finish_text (Writes.Body e2) []) ∙ ap (λ (o : List ℕ). o ++ body_text (body ∷ []) e []) text1) in
      record {
        plan = p.plan;
        planned = is_planned p;
        line = is_line p;
        fit = (short, accepted1, accepted2);
        octets_are = whole;
        after = next3 ∙ ap after_end sent;
      }

  -- without its body
  pub without_body : (o0 o1 o3 : List ℕ) (s1 s3 : Server)
      → o0 ≡ [] → response_refusal old status reason size headers ≡ None → o1 ≡ o0 ++ planned_response old status reason size headers → s1 ≡ after_response old status size headers
      → finish_refusal (writing s1) [] ≡ None → o3 ≡ o1 ++ finish_text (writing s1) [] → s3 ≡ after_end s1
      → IsWritten old status phrase headers body true o3 s3
  without_body o0 o1 o3 s1 s3 empty none1 is1 next1 none3 is3 next3 =
      let p = has_plan (response_plan old status size headers) (is_status_line old.request.minor status reason) headers none1 in
      let e = encoder_for p.plan.framing in
      let began : s1 ≡ sending old p.plan (Writes.Body e) = next1 ∙ ap (responding old) p.is in
      let w1 : writing s1 ≡ Writes.Body e = ap writing began in
      let accepted : end_refusal e [] ≡ None = sym (ap (λ (w : Writing). finish_refusal w []) w1) ∙ none3 in
      record {
        plan = p.plan;
        planned = is_planned p;
        line = is_line p;
        fit = accepted;
        octets_are = is3 ∙ (ap (λ (w : Writing). o1 ++ finish_text w []) w1 ∙ ap (λ (o : List ℕ). o ++ body_text [] e []) (head_planned p o0 o1 empty is1));
        after = next3 ∙ ap after_end began;
      }
