-- The line on a certificate is the one of its place, by whether its issuer is no trust anchor.
use Rattle.std.proofs.Common.{◌++◌, ◌∙◌, ap, arith, length, List, ℕ, subst, sym, true≢false}
use Rattle.std.proofs.lemmas.Result.{IfOk-weaker}
use Rattle.ts_cert.specs.CertView.{cert_in}
use Rattle.ts_explain.specs.Lines.{IsReasonLine, certificate_words, no_anchor_words}
use Rattle.ts_judge.proofs.Beginning.{at_place}
use Rattle.ts_judge.specs.Explained.{IsInvalidLine}
use Rattle.ts_judge.proofs.printed.invalid_line.Goals as goal

pub returns-then-not-is_under_no_anchor : goal.returns-then-not-is_under_no_anchor
returns-then-not-is_under_no_anchor c =
    IfOk-weaker c.reason_line.result _ _
    (λ line is.
    at_place c.args.report.now.chain.items c.as_slice-chain.result.now c.saturating_sub.result c.args.position c.in-Some.cert.now
    (IsInvalidLine c.args.report.now c.args.position c.args.reason.now line)
    c.as_slice-chain.ensures.value c.saturating_sub.ensures
    (λ other. c.in-Some.ensures.lookup.4 (omega arith) other)
    (record {
      no_anchor = λ under. absurd (true≢false (sym (c.is_under_no_anchor.ensures.1 under) ∙ c.if-not-is_under_no_anchor.true));
      condition = λ other. subst (λ (n : ℕ). IsReasonLine c.args.position n (cert_in c.in-Some.cert.now) c.args.reason.now line) (ap length c.as_slice-chain.ensures.value) is;
    }))
    c.reason_line.ensures

pub returns : goal.returns
returns c =
    at_place c.args.report.now.chain.items c.as_slice-chain.result.now c.saturating_sub.result c.args.position c.in-Some.cert.now
    (IsInvalidLine c.args.report.now c.args.position c.args.reason.now c.write_no_anchor.new.line)
    c.as_slice-chain.ensures.value c.saturating_sub.ensures
    (λ other. c.in-Some.ensures.lookup.4 (omega arith) other)
    (record {
      no_anchor = λ under.
          c.in_ok-write_no_anchor.ensures
          ∙ (ap (λ (t : List ℕ). t ++ no_anchor_words (cert_in c.in-Some.cert.now)) c.in_ok-line.ensures
          ∙ ap (λ (n : ℕ). certificate_words c.args.position n (cert_in c.in-Some.cert.now) ++ no_anchor_words (cert_in c.in-Some.cert.now)) (ap length c.as_slice-chain.ensures.value));
      condition = λ other. absurd (other (c.is_under_no_anchor.ensures.0 c.if-not-is_under_no_anchor.false));
    })
