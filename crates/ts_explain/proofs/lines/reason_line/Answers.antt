use Rattle.std.proofs.Common.{◌++◌, ◌∙◌, ap, List, ℕ}
use Rattle.ts_cert.specs.CertView.{cert_in}
use Rattle.ts_explain.specs.Lines.{certificate_words}
use Rattle.ts_explain.proofs.Parts.{two_parts}
use Rattle.ts_explain.proofs.lines.reason_line.Goals as goal

pub returns : goal.returns
returns c =
    let why = c.in_ok-write_why.ensures in
    let before = certificate_words c.args.place c.args.count (cert_in c.args.cert.now) in
    record {
      words = why.0;
      why = why.1;
      line_is = two_parts before _ _ why.0 _ (why.2 ∙ ap (λ (t : List ℕ). t ++ why.0) c.in_ok-line.ensures) c.in_ok-write_section.ensures;
    }
