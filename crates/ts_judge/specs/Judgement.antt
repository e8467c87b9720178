-- What a verdict without a node is, and how it is printed.
use Rattle.std.specs.Prelude.{◌≡◌, ℕ, Bool, true, false, List, Option}
use Rattle.ts_cert.specs.Certificate.{Certificate}
use Rattle.ts_verify.specs.declared.host.Host.{Host}
use Rattle.ts_path.specs.Asked.{TrustAnchor, ValidationInputs}
use Rattle.ts_judge.specs.Fields.{IsJson, is_valid}
use Rattle.ts_judge.specs.Text.{IsText}
use Rattle.ts_line.specs.Lines.{with_line_feed}
use Rattle.ts_verify.specs.Report.{IsReport, search_with}
use Rattle.ts_verify.specs.declared.report.Report.{Report}
use Rattle.ts_judge.specs.declared.judging.Judgement.{Judgement}

-- two lines, or one JSON object on a line of its own
abbrev pub IsPrinted : Bool → Report → List ℕ → Type 0
IsPrinted false report text = IsText report text
IsPrinted true report text = (object : List ℕ) × IsJson report object
    × (text ≡ with_line_feed object)

-- the text says the report on these certificates, and the flag whether the chain is valid
pub record IsJudgement (anchors : List TrustAnchor) (asked : TrustAnchor → ValidationInputs)
    (certificates : List Certificate) (host : Option Host) (json : Bool) (j : Judgement)
    : Type 0 where
  pub report : Report
  pub report_is : IsReport (search_with anchors asked) certificates host report
  pub valid_is : j.is_valid ≡ is_valid report.finding
  pub printed : IsPrinted json report j.text.items
