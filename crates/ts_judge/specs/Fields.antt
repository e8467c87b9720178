-- The fields of a report, of which JSON is made.
use Rattle.std.specs.Prelude.{◌≡◌, ℕ, Bool, true, false, List, [], Option, Some, None, map}
use Rattle.std.specs.Prelude.{option_map, string_bytes, codes, length}
use Rattle.serde_json.specs.Written.{compact_text}
use Rattle.ts_json.specs.Object.{object_in}
use Rattle.ts_json.specs.declared.verdict.VerdictFields.{VerdictFields}
use Rattle.ts_reason.specs.Printed.{reason_text}
use Rattle.ts_reason.specs.View as reasons
use Rattle.ts_explain.specs.Sections.{section}
use Rattle.ts_judge.specs.Explained.{Explains, IsSubject, place_in}
use Rattle.ts_line.specs.Names.{dotted_form, name_text}
use Rattle.ts_name.specs.NameView.{rdns_in}
use Rattle.ts_verify.specs.declared.report.Finding.{Finding}
use Rattle.ts_verify.specs.declared.report.Finding.TheVariants.{Valid, Invalid, OtherHost}
use Rattle.ts_verify.specs.declared.report.Report.{Report}

-- ---- what a finding gives

abbrev pub is_valid : Finding → Bool
is_valid (Valid policies) = true
is_valid (Invalid position reason) = false
is_valid OtherHost = false

abbrev pub reason_in : Finding → Option (List ℕ)
reason_in (Valid policies) = None
reason_in (Invalid position reason) = Some (reason_text (reasons.reason_in reason))
reason_in OtherHost = Some (codes "Host")

abbrev pub section_in : Finding → Option (List ℕ)
section_in (Valid policies) = None
section_in (Invalid position reason) = Some (section reason)
section_in OtherHost = Some (codes "9525 6")

-- the accepted policies in dotted form
abbrev pub policies_in : Finding → List (List ℕ)
policies_in (Valid policies) = map dotted_form (map (λ p. p.content.now) policies.items)
policies_in (Invalid position reason) = []
policies_in OtherHost = []

-- the fields say the report
pub record AreFields (report : Report) (fields : VerdictFields) : Type 0 where
  pub valid : fields.valid ≡ is_valid report.finding
  pub position : fields.position ≡ place_in (length report.chain.items) report.finding
  pub of : fields.of ≡ length report.chain.items
  pub reason : option_map string_bytes fields.reason ≡ reason_in report.finding
  pub section_is : option_map string_bytes fields.section ≡ section_in report.finding
  pub subject : IsSubject report (place_in (length report.chain.items) report.finding)
      (option_map string_bytes fields.subject)
  pub explanation : Explains report report.finding (string_bytes fields.explanation)
  pub policies : map string_bytes fields.policies.items ≡ policies_in report.finding
  pub anchor : string_bytes fields.anchor ≡ name_text (rdns_in report.anchor.name)
  pub revocation_checked : fields.revocation_checked ≡ report.has_lists

-- the text of the object that has these fields
pub record IsJson (report : Report) (text : List ℕ) : Type 0 where
  pub fields : VerdictFields
  pub are : AreFields report fields
  pub text_is : text ≡ compact_text (object_in fields)
