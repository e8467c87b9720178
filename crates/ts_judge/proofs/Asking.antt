-- What is asked, and what the options say.
use Rattle.std.proofs.Common.{◌≡◌, ◌∙◌, ℕ, Bool, List, map, Option, subst}
use Rattle.ts_cert.specs.Certificate.{Certificate}
use Rattle.ts_check.specs.Native.{native_accepts}
use Rattle.ts_crl.specs.ListView.{crl_in}
use Rattle.ts_verify.specs.declared.host.Host.{Host}
use Rattle.ts_path.specs.Asked.{TrustAnchor, ValidationInputs}
use Rattle.ts_path.specs.View.{asked_under}
use Rattle.ts_path.specs.declared.inputs.Inputs.{Inputs}
use Rattle.ts_revoke.specs.declared.crls.Crls.{Crls}
use Rattle.ts_verify.specs.Report.{IsReport, search_with}
use Rattle.ts_verify.specs.declared.report.Report.{Report}
use Rattle.ts_cert.specs.CertView.{cert_in, certificate_in}
use Rattle.ts_crl.specs.List.{CertificateList}
use Rattle.ts_path.specs.View.{anchor_in}
use Rattle.std.specs.Prelude.{option_map, length}
use Rattle.ts_given.specs.Given.{octets_of}
use Rattle.ts_judge.specs.Given.{anchors_of, asked_of, asked_with, is_hard}
use Rattle.ts_judge.specs.Judgement.{IsJudgement}
use Rattle.ts_judge.specs.declared.given.GivenChain.{GivenChain}
use Rattle.ts_judge.specs.declared.judging.Judgement.{Judgement}
use Rattle.ts_judge.specs.declared.reading.Views.{Views}
use Rattle.ts_judge.specs.declared.given.VerifyOptions.{VerifyOptions}
use Rattle.ts_judge.specs.inside.Views.{AreInputs, AreViews}

abbrev IsFor : Option Host → Report → (List TrustAnchor × (TrustAnchor → ValidationInputs) × List Certificate) → Type 0
IsFor host report t = IsReport (search_with t.0 t.1) t.2 host report

pub same_report : (inputs : Inputs) (crls : Crls) (options : VerifyOptions) (hard : Bool) (purpose : Option (List ℕ)) (policies held_policies : List (List ℕ))
    (anchors held_anchors : List TrustAnchor) (certificates held_certificates : List Certificate) (lists deltas : List CertificateList) (host : Option Host) (report : Report)
    → AreInputs options hard purpose policies inputs → policies ≡ held_policies → anchors ≡ held_anchors → certificates ≡ held_certificates
    → map crl_in crls.lists.now ≡ lists → map crl_in crls.deltas.now ≡ deltas
    → IsReport (search_with anchors (asked_under inputs crls native_accepts)) certificates host report
    → IsReport (search_with held_anchors (asked_with options purpose held_policies hard lists deltas)) held_certificates host report
same_report inputs crls options hard purpose policies held_policies anchors held_anchors certificates held_certificates lists deltas host report are ps an cs ls ds is =
    let asked : asked_under inputs crls native_accepts ≡ asked_with options purpose held_policies hard lists deltas
    = (λ i x. are crls x i) ∙ (λ i. asked_with options purpose (ps i) hard (ls i) (ds i)) in
    subst (IsFor host report) (λ i. (an i, asked i, cs i)) is

-- what is judged, by parts
record Parts : Type 0 where
  anchors : List TrustAnchor
  certificates : List Certificate
  purpose : Option (List ℕ)
  policies : List (List ℕ)
  hard : Bool
  lists : List CertificateList
  deltas : List CertificateList

abbrev IsOn : VerifyOptions → Option Host → Bool → Judgement → Parts → Type 0
IsOn options host json j p = IsJudgement p.anchors (asked_with options p.purpose p.policies p.hard p.lists p.deltas) p.certificates host json j

pub judged : (given : GivenChain) (options : VerifyOptions) (views : Views) (hard : Bool) (host : Option Host) (json : Bool) (j : Judgement)
    → AreViews given views → hard ≡ is_hard options (length given.crls.items)
    → IsJudgement (map anchor_in views.anchors.items)
    (asked_with options (option_map (λ p. p.now) views.purpose) (map (λ p. p.content.now) views.policies.items) hard (map crl_in views.crls.lists.items) (map crl_in views.crls.deltas.items))
    (map cert_in views.certificates.items) host json j
    → IsJudgement (anchors_of (octets_of given.anchors.items)) (asked_of given options) (map certificate_in (octets_of given.certificates.items)) host json j
judged given options views hard host json j are is on =
    subst (IsOn options host json j) (λ i. record {
      anchors = are.anchors i;
      certificates = are.certificates i;
      purpose = are.purpose i;
      policies = are.policies i;
      hard = is i;
      lists = are.lists i;
      deltas = are.deltas i;
    }) on
