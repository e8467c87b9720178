-- The report on what is judged.
use Rattle.std.proofs.Common.{◌≡◌, ◌∙◌, ◌==◌, ◌||◌, ◌-◌, Bool, not, List, arith, sym, ap, subst, length, map, take, drop}
use Rattle.std.proofs.lemmas.List.{length-map}
use Rattle.std.proofs.lemmas.Option.{slice_get_within}
use Rattle.ts_cert.specs.CertView.{cert_in}
use Rattle.ts_cert.specs.declared.certificate.Cert.{Cert}
use Rattle.ts_path.specs.View.{anchor_in}
use Rattle.ts_verify.specs.Report.{Says}
use Rattle.ts_verify.proofs.Places.{any_in_either, at_place, front_is}
use Rattle.ts_verify.proofs.verifying.report_on.Goals as goal
use Rattle.ts_verify.proofs.verifying.report_on.Goals.{then-not-is_empty, else-not-is_empty}

pub returns : goal.returns
returns g c =
    let certs = c.args.certificates.now in
    let anchors = c.args.anchors.now in
    let place = c.in_ok-place.field-0.place in
    let judged = c.in_ok-place.ensures in
    let few = slice_get_within (map anchor_in anchors) place judged.anchor judged.anchor_is in
    let lists = c.args.crls.now.lists.now in
    let deltas = c.args.crls.now.deltas.now in
    let is : c.if-not-is_empty.result ≡ (not (length lists == 0) || not (length deltas == 0)) =
    elim c.if-not-is_empty.branch [
      | then-not-is_empty w ↦ w.result-is ∙ ap not w.if-not-is_empty.true ∙ sym (ap (λ (b : Bool). b || not (length deltas == 0)) (ap not (sym c.is_empty.ensures) ∙ ap not w.if-not-is_empty.true))
      | else-not-is_empty w ↦ w.result-is ∙ ap not w.is_empty-else-not-is_empty.ensures
          ∙ sym (ap (λ (b : Bool). b || not (length deltas == 0)) (ap not (sym c.is_empty.ensures) ∙ ap not w.if-not-is_empty.false))
    ] in
    record {
      verdict = c.in_ok-place.field-0.verdict;
      judged = judged;
      says = subst (λ (cs : List Cert). Says c.args.host (map cert_in cs) c.in_ok-place.field-0.verdict c.finding_of.result)
          (front_is certs c.index-certificates-0.result c.requires.some c.index-certificates-0.is)
          (c.finding_of.ensures (map cert_in (take (length certs - 1) (drop 1 certs))));
      anchor_is = at_place anchor_in anchors place c.index-anchors-place.result (omega (arith, few, length-map anchors anchor_in)) c.index-anchors-place.is;
      lists_are = λ anchor. any_in_either _ lists deltas c.if-not-is_empty.result is;
    }
