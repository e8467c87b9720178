-- The verdict is that of validation, on the certificates at the places of the chain by names.
use Rattle.std.proofs.Common.{◌∙◌, ℕ, List, map, length, ap, arith, subst, sym}
use Rattle.std.proofs.lemmas.List.{length-map}
use Rattle.ts_cert.specs.declared.certificate.Cert.{Cert}
use Rattle.ts_cert.specs.CertView.{cert_in}
use Rattle.ts_cert.specs.Certificate.{Certificate}
use Rattle.ts_path.specs.View.{anchor_in, asked_under}
use Rattle.ts_path.specs.Verdict.{IsVerdict}
use Rattle.ts_search.specs.Search.{certificates_at, question}
use Rattle.ts_verify.specs.Lines.{IsAnchorPlace}
use Rattle.ts_verify.proofs.Named.{few_at}
use Rattle.ts_verify.proofs.Places.{at_place, or_first}
use Rattle.ts_verify.proofs.judging.explain.Goals as goal

pub validate-requires-clause-few : goal.validate-requires-clause-few
validate-requires-clause-few g c =
    let certs = map cert_in c.args.certificates.now in
    let places = c.in_ok-line.line.places.items in
    let chain_is = c.in_ok-chain.ensures ∙ ap (λ (ps : List ℕ). certificates_at certs ps) c.deref.ensures.value in
    omega (
      arith,
      ap (λ (cs : List Cert). length cs) c.deref-2.ensures.value,
      length-map c.in_ok-chain.chain.items cert_in,
      ap (λ (cs : List Certificate). length cs) chain_is,
      few_at certs places,
      c.in_ok-line.ensures.line.few,
    )

pub returns : goal.returns
returns g c =
    let good = g.S.SignatureCheck.accepts c.args.check.now in
    let anchors = c.args.anchors.now in
    let certs = map cert_in c.args.certificates.now in
    let asked = asked_under c.args.inputs.now c.args.crls.now good in
    let a = c.index-anchors-place.result in
    let places = c.in_ok-line.line.places.items in
    let line = c.in_ok-line.ensures.line in
    let within = or_first c.in_ok-line.line.anchor (length anchors) c.requires.anchored c.in_ok-line.ensures.within in
    record {
      anchor = anchor_in a;
      anchor_is = at_place anchor_in anchors c.unwrap_or-place.result a
          (rw c.unwrap_or-place.ensures within) c.index-anchors-place.is;
      line = record {
        places = places;
        climbs = line.climbs;
        has_top = line.has_top;
        few = line.few;
        under = subst (λ (n : ℕ). IsAnchorPlace good (map anchor_in anchors) certs places n) (sym c.unwrap_or-place.ensures) line.under;
        chain_is = c.in_ok-chain.ensures ∙ ap (λ (ps : List ℕ). certificates_at certs ps) c.deref.ensures.value;
      };
      verdict_is = subst
          (λ (cs : List Cert). IsVerdict (question asked (map cert_in cs) (anchor_in a)) c.in_ok-verdict.verdict)
          c.deref-2.ensures.value c.in_ok-verdict.ensures;
    }
