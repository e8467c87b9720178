use Rattle.std.proofs.Common.{◌≡◌, ◌+◌, ℕ, List, [], ◌++◌, map, drop, get_or, option_map, sym, ap, ◌∙◌, arith}
use Rattle.ts_cert.specs.declared.certificate.Cert.{Cert}
use Rattle.std.proofs.lemmas.List.{append-nil}
use Rattle.ts_cert.specs.CertView.{cert_in}
use Rattle.ts_search.specs.Search.{with_certificate, certificates_at}
use Rattle.ts_search.proofs.Trying.{with_one, get_or_default}
use Rattle.ts_search.proofs.Rows.{map_more}
use Rattle.ts_search.proofs.trial.certificates_at.Goals as goal
use Rattle.ts_search.proofs.trial.certificates_at.Goals.{in-Some+in_ok-push, in_default}

pub loop-place-preserved : goal.loop-place-preserved
loop-place-preserved c =
    let certificates = map cert_in c.args.certificates.now in
    let chain = c.args.chain.now in
    let i = c.loop-place.place-index in
    let place : ℕ = get_or chain i 0 in
    let step : (more : List Cert) → map cert_in more ≡ map cert_in c.loop-place.found.items
    ++ with_certificate (option_map cert_in c.certificate_at.result) [] → map cert_in more
    ++ certificates_at certificates (drop (i + 1) chain) ≡ certificates_at certificates chain =
    λ more m. with_one certificates c.loop-place.found.items more chain i place
    (certificates_at certificates chain) c.certificate_at.result
    (omega (arith, c.loop-place-test.true))
    (get_or_default chain i 0 place (omega (arith, c.loop-place-test.true)))
    c.certificate_at.ensures c.loop-place.invariant m in
    elim c.match-certificate_at.branch [
      | in-Some+in_ok-push w ↦
          step c.match-certificate_at.found.items
          (ap (λ f. map cert_in f.items) w.found-is
          ∙ (ap (map cert_in) w.in_ok-push.ensures.items
          ∙ (map_more cert_in c.loop-place.found.items w.in-Some.cert
          ∙ ap (λ o. map cert_in c.loop-place.found.items
          ++ with_certificate (option_map cert_in o) []) (sym w.in-Some.is))))
      | in_default w ↦ step c.match-certificate_at.found.items
          (ap (λ f. map cert_in f.items) w.found-is
          ∙ (sym (append-nil (map cert_in c.loop-place.found.items))
          ∙ ap (λ o. map cert_in c.loop-place.found.items
          ++ with_certificate (option_map cert_in o) []) (sym w.in_default.is)))
    ]
