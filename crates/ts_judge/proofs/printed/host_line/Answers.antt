use Rattle.std.proofs.Common.{◌≡◌, ◌-◌, ◌++◌, ◌∙◌, ap, arith, length, List, ℕ}
use Rattle.std.specs.Prelude.{codes}
use Rattle.ts_cert.specs.CertView.{cert_in}
use Rattle.ts_judge.proofs.Beginning.{at_place}
use Rattle.ts_judge.specs.Explained.{host_words}
use Rattle.ts_judge.proofs.printed.host_line.Goals as goal

pub returns : goal.returns
returns c =
    let chain = c.args.report.now.chain.items in
    let count = length c.as_slice-chain.result.now in
    let long = ap length c.as_slice-chain.ensures.value in
    let words = codes "has no name of this host in its subjectAltName (RFC 9525 6)" in
    at_place chain c.as_slice-chain.result.now (count - 1) (length chain) c.in-Some.cert.now
    (λ d. c.text.new.self ≡ host_words (length chain) d)
    c.as_slice-chain.ensures.value (ap (λ (n : ℕ). n - 1) long)
    (λ other. c.in-Some.ensures.item.4 (omega arith) other)
    (c.in_ok-text.ensures
    ∙ (ap (λ (t : List ℕ). t ++ words) c.in_ok-line.ensures
    ∙ ap (λ (n : ℕ). host_words n (cert_in c.in-Some.cert.now)) long))
