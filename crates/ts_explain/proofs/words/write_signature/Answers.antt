use Rattle.std.proofs.Common.{◌++◌, ◌∙◌, sym, ap}
use Rattle.std.specs.Prelude.{codes}
use Rattle.std.proofs.lemmas.Result.{on_ok_weaker}
use Rattle.ts_cert.specs.CertView.{cert_in}
use Rattle.ts_line.specs.Names.{name_text}
use Rattle.ts_sig.specs.Algorithm.{algorithm_named}
use Rattle.ts_explain.specs.Why.{signature_words}
use Rattle.ts_explain.proofs.Parts.{two_parts}
use Rattle.ts_explain.proofs.words.write_signature.Goals as goal

pub returns-in_ok-text-in-Some : goal.returns-in_ok-text-in-Some
returns-in_ok-text-in-Some c =
    on_ok_weaker c.write_name.result
    (λ last.
    two_parts c.args.line.now _ _ _ _ c.in_ok-text-in-Some.ensures last
    ∙ ap (λ w. c.args.line.now ++ w)
    (ap (λ n. codes "is not signed by the key above it, or that key is of a kind not checked here; its issuer is " ++ name_text n) c.issuer.ensures
    ∙ ap (λ a. signature_words a (cert_in c.args.cert.now))
    (sym c.in-Some.is ∙ (c.algorithm_named.ensures ∙ ap (λ a. algorithm_named a.whole) c.signature_algorithm.ensures))))
    c.write_name.ensures

pub returns-in-None : goal.returns-in-None
returns-in-None c =
    on_ok_weaker c.text-in-None.result
    (λ last.
    last
    ∙ ap (λ a. c.args.line.now ++ signature_words a (cert_in c.args.cert.now))
    (sym c.in-None.is ∙ (c.algorithm_named.ensures ∙ ap (λ a. algorithm_named a.whole) c.signature_algorithm.ensures)))
    c.text-in-None.ensures
