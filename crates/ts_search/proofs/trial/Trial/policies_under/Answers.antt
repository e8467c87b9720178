use Rattle.std.proofs.Common.{◌∷◌, ◌∙◌, List, ℕ, map, drop, ap, sym, arith, true≢false, drop-cons, subst}
use Rattle.ts_cert.specs.CertView.{cert_in}
use Rattle.ts_cert.specs.Certificate.{Certificate}
use Rattle.ts_path.specs.View.{anchor_in, asked_under}
use Rattle.ts_search.specs.inside.Dead.{BeginsWithOne}
use Rattle.ts_search.specs.Search.{question, IsValidChain}
use Rattle.ts_search.proofs.DeadFronts.{dead-front}
use Rattle.ts_search.proofs.Passing.{other-issuer}
use Rattle.ts_search.proofs.trial.Trial.policies_under.Goals as goal
use Rattle.ts_search.proofs.trial.Trial.policies_under.Goals.{then-not-is_issuer-via-then-not-is_issuer, then-not-is_issuer-via-else-not-is_issuer+then-has_front}

pub returns-then-not-is_issuer-clause-found : goal.returns-then-not-is_issuer-clause-found
returns-then-not-is_issuer-clause-found g c =
    let trial = c.args.self.now in
    let asked = asked_under trial.inputs.now trial.crls.now (g.S.SignatureCheck.accepts trial.check.now) in
    let certificates = map cert_in trial.certificates.now in
    let anchor = anchor_in c.args.anchor.now in
    let chain = c.args.chain.now in
    let places = c.args.places.now in
    let first = c.index-chain-0.result in
    let begins = drop-cons chain 0 first (omega (arith, c.requires.some)) ∙ ap (λ x. x ∷ drop 1 chain) (sym c.index-chain-0.is) in
    let P : List Certificate → Type 0 = λ certs. ¬ (IsValidChain (question asked certs anchor)) in
    elim c.then-not-is_issuer.branch [
      | then-not-is_issuer-via-then-not-is_issuer w ↦
          other-issuer (asked anchor) (map cert_in chain) (map cert_in (drop 1 chain))
          (cert_in first) (ap (map cert_in) begins)
          (λ same. true≢false (sym (c.is_issuer.ensures.1 same) ∙ w.if-not-is_issuer.true))
      | then-not-is_issuer-via-else-not-is_issuer+then-has_front w ↦
          (let found = w.has_front.ensures w.if-has_front.true in
          let F : List (List ℕ) → Type 0 = λ fronts. BeginsWithOne fronts places in
          subst P (sym c.requires.at)
          (dead-front asked certificates anchor (map (λ f. f.items) c.args.fronts.now.items) places
          c.requires.dead (subst F (ap (map (λ f. f.items)) w.deref.ensures.value) found)))
    ]
