use Rattle.std.proofs.Common.{◌≡◌, ◌∙◌, List, length, map, sym, ap, subst}
use Rattle.ts_cert.specs.Certificate.{Certificate}
use Rattle.ts_cert.specs.CertView.{cert_in}
use Rattle.ts_path.specs.Verdict.{HoldsAt}
use Rattle.ts_reason.specs.View.{condition_of}
use Rattle.ts_path.specs.View.{anchor_in, asked_under}
use Rattle.ts_search.specs.inside.Dead.{AreDead, IsDead}
use Rattle.ts_search.specs.Search.{certificates_at, question}
use Rattle.ts_search.proofs.DeadFronts.{front-is-dead}
use Rattle.ts_search.proofs.Rows.{map_more}
use Rattle.ts_search.proofs.Takes.{length_map}
use Rattle.ts_search.proofs.Trying.{all_more}
use Rattle.ts_search.proofs.trial.Trial.learn.Goals as goal

pub returns-in_ok-push : goal.returns-in_ok-push
returns-in_ok-push g c =
    let trial = c.args.self.now in
    let asked = asked_under trial.inputs.now trial.crls.now (g.S.SignatureCheck.accepts trial.check.now) in
    let certificates = map cert_in trial.certificates.now in
    let anchor = anchor_in c.args.anchor.now in
    let places = c.args.places.now in
    let k = condition_of c.args.reason.now in
    let each : length (certificates_at certificates places) ≡ length places = sym (ap length c.requires.at) ∙ (length_map cert_in c.args.chain.now ∙ c.if-chain-places.true) in
    let P : List Certificate → Type 0 = λ chain. ¬ (HoldsAt k (question asked chain anchor) c.args.position) in
    let dead = front-is-dead asked certificates anchor places c.args.position k (c.is_of_front.ensures.0 c.if-is_of_front.true) each (subst P c.requires.at c.requires.verdict.0.fails) in
    let here = subst (IsDead asked certificates anchor) (sym c.in_ok-front_of.ensures) dead in
    subst (AreDead asked certificates anchor) (sym (ap (map (λ f. f.items)) c.in_ok-push.ensures.items ∙ map_more (λ f. f.items) c.args.fronts.now.items c.in_ok-front_of.field-0))
    (all_more (IsDead asked certificates anchor) (map (λ f. f.items) c.args.fronts.now.items) c.in_ok-front_of.field-0.items c.requires.dead here)
