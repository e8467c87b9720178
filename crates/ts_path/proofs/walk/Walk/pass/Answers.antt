-- A certificate that is not the last.
use Rattle.std.proofs.Common.{◌≡◌, Bool, true, false, List, Option, Some, None, refl, sym, ap, subst, ◌∙◌}
use Rattle.std.proofs.lemmas.Bool.{false≢true}
use Rattle.ts_cert.specs.Certificate.{Certificate}
use Rattle.ts_cert.specs.CertView.{cert_in}
use Rattle.ts_policy.specs.Paths.{CertPolicies, MapsNoAny, LatestMapsNoAny}
use Rattle.ts_policy.specs.Seen.{Seen}
use Rattle.ts_der.specs.declared.oid.OidRef.{OidRef}
use Rattle.ts_reason.specs.declared.reason.Reason.{Reason}
use Rattle.ts_path.specs.Asked.{ValidationInputs}
use Rattle.ts_path.specs.Conditions.{Site, Meets}
use Rattle.ts_reason.specs.Conditions.{maps_any, final_policy, purpose}
use Rattle.ts_path.specs.inside.Context.{asked_by}
use Rattle.ts_path.specs.inside.Judging.{MeetsBelow, FindsBelow, IsJudged, Took, state_after}
use Rattle.ts_path.specs.State.{PathState, policies_at}
use Rattle.ts_path.specs.View.{at}
use Rattle.ts_path.proofs.Steps.{next}
use Rattle.ts_path.proofs.walk.Walk.pass.Goals as goal

-- what was found of a state that is this one
found : (asked : ValidationInputs) (s t : PathState) (above : List CertPolicies) (c : Certificate) (r : Option (Reason OidRef)) → t ≡ s
    → ((asked : ValidationInputs) (above : List CertPolicies) → MeetsBelow 13 (at asked t above c false) → FindsBelow 16 (at asked t above c false) r)
    → MeetsBelow 13 (at asked s above c false) → FindsBelow 16 (at asked s above c false) r
found asked s t above c r same h = subst (λ (u : PathState). MeetsBelow 13 (at asked u above c false) → FindsBelow 16 (at asked u above c false) r) same (h asked above)

-- the condition on mappings
maps_none : (x : Site) → MeetsBelow 12 x → Meets maps_any x → MeetsBelow 13 x
maps_none x before is = next x maps_any before is

-- the last two conditions are on the last certificate
to_the_end : (x : Site) → x.last ≡ false → MeetsBelow 17 x → MeetsBelow 19 x
unfolding Meets
to_the_end x not_last before = next x purpose (next x final_policy before (λ last. absurd (false≢true (sym not_last ∙ last)))) (λ last. absurd (false≢true (sym not_last ∙ last)))

true_not : (b : Bool) → b ≡ true → b ≡ false → ⊥
true_not b is is_not = false≢true (sym is_not ∙ is)

pub returns-then-met : goal.returns-then-met
unfolding Meets
returns-then-met g c =
    let x = at (asked_by g.S.SignatureCheck.accepts c.args.context.now) c.args.self.state c.args.self.policies.certificates (cert_in c.args.cert.now) false in
    let j = subst (IsJudged x) c.in-Met.is c.in_ok-met.ensures in
    record { fails = λ is. true_not _ c.if-met.true (j.3.1 (is refl)); first = j.0; details = tt }

pub returns-in-Some : goal.returns-in-Some
unfolding Meets
returns-in-Some g c =
    let x = at (asked_by g.S.SignatureCheck.accepts c.args.context.now) c.args.self.state c.args.self.policies.certificates (cert_in c.args.cert.now) false in
    let j = subst (IsJudged x) c.in-Met.is c.in_ok-met.ensures in
    found x.asked x.state _ x.policies_above x.certificate (Some c.in-Some.reason) j.1 c.in-Some.ensures (next x maps_any j.0 (λ _. j.3.0 c.if-met.false))

-- the mappings that the policies have taken
latest : (x : Site) (p : Seen) → Took p false x → MapsNoAny (policies_at x.state x.certificate x.last) → LatestMapsNoAny p.certificates
latest x p took fine = subst (λ (s : Seen). LatestMapsNoAny s.certificates) (sym took) fine

mapped : (x : Site) (p r : Seen) → Took p false x → r ≡ record { certificates = p.certificates; mapped = true } → Took r true x
mapped x p r took is = is ∙ ap (λ (s : Seen). record { certificates = s.certificates; mapped = true }) took

pub returns-in-Some-first_of_extensions : goal.returns-in-Some-first_of_extensions
unfolding Meets
returns-in-Some-first_of_extensions g c =
    let x = at (asked_by g.S.SignatureCheck.accepts c.args.context.now) c.args.self.state c.args.self.policies.certificates (cert_in c.args.cert.now) false in
    let j = subst (IsJudged x) c.in-Met.is c.in_ok-met.ensures in
    let before = found x.asked x.state _ x.policies_above x.certificate None j.1 c.in_default.ensures (next x maps_any j.0 (λ _. j.3.0 c.if-met.false)) in
    c.in-Some-first_of_extensions.ensures x refl before

pub map-requires-clause-fine : goal.map-requires-clause-fine
map-requires-clause-fine g c =
    let x = at (asked_by g.S.SignatureCheck.accepts c.args.context.now) c.args.self.state c.args.self.policies.certificates (cert_in c.args.cert.now) false in
    let j = subst (IsJudged x) c.in-Met.is c.in_ok-met.ensures in
    latest x _ j.2 (j.3.0 c.if-met.false)

pub returns : goal.returns
unfolding Meets
returns g c =
    let x = at (asked_by g.S.SignatureCheck.accepts c.args.context.now) c.args.self.state c.args.self.policies.certificates (cert_in c.args.cert.now) false in
    let j = subst (IsJudged x) c.in-Met.is c.in_ok-met.ensures in
    let before = found x.asked x.state _ x.policies_above x.certificate None j.1 c.in_default.ensures (next x maps_any j.0 (λ _. j.3.0 c.if-met.false)) in (
      to_the_end x refl (c.in_default-first_of_extensions.ensures x refl before),
      c.in_ok-advance.ensures ∙ ap (λ (s : PathState). state_after s (cert_in c.args.cert.now)) j.1,
      mapped x _ _ j.2 c.in_ok-policies.ensures,
    )
