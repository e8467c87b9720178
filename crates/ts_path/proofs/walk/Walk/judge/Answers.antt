-- The conditions up to that on the valid policy tree.
use Rattle.std.proofs.Common.{◌≡◌, false, List, ◌∷◌, refl, sym, ap, subst, ◌∙◌}
use Rattle.std.proofs.lemmas.Bool.{false≢true}
use Rattle.ts_policy.specs.Paths.{CertPolicies, MapsNoAny}
use Rattle.ts_policy.specs.Seen.{Seen, InPaths}
use Rattle.ts_path.specs.Conditions.{Meets}
use Rattle.ts_reason.specs.Conditions.{policy_required}
use Rattle.ts_path.proofs.Steps.{next}
use Rattle.ts_path.proofs.walk.Walk.judge.Goals as goal

took : (old : List CertPolicies) (c d : CertPolicies) (p : Seen) → c ≡ d → p ≡ record { certificates = c ∷ old; mapped = false } → p ≡ record { certificates = d ∷ old; mapped = false }
took old c d p same e = e ∙ ap (λ (x : CertPolicies). record { certificates = x ∷ old; mapped = false }) same

pub returns-then-lacks_policy : goal.returns-then-lacks_policy
unfolding Meets
returns-then-lacks_policy g c =
    let h = c.if-lacks_policy.ensures.0 refl in
    let e = took c.args.self.policies.certificates _ _ _ c.in_ok-stated.ensures c.in_ok-policies.ensures in
    record {
      fails = λ is. is (h.0, λ w t. h.1 w (subst (λ (s : Seen). InPaths s w) (sym e) t));
      first = c.in_default.ensures c.args.self.policies.certificates;
      details = tt;
    }

pub returns : goal.returns
unfolding Meets
returns g c =
    let e = took c.args.self.policies.certificates _ _ _ c.in_ok-stated.ensures c.in_ok-policies.ensures in (
      next _ policy_required (c.in_default.ensures c.args.self.policies.certificates)
          (λ no. false≢true (c.if-lacks_policy.ensures.1 (no.0, λ w p. no.1 w (subst (λ (s : Seen). InPaths s w) e p)))),
      refl,
      e,
      (
        λ no. subst MapsNoAny c.in_ok-stated.ensures (c.maps_any-maps_any.ensures.0 no),
        λ fine. c.maps_any-maps_any.ensures.1 (subst MapsNoAny (sym c.in_ok-stated.ensures) fine),
      ),
    )
