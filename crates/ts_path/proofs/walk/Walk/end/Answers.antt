-- The last certificate.
use Rattle.std.proofs.Common.{◌≡◌, ◌↔◌, ℕ, true, false, Option, List, [], ◌∷◌, map, refl, sym, ap, subst, ◌∙◌, inl}
use Rattle.std.proofs.lemmas.Bool.{false≢true}
use Rattle.ts_cert.specs.CertView.{cert_in}
use Rattle.ts_policy.specs.Labels.{Label, In}
use Rattle.ts_policy.specs.Paths.{InT, count}
use Rattle.ts_policy.specs.Accepted.{IsAccepted}
use Rattle.ts_policy.specs.Seen.{Seen}
use Rattle.ts_path.specs.Conditions.{Site, Meets, Accepts, NoneAccepted, final_explicit}
use Rattle.ts_reason.specs.Conditions.{maps_any, not_ca, path_length, key_usage, final_policy, purpose}
use Rattle.ts_path.specs.Extensions.{explicit_policy_of}
use Rattle.ts_path.specs.State.{PathState}
use Rattle.ts_path.specs.inside.Context.{asked_by}
use Rattle.ts_path.specs.inside.Judging.{MeetsBelow, IsJudged, Took}
use Rattle.ts_path.specs.View.{at}
use Rattle.ts_path.proofs.Steps.{next}
use Rattle.ts_path.proofs.walk.Walk.end.Goals as goal

-- these conditions are on a certificate that issues another
of_the_last : (x : Site) → x.last ≡ true → MeetsBelow 12 x → MeetsBelow 16 x
unfolding Meets
of_the_last x last before =
    let never : (P : Type 0) → x.last ≡ false → P = λ P e. absurd (false≢true (sym e ∙ last)) in
    next x key_usage (next x path_length (next x not_ca (next x maps_any before (never _)) (never _)) (never _)) (never _)

-- none is accepted exactly where the list is empty
none_in : (x : Site) (accepted : List Label) → ((p : Label) → In p accepted ↔ Accepts x p) → accepted ≡ [] → NoneAccepted x
none_in x accepted are e p is = subst (λ (ps : List Label). In p ps) e ((are p).1 is)

is_none : (x : Site) (accepted : List Label) → ((p : Label) → In p accepted ↔ Accepts x p) → NoneAccepted x → accepted ≡ []
is_none x [] are none = refl
is_none x (p ∷ ps) are none = absurd (none p ((are p).0 (inl refl)))

-- what `finish` answers, by the policies that were taken
accepted : (x : Site) (p : Seen) (list : List Label) → Took p false x
    → ((q : Label) → In q list ↔ IsAccepted (count p.certificates) (InT p.certificates) x.asked.user_policies q) → (q : Label) → In q list ↔ Accepts x q
accepted x p list took are = subst (λ (s : Seen). (q : Label) → In q list ↔ IsAccepted (count s.certificates) (InT s.certificates) x.asked.user_policies q) took are

-- the conditions up to that on the policies that are accepted
final : (x : Site) (explicit : ℕ) (list : List Label) → MeetsBelow 17 x
    → explicit ≡ final_explicit x.state.counters.explicit_policy
    (explicit_policy_of x.certificate.tbsCertificate)
    → ((q : Label) → In q list ↔ Accepts x q) → ((explicit ≡ 0) × (list ≡ []) → ⊥)
    → MeetsBelow 18 x
unfolding Meets
final x explicit list before is are some =
    next x final_policy before (λ _ no. some (is ∙ no.0, is_none x list are no.1))

-- explicit_policy at the end, by the state that was judged
explicit_is : (s t : PathState) (n : ℕ) (bound : Option ℕ) → s ≡ t
    → n ≡ final_explicit s.counters.explicit_policy bound
    → n ≡ final_explicit t.counters.explicit_policy bound
explicit_is s t n bound same is =
    is ∙ ap (λ (u : PathState). final_explicit u.counters.explicit_policy bound) same

pub returns-in-Some : goal.returns-in-Some
returns-in-Some g c =
    let x = at (asked_by g.S.SignatureCheck.accepts c.args.context.now) c.args.self.state
    c.args.self.policies.certificates (cert_in c.args.cert.now) true in
    let j = subst (IsJudged x) c.in-Met.is c.in_ok-met.ensures in
    c.in-Some.ensures x refl (of_the_last x refl j.0)

pub returns-then-accepts_none : goal.returns-then-accepts_none
unfolding Meets
returns-then-accepts_none g c =
    let x = at (asked_by g.S.SignatureCheck.accepts c.args.context.now) c.args.self.state
    c.args.self.policies.certificates (cert_in c.args.cert.now) true in
    let j = subst (IsJudged x) c.in-Met.is c.in_ok-met.ensures in
    let are = accepted x _ _ j.2 c.in_ok-accepted.ensures.accepted in
    let explicit = explicit_is _ _ _ _ j.1 c.final_explicit-explicit.ensures in
    let h = c.if-accepts_none.ensures.0 refl in
    record {
      fails = λ is. is refl (sym explicit ∙ h.0, none_in x _ are (ap (map (λ p. p.content.now)) (sym c.deref.ensures.value) ∙ h.1));
      first = c.in_default.ensures x refl (of_the_last x refl j.0);
      details = tt;
    }

pub returns-then-not-is_meant_for : goal.returns-then-not-is_meant_for
unfolding Meets
returns-then-not-is_meant_for g c =
    let x = at (asked_by g.S.SignatureCheck.accepts c.args.context.now) c.args.self.state
    c.args.self.policies.certificates (cert_in c.args.cert.now) true in
    let j = subst (IsJudged x) c.in-Met.is c.in_ok-met.ensures in
    record {
      fails = λ is. false≢true (c.if-not-is_meant_for.ensures ∙ is refl);
      first = final x _ _ (c.in_default.ensures x refl (of_the_last x refl j.0))
          (explicit_is _ _ _ _ j.1 c.final_explicit-explicit.ensures)
          (accepted x _ _ j.2 c.in_ok-accepted.ensures.accepted)
          (λ no. false≢true (c.if-accepts_none.ensures.1 (no.0, ap (map (λ p. p.content.now)) c.deref.ensures.value ∙ no.1)));
      details = tt;
    }

pub returns : goal.returns
unfolding Meets
returns g c =
    let x = at (asked_by g.S.SignatureCheck.accepts c.args.context.now) c.args.self.state
    c.args.self.policies.certificates (cert_in c.args.cert.now) true in
    let j = subst (IsJudged x) c.in-Met.is c.in_ok-met.ensures in
    let are = accepted x _ _ j.2 c.in_ok-accepted.ensures.accepted in (
      next x purpose
          (final x _ _ (c.in_default.ensures x refl (of_the_last x refl j.0))
          (explicit_is _ _ _ _ j.1 c.final_explicit-explicit.ensures) are
          (λ no. false≢true (c.if-accepts_none.ensures.1 (no.0, ap (map (λ p. p.content.now)) c.deref.ensures.value ∙ no.1))))
          (λ _. sym c.if-not-is_meant_for.ensures),
      are,
      c.in_ok-accepted.ensures.ascending,
    )
