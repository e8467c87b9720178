-- From a certificate to the next, and the verdict.
use Rattle.std.proofs.Common.{◌≡◌, ◌↔◌, ℕ, suc, ◌+◌, ◌-◌, ◌≤◌, ◌<◌, Bool, true, false, nat_eq, List, [], ◌∷◌, length, get_or, map, take, drop, refl, sym, ap, subst, ◌∙◌, arith}
use Rattle.std.proofs.lemmas.Bool.{true≢false}
use Rattle.std.proofs.lemmas.Bool.Decides.{Decides-eqb}
use Rattle.ts_cert.specs.declared.certificate.Cert.{Cert}
use Rattle.ts_cert.specs.Certificate.{Certificate}
use Rattle.ts_cert.specs.CertView.{cert_in}
use Rattle.ts_policy.specs.Labels.{Label, In}
use Rattle.ts_policy.specs.Accepted.{AreAscending}
use Rattle.ts_policy.specs.Paths.{CertPolicies}
use Rattle.ts_policy.specs.Seen.{Seen}
use Rattle.ts_der.specs.declared.oid.OidRef.{OidRef}
use Rattle.ts_reason.specs.declared.reason.Reason.{Reason}
use Rattle.ts_path.specs.Chain.{ChainQuestion, Link, Stands, chained, is_empty}
use Rattle.ts_path.specs.State.{PathState, state_at, policies_above}
use Rattle.ts_path.specs.Conditions.{Site, Accepts}
use Rattle.ts_reason.specs.Conditions.{Condition}
use Rattle.ts_path.specs.inside.Judging.{MeetsBelow, FailsFirst, IsStep, IsEnd}
use Rattle.ts_path.specs.Verdict.{HoldsAt, IsLeast, HasDetails, AreAccepted}
use Rattle.ts_reason.specs.View.{condition_of}
use Rattle.ts_path.specs.View.{question_in, at}
use Rattle.ts_path.proofs.Positions.{AllHold, none_passed, here, last_here, few, passes, stops, all_pass, accepted, split_first, site_is, state_goes_on, policies_go_on}
use Rattle.ts_path.proofs.path.validate.Goals as goal

as_long : (xs : List Cert) → length (map cert_in xs) ≡ length xs
as_long [] = refl
as_long (x ∷ xs) = ap suc (as_long xs)

-- the certificates below the first
abbrev below_of : List Cert → List Cert
below_of rest = take (length rest - 1) (drop 1 rest)

first_of : (rest : List Cert) (x d : Cert) → 1 ≤ length rest → x ≡ get_or rest 0 d
    → map cert_in rest ≡ cert_in x ∷ map cert_in (below_of rest)
first_of rest x d some is = ap (map cert_in) (split_first rest x d some is)

none_left : (xs : List Cert) → 1 ≤ length xs → xs ≡ [] → ⊥
none_left xs some e = let n = ap length e in omega (arith, some, n)

pub loop-rest-init : goal.loop-rest-init
unfolding policies_above
loop-rest-init g c =
    let q = question_in c.args.anchor.now c.args.chain.now c.args.inputs.now c.args.crls.now (g.S.SignatureCheck.accepts c.args.check.now) in
    let n = sym (as_long c.args.chain.now) in (
      [],
      refl,
      none_left c.args.chain.now c.requires.some,
      c.in_ok-walk.ensures.state ∙ ap (λ (k : ℕ). state_at q.asked k []) n,
      c.in_ok-walk.ensures.policies,
      none_passed q,
    )

has_more : (xs : List Cert) → false ≡ nat_eq (length xs) 0 → xs ≡ [] → ⊥
has_more [] is e = true≢false (sym is)
has_more (x ∷ xs) is e = cc e

more_certs : (xs : List Cert) → false ≡ nat_eq (length xs) 0 → is_empty (map cert_in xs) ≡ false
more_certs [] is = sym is
more_certs (x ∷ xs) is = refl

-- a certificate that is not the last is passed
passed : (q : ChainQuestion) (above rest below : List Certificate) (c : Certificate) (s : PathState) (p : List CertPolicies) → q.chain ≡ chained above rest → rest ≡ c ∷ below
    → is_empty below ≡ false → s ≡ state_at q.asked (length q.chain) above → p ≡ policies_above q.asked (length q.chain) above
    → AllHold q (length above) → MeetsBelow 19 (at q.asked s p c false) → AllHold q (suc (length above))
passed q above rest below c s p is split more state policies before met =
    let l : Link = record { above = above; certificate = c; below = below } in
    passes q l (here q.chain above rest below c is split) before (subst (MeetsBelow 19) (site_is q above below c s p false state policies (sym more)) met)

few_passed : (q : ChainQuestion) (above rest : List Certificate) (c : Certificate) (below : List Certificate) → q.chain ≡ chained above rest → rest ≡ c ∷ below → length q.chain ≤ 16
    → (state_at q.asked (length q.chain) above).passed < 255
unfolding state_at
few_passed q above rest c below is split short = few q.chain above rest c below is split short

position_is : (q : ChainQuestion) (above : List Certificate) (s : PathState) (n : ℕ) → s ≡ state_at q.asked (length q.chain) above → n ≡ s.passed + 1 → suc (length above) ≡ n
unfolding state_at
position_is q above s n state is = let e = ap (λ (t : PathState). t.passed) state in omega (arith, is, e)

-- a certificate that fails
stopped : (q : ChainQuestion) (above rest below : List Certificate) (c : Certificate) (s : PathState) (p : List CertPolicies) (last : Bool) (n : ℕ) (r : Reason OidRef) → q.chain ≡ chained above rest
    → rest ≡ c ∷ below → is_empty below ≡ last → s ≡ state_at q.asked (length q.chain) above → p ≡ policies_above q.asked (length q.chain) above
    → AllHold q (length above) → FailsFirst (at q.asked s p c last) r → n ≡ s.passed + 1 → IsLeast q n (condition_of r) × HasDetails q n r
stopped q above rest below c s p last n r is split end state policies before f position =
    let l : Link = record { above = above; certificate = c; below = below } in
    let at_link = here q.chain above rest below c is split in
    let found = stops q l r at_link before (subst (λ (x : Site). FailsFirst x r) (site_is q above below c s p last state policies (sym end)) f) in
    subst (λ (k : ℕ). IsLeast q k (condition_of r) × HasDetails q k r) (position_is q above s n state position) found

none_below : (xs : List Cert) → true ≡ nat_eq (length xs) 0 → is_empty (map cert_in xs) ≡ true
none_below [] is = refl
none_below (x ∷ xs) is = let n = (Decides-eqb (length (x ∷ xs)) 0).0 (sym is) in absurd (omega (arith, n))

nothing : (cs : List Certificate) → is_empty cs ≡ true → cs ≡ []
nothing [] is = refl
nothing (c ∷ cs) is = absurd (true≢false (sym is))

-- all certificates are passed
ended : (q : ChainQuestion) (above rest below : List Certificate) (c : Certificate) (s : PathState) (p : List CertPolicies) (policies : List Label) → q.chain ≡ chained above rest
    → rest ≡ c ∷ below → is_empty below ≡ true → s ≡ state_at q.asked (length q.chain) above → p ≡ policies_above q.asked (length q.chain) above
    → AllHold q (length above) → MeetsBelow 19 (at q.asked s p c true) → ((l : Label) → In l policies ↔ Accepts (at q.asked s p c true) l) → AreAscending policies
    → ((i : ℕ) (k : Condition) → HoldsAt k q i) × AreAccepted q policies
ended q above rest below c s p policies is split end state taken before met are ascending =
    let l : Link = record { above = above; certificate = c; below = below } in
    let e = site_is q above below c s p true state taken (sym end) in
    let at_link = here q.chain above rest below c is split in
    let long = last_here q.chain above rest c is (split ∙ ap (λ (cs : List Certificate). c ∷ cs) (nothing below end)) in (
      all_pass q (subst (AllHold q) (sym long) (passes q l at_link before (subst (MeetsBelow 19) e met))),
      accepted q l policies (subst (λ (k : ℕ). Stands q.chain k l) (sym long) at_link) (subst (λ (x : Site). (n : Label) → In n policies ↔ Accepts x n) e are) ascending,
    )

pub loop-rest-preserved : goal.loop-rest-preserved
loop-rest-preserved g c =
    let q = question_in c.args.anchor.now c.args.chain.now c.args.inputs.now c.args.crls.now (g.S.SignatureCheck.accepts c.args.check.now) in
    let i = c.loop-rest.invariant in
    let cert = cert_in c.cert-item.result in
    let rest = c.loop-rest.rest.now in
    let split = first_of rest c.cert-item.result _ c.in-len1-up.len_at_least c.cert-item.is in
    let step = subst (IsStep (at q.asked c.loop-rest.walk.state c.loop-rest.walk.policies.certificates cert false)) c.in-Next.is c.in_ok-next.ensures in
    let state = i.3 in
    let policies = ap (λ (s : Seen). s.certificates) i.4 in (
      cert ∷ i.0,
      i.1 ∙ ap (chained i.0) split,
      has_more (below_of rest) c.if-is_empty.ensures,
      state_goes_on q i.0 cert c.loop-rest.walk.state c.in-Next.next.state state step.1,
      policies_go_on q i.0 cert c.loop-rest.walk.state c.loop-rest.walk.policies.certificates c.in-Next.next.policies state policies step.2,
      passed q i.0 (map cert_in rest) (map cert_in (below_of rest)) cert c.loop-rest.walk.state
          c.loop-rest.walk.policies.certificates i.1 split (more_certs (below_of rest) c.if-is_empty.ensures)
          state policies i.5 step.0,
    )

pub position-position-requires : goal.position-position-requires
position-position-requires g c =
    let q = question_in c.args.anchor.now c.args.chain.now c.args.inputs.now c.args.crls.now (g.S.SignatureCheck.accepts c.args.check.now) in
    let i = c.loop-rest.invariant in
    let cert = cert_in c.cert-item.result in
    let rest = c.loop-rest.rest.now in
    let split = first_of rest c.cert-item.result _ c.in-len1-up.len_at_least c.cert-item.is in
    subst (λ (s : PathState). s.passed < 255) (sym i.3)
    (few_passed q i.0 (map cert_in rest) cert (map cert_in (below_of rest)) i.1 split
    (subst (λ (k : ℕ). k ≤ 16) (sym (as_long c.args.chain.now)) c.requires.few))

pub returns-in-Stop : goal.returns-in-Stop
returns-in-Stop g c =
    let q = question_in c.args.anchor.now c.args.chain.now c.args.inputs.now c.args.crls.now (g.S.SignatureCheck.accepts c.args.check.now) in
    let i = c.loop-rest.invariant in
    let cert = cert_in c.cert-item.result in
    let rest = c.loop-rest.rest.now in
    let split = first_of rest c.cert-item.result _ c.in-len1-up.len_at_least c.cert-item.is in
    let f = subst (IsStep (at q.asked c.loop-rest.walk.state c.loop-rest.walk.policies.certificates cert false)) c.in-Stop.is c.in_ok-next.ensures in
    stopped q i.0 (map cert_in rest) (map cert_in (below_of rest)) cert c.loop-rest.walk.state
    c.loop-rest.walk.policies.certificates false _ c.in-Stop.reason i.1 split
    (more_certs (below_of rest) c.if-is_empty.ensures) i.3 (ap (λ (s : Seen). s.certificates) i.4) i.5 f
    c.position-position.ensures

pub returns-in-Refused : goal.returns-in-Refused
returns-in-Refused g c =
    let q = question_in c.args.anchor.now c.args.chain.now c.args.inputs.now c.args.crls.now (g.S.SignatureCheck.accepts c.args.check.now) in
    let i = c.loop-rest.invariant in
    let cert = cert_in c.cert-item.result in
    let rest = c.loop-rest.rest.now in
    let split = first_of rest c.cert-item.result _ c.in-len1-up.len_at_least c.cert-item.is in
    let f = subst (IsEnd (at q.asked c.loop-rest.walk.state c.loop-rest.walk.policies.certificates cert true)) c.in-Refused.is c.in_ok-policies.ensures in
    stopped q i.0 (map cert_in rest) (map cert_in (below_of rest)) cert c.loop-rest.walk.state
    c.loop-rest.walk.policies.certificates true _ c.in-Refused.reason i.1 split
    (none_below (below_of rest) c.if-is_empty.ensures) i.3 (ap (λ (s : Seen). s.certificates) i.4) i.5 f
    c.position-position.ensures

pub returns-in-Accepted : goal.returns-in-Accepted
returns-in-Accepted g c =
    let q = question_in c.args.anchor.now c.args.chain.now c.args.inputs.now c.args.crls.now (g.S.SignatureCheck.accepts c.args.check.now) in
    let i = c.loop-rest.invariant in
    let cert = cert_in c.cert-item.result in
    let rest = c.loop-rest.rest.now in
    let split = first_of rest c.cert-item.result _ c.in-len1-up.len_at_least c.cert-item.is in
    let f = subst (IsEnd (at q.asked c.loop-rest.walk.state c.loop-rest.walk.policies.certificates cert true)) c.in-Accepted.is c.in_ok-policies.ensures in
    ended q i.0 (map cert_in rest) (map cert_in (below_of rest)) cert c.loop-rest.walk.state
    c.loop-rest.walk.policies.certificates
    (map (λ p. p.content.now) c.in-Accepted.policies.items) i.1 split
    (none_below (below_of rest) c.if-is_empty.ensures) i.3 (ap (λ (s : Seen). s.certificates) i.4) i.5 f.0
    f.1 f.2
