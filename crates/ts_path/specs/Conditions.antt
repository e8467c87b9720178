-- The conditions of path validation (RFC 5280 6.1.3 to 6.1.5), each a statement on what is asked,
-- the state variables at a certificate, and the certificate.
use Rattle.std.specs.Prelude.{◌≡◌, ◌≢◌, ℕ, zero, ◌-◌, ◌==◌, nat_lt, ◌≤ℤ◌, not, ◌||◌, Bool, true}
use Rattle.std.specs.Prelude.{false, List, ◌∷◌, Option, Some, None, IsTrue}
use Rattle.ts_name.specs.Sameness.{canon_name}
use Rattle.ts_cert.specs.Certificate.{Certificate}
use Rattle.ts_name.specs.General.{GeneralName}
use Rattle.ts_constraint.specs.Conditions.{AreSupported, ArePermitted, AreNotExcluded, IsExempt}
use Rattle.ts_constraint.specs.Source.{Source}
use Rattle.ts_constraint.specs.Names.{names_of}
use Rattle.ts_policy.specs.Labels.{Label, Path}
use Rattle.ts_policy.specs.Paths.{CertPolicies, InT, count, MapsNoAny}
use Rattle.ts_policy.specs.Accepted.{IsAccepted}
use Rattle.ts_revoke.specs.declared.verdict.Status.{Status}
use Rattle.ts_revoke.specs.declared.verdict.Status.TheVariants.{Revoked, Undetermined}
use Rattle.ts_revoke.specs.Status.{status_of}
use Rattle.ts_reason.specs.Conditions.{Condition, anchor_purpose, signature, too_early, expired}
use Rattle.ts_reason.specs.Conditions.{revoked, undetermined, issuer_name, unsupported_constraint}
use Rattle.ts_reason.specs.Conditions.{not_permitted, excluded, policy_required, maps_any, not_ca}
use Rattle.ts_reason.specs.Conditions.{path_length, key_usage, critical_extension, final_policy}
use Rattle.ts_reason.specs.Conditions.{purpose}
use Rattle.ts_path.specs.Asked.{TrustAnchor, ValidationInputs}
use Rattle.ts_path.specs.Names.{is_self_issued}
use Rattle.ts_path.specs.Purposes.{allow}
use Rattle.ts_path.specs.Extensions.{is_ca, may_sign, purposes_of, explicit_policy_of}
use Rattle.ts_path.specs.Extensions.{first_refused}
use Rattle.ts_path.specs.State.{PathState, policies_at}

-- what the conditions at a certificate look at: the question, the state variables, what the
-- certificates above state of policies (the nearest first), the certificate, and whether it is the
-- last
pub record Site : Type 0 where
  pub asked : ValidationInputs
  pub state : PathState
  pub policies_above : List CertPolicies
  pub certificate : Certificate
  pub last : Bool

-- ---- the place in the chain

-- the anchor is trusted for the purpose that is asked, if one is: a condition on the first
-- certificate alone
abbrev pub is_trusted : TrustAnchor → Option (List ℕ) → PathState → Bool
is_trusted anchor wanted s = not (s.passed == 0) || allow wanted anchor.purposes

-- the path may go on after a certificate: it is self-issued, or max_path_length is above 0
abbrev pub may_go_on : PathState → Certificate → Bool
may_go_on s c = is_self_issued c || nat_lt 0 s.counters.max_path_length

-- ---- names

-- the names of the certificate meet a condition of the sources of constraints, unless constraints
-- do not bear on it
abbrev pub NamesMeet : (List Source → List GeneralName → Type 0) → Site → Type 0
NamesMeet Are x = ¬ (IsExempt x.certificate.tbsCertificate x.last)
    → Are x.state.sources (names_of x.certificate.tbsCertificate)

-- ---- policies

-- what the certificate and those above state of policies, the certificate first
abbrev pub policies_to : Site → List CertPolicies
policies_to x = policies_at x.state x.certificate x.last ∷ x.policies_above

-- no policy path is left at the certificate (6.1.3 (d), (e))
abbrev pub NoPath : Site → Type 0
NoPath x = (w : Path) → InT (policies_to x) w → ⊥

-- explicit_policy at the end: it falls by one (6.1.5 (a)), and is 0 where requireExplicitPolicy is
-- stated as 0 (6.1.5 (b))
abbrev pub final_explicit : ℕ → Option ℕ → ℕ
final_explicit counter (Some zero) = 0
final_explicit counter other = counter - 1

-- a policy is accepted at the end (6.1.5 (g))
abbrev pub Accepts : Site → Label → Type 0
Accepts x p = IsAccepted (count (policies_to x)) (InT (policies_to x)) x.asked.user_policies p

abbrev pub NoneAccepted : Site → Type 0
NoneAccepted x = (p : Label) → Accepts x p → ⊥

-- ---- revocation

-- the status of the certificate by the CRLs at hand, of which the key of its issuer is the working
-- key (6.3)
abbrev pub status_at : Site → Status
status_at x = status_of (record {
  certificate = x.certificate;
  key = x.state.key;
  usage = x.state.usage;
  moment = x.asked.moment;
  good = x.asked.good;
  lists = x.asked.lists;
  deltas = x.asked.deltas;
  use_deltas = x.asked.use_deltas;
})

-- ---- the conditions

unfoldable pub Meets : Condition → Site → Type 0
-- the anchor is trusted for the purpose that is asked
Meets anchor_purpose x = IsTrue (is_trusted x.asked.anchor x.asked.purpose x.state)
-- the signature is good under the working key: 6.1.3 (a) (1)
Meets signature x =
    IsTrue (x.asked.good x.certificate.signatureAlgorithm.whole x.state.key x.certificate.tbs
    x.certificate.signatureValue)
-- the moment is not before notBefore, and not after notAfter: 6.1.3 (a) (2)
Meets too_early x = x.certificate.tbsCertificate.validity.not_before.moment ≤ℤ x.asked.moment
Meets expired x = x.asked.moment ≤ℤ x.certificate.tbsCertificate.validity.not_after.moment
-- the certificate is not revoked; its status can be determined, if that is asked for: 6.1.3 (a) (3)
Meets revoked x = (code : ℕ) → status_at x ≢ Revoked code
Meets undetermined x = x.asked.hard ≡ true → status_at x ≢ Undetermined
-- the issuer's name is that of the certificate before, or of the anchor: 6.1.3 (a) (4)
Meets issuer_name x = canon_name x.certificate.tbsCertificate.issuer ≡ canon_name x.state.name
-- no constraint is on names of the certificate whose form is not processed: 4.2.1.10
Meets unsupported_constraint x = NamesMeet AreSupported x
-- each name lies in the permitted subtrees, and in no excluded subtree: 6.1.3 (b), (c)
Meets not_permitted x = NamesMeet ArePermitted x
Meets excluded x = NamesMeet AreNotExcluded x
-- explicit_policy is above 0, or a policy path is left: 6.1.3 (f)
Meets policy_required x = ¬ ((x.state.counters.explicit_policy ≡ 0) × NoPath x)
-- of a certificate that is not the last: no mapping names anyPolicy: 6.1.4 (a)
Meets maps_any x = x.last ≡ false → MapsNoAny (policies_at x.state x.certificate x.last)
-- it is a CA's: 6.1.4 (k)
Meets not_ca x = x.last ≡ false → IsTrue (is_ca x.certificate.tbsCertificate)
-- it is self-issued, or max_path_length is above 0: 6.1.4 (l)
Meets path_length x = x.last ≡ false → IsTrue (may_go_on x.state x.certificate)
-- its key may sign certificates: 6.1.4 (n)
Meets key_usage x = x.last ≡ false → IsTrue (may_sign x.certificate.tbsCertificate)
-- each critical extension is processed: 6.1.4 (o), 6.1.5 (f)
Meets critical_extension x = first_refused x.certificate.tbsCertificate ≡ None
-- of the last: explicit_policy is above 0 at the end, or a policy is accepted: 6.1.5 (g)
Meets final_policy x = x.last ≡ true
    → ¬ ((final_explicit x.state.counters.explicit_policy
    (explicit_policy_of x.certificate.tbsCertificate) ≡ 0) × NoneAccepted x)
-- its purposes, if it states some, allow the one that is asked: 4.2.1.12
Meets purpose x = x.last ≡ true
    → IsTrue (allow x.asked.purpose (purposes_of x.certificate.tbsCertificate))
