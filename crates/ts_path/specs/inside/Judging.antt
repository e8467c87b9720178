-- What a walk over the conditions at a certificate finds.
use Rattle.std.specs.Prelude.{◌≡◌, ◌↔◌, ℕ, ◌+◌, ◌<◌, ◌-◌, min, Bool, true, false, [], ◌∷◌}
use Rattle.std.specs.Prelude.{◌++◌, map, Option, Some, None}
use Rattle.std.specs.Str.{bytes_eq}
use Rattle.ts_sig.specs.Key.{Key}
use Rattle.ts_ext.specs.declared.known.Known.TheVariants.{KeyUsage}
use Rattle.ts_ext.specs.Reading.{key_usage_of}
use Rattle.ts_cert.specs.Certificate.{Certificate, KeyInfo}
use Rattle.ts_cert.specs.Stated.{stated_value}
use Rattle.ts_constraint.specs.Source.{source_of}
use Rattle.ts_policy.specs.Labels.{Label, In}
use Rattle.ts_policy.specs.Paths.{MapsNoAny}
use Rattle.ts_policy.specs.Seen.{Seen}
use Rattle.ts_policy.specs.Accepted.{AreAscending}
use Rattle.ts_path.specs.declared.counters.Counters.{Counters}
use Rattle.ts_path.specs.declared.walk.Judgement.{Judgement}
use Rattle.ts_path.specs.declared.walk.Judgement.TheVariants.{Met, Failed}
use Rattle.ts_path.specs.declared.walk.Step.{Step}
use Rattle.ts_path.specs.declared.walk.Step.TheVariants.{Next, Stop}
use Rattle.ts_path.specs.declared.walk.End.{End}
use Rattle.ts_path.specs.declared.walk.End.TheVariants.{Accepted, Refused}
use Rattle.ts_path.specs.Counters.{counted}
use Rattle.ts_path.specs.Extensions.{path_length_of, explicit_policy_of, inhibit_policy_mapping_of}
use Rattle.ts_path.specs.Extensions.{any_policy_of}
use Rattle.ts_path.specs.State.{PathState, policies_at}
use Rattle.ts_path.specs.WorkingKey.{or_inherited, subject_key}
use Rattle.ts_revoke.specs.OwnKey.{own}
use Rattle.ts_der.specs.declared.oid.OidRef.{OidRef}
use Rattle.ts_reason.specs.declared.reason.Reason.{Reason}
use Rattle.ts_path.specs.Conditions.{Site, Meets, policies_to, Accepts}
use Rattle.ts_reason.specs.Conditions.{Condition, number_of}
use Rattle.ts_path.specs.Verdict.{Details}
use Rattle.ts_reason.specs.View.{condition_of}

-- each condition of a lesser number is met
unfoldable pub MeetsBelow : ℕ → Site → Type 0
MeetsBelow n x = (k : Condition) → number_of k < n → Meets k x

-- the condition that a reason names is the first that is not met
pub record FailsFirst (x : Site) (r : Reason OidRef) : Type 0 where
  pub fails : ¬ (Meets (condition_of r) x)
  pub first : MeetsBelow (number_of (condition_of r)) x
  pub details : Details r x

-- all conditions of a lesser number are met, or the reason names the first that is not
abbrev pub FindsBelow : ℕ → Site → Option (Reason OidRef) → Type 0
FindsBelow n x None = MeetsBelow n x
FindsBelow n x (Some r) = FailsFirst x r

-- ---- from a certificate to the one that follows it (6.1.4)

-- a counter falls by what the certificate counts, and is then lowered to a bound that the
-- certificate states
abbrev pub lowered : ℕ → Option ℕ → ℕ
lowered counter None = counter
lowered counter (Some bound) = min bound counter

abbrev pub next : ℕ → Certificate → Option ℕ → ℕ
next counter c bound = lowered (counter - counted c) bound

abbrev pub counters_after : Counters → Certificate → Counters
counters_after k c = record {
  explicit_policy = next k.explicit_policy c (explicit_policy_of c.tbsCertificate);
  policy_mapping = next k.policy_mapping c (inhibit_policy_mapping_of c.tbsCertificate);
  inhibit_any_policy = next k.inhibit_any_policy c (any_policy_of c.tbsCertificate);
  max_path_length = next k.max_path_length c (path_length_of c.tbsCertificate);
}

-- the key of the certificate, with parameters of its own or those before it
abbrev pub key_after : Key → KeyInfo → Key
key_after before k = record {
  algorithm = k.algorithm.algorithm;
  parameters = or_inherited (own k)
      (bytes_eq k.algorithm.algorithm before.algorithm) before.parameters;
  octets = k.subjectPublicKey;
}

unfoldable pub state_after : PathState → Certificate → PathState
state_after s c = record {
  passed = s.passed + 1;
  name = c.tbsCertificate.subject;
  key = key_after s.key (subject_key c);
  usage = stated_value KeyUsage key_usage_of c.tbsCertificate;
  sources = s.sources ++ source_of c.tbsCertificate ∷ [];
  counters = counters_after s.counters c;
}

-- ---- what a certificate leads to

-- what the certificate and those above it state of policies
abbrev pub Took : Seen → Bool → Site → Type 0
Took policies mapped x = policies ≡ record { certificates = policies_to x; mapped = mapped }

-- a certificate meets the conditions up to that on the valid policy tree, or one of these is the
-- first that it does not meet
abbrev pub IsJudged : Site → Judgement → Type 0
IsJudged x (Met m) =
    MeetsBelow 12 x × (m.state ≡ x.state) × Took m.policies false x
    × ((m.maps_any ≡ false) ↔ MapsNoAny (policies_at x.state x.certificate x.last))
IsJudged x (Failed reason) = FailsFirst x reason

-- a certificate that is not the last meets all conditions, and the state is that at the next, or it
-- does not meet one
abbrev pub IsStep : Site → Step → Type 0
IsStep x (Next w) = MeetsBelow 19 x × (w.state ≡ state_after x.state x.certificate)
    × Took w.policies true x
IsStep x (Stop reason) = FailsFirst x reason

-- the last certificate meets all conditions, and these are the policies that are accepted, or it
-- does not meet one
abbrev pub IsEnd : Site → End → Type 0
IsEnd x (Accepted policies) =
    MeetsBelow 19 x × ((p : Label) → In p (map (λ p. p.content.now) policies.items) ↔ Accepts x p)
    × AreAscending (map (λ p. p.content.now) policies.items)
IsEnd x (Refused reason) = FailsFirst x reason
