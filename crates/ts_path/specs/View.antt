-- What contracts see of a question.
use Rattle.std.specs.Prelude.{Bool, List, map, option_map}
use Rattle.ts_name.specs.NameView.{rdns_in}
use Rattle.ts_cert.specs.declared.certificate.Cert.{Cert}
use Rattle.ts_cert.specs.CertView.{cert_in}
use Rattle.ts_cert.specs.View.{key_in}
use Rattle.ts_cert.specs.Certificate.{Certificate}
use Rattle.ts_crl.specs.ListView.{crl_in}
use Rattle.ts_constraint.specs.View.{bases_in}
use Rattle.ts_revoke.specs.Question.{Check}
use Rattle.ts_revoke.specs.declared.crls.Crls.{Crls}
use Rattle.ts_policy.specs.Paths.{CertPolicies}
use Rattle.ts_path.specs.declared.anchor.Anchor.{Anchor}
use Rattle.ts_path.specs.declared.inputs.Inputs.{Inputs}
use Rattle.ts_path.specs.Asked.{TrustAnchor, ValidationInputs}
use Rattle.ts_path.specs.Chain.{ChainQuestion}
use Rattle.ts_path.specs.State.{PathState}
use Rattle.ts_path.specs.Conditions.{Site}

abbrev pub anchor_in : Anchor → TrustAnchor
anchor_in a = record {
  name = rdns_in a.name;
  key = key_in a.key;
  purposes = option_map (λ ps. map (λ p. p.now) ps.now) a.purposes;
}

-- what is asked of a chain under a trust anchor
abbrev pub asked_under : Inputs → Crls → Check → TrustAnchor → ValidationInputs
asked_under inputs crls good anchor = record {
  anchor = anchor;
  moment = inputs.moment;
  purpose = option_map (λ p. p.now) inputs.purpose;
  user_policies = map (λ p. p.content.now) inputs.user_policies.now;
  explicit_policy = inputs.explicit_policy;
  inhibit_policy_mapping = inputs.inhibit_policy_mapping;
  inhibit_any_policy = inputs.inhibit_any_policy;
  subtrees = record {
    permitted = bases_in inputs.permitted_subtrees.now;
    excluded = bases_in inputs.excluded_subtrees.now;
  };
  hard = inputs.hard;
  lists = map crl_in crls.lists.now;
  deltas = map crl_in crls.deltas.now;
  use_deltas = inputs.use_deltas;
  good = good;
}

abbrev pub asked_in : Anchor → Inputs → Crls → Check → ValidationInputs
asked_in anchor inputs crls good = asked_under inputs crls good (anchor_in anchor)

abbrev pub question_in : Anchor → List Cert → Inputs → Crls → Check → ChainQuestion
question_in anchor chain inputs crls good =
    record { asked = asked_in anchor inputs crls good; chain = map cert_in chain }

-- what the conditions at a certificate look at
abbrev pub at : ValidationInputs → PathState → List CertPolicies → Certificate → Bool → Site
at asked state above c last = record
    { asked = asked; state = state; policies_above = above; certificate = c; last = last }
