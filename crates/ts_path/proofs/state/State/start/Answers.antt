-- No certificate is above the first.
use Rattle.std.proofs.Common.{sym, ◌∙◌, None}
use Rattle.ts_name.specs.NameView.{rdns_in}
use Rattle.ts_path.specs.Extensions.{path_length_of, explicit_policy_of, inhibit_policy_mapping_of, any_policy_of}
use Rattle.ts_path.specs.WorkingKey.{parameters_of}
use Rattle.ts_path.specs.State.{start, counters_at, state_at}
use Rattle.ts_path.proofs.Counting.{starts}
use Rattle.ts_path.proofs.state.State.start.Goals as goal

pub returns : goal.returns
unfolding state_at counters_at parameters_of
returns g c = λ i. record {
  passed = 0;
  name = rdns_in c.args.context.now.anchor.now.name;
  key = c.own_key.ensures i;
  usage = None;
  sources = c.in_ok-initial.ensures i;
  counters = record {
    explicit_policy = (c.start.ensures.explicit_policy ∙ sym (starts (λ c. explicit_policy_of c.tbsCertificate) (start c.args.length c.args.context.now.inputs.now.explicit_policy))) i;
    policy_mapping = (c.start.ensures.policy_mapping ∙ sym (starts (λ c. inhibit_policy_mapping_of c.tbsCertificate) (start c.args.length c.args.context.now.inputs.now.inhibit_policy_mapping))) i;
    inhibit_any_policy = (c.start.ensures.inhibit_any_policy ∙ sym (starts (λ c. any_policy_of c.tbsCertificate) (start c.args.length c.args.context.now.inputs.now.inhibit_any_policy))) i;
    max_path_length = (c.start.ensures.max_path_length ∙ sym (starts (λ c. path_length_of c.tbsCertificate) c.args.length)) i;
  };
}
