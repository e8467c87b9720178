-- The state at a certificate and at the one that follows it.
use Rattle.std.proofs.Common.{◌≡◌, ℕ, ◌+◌, false, List, ◌∷◌, length, refl, arith}
use Rattle.ts_cert.specs.Certificate.{Certificate}
use Rattle.ts_path.specs.Asked.{ValidationInputs}
use Rattle.ts_path.specs.Extensions.{path_length_of, explicit_policy_of, inhibit_policy_mapping_of, any_policy_of}
use Rattle.ts_path.specs.WorkingKey.{parameters_of}
use Rattle.ts_path.specs.State.{start, counters_at, state_at, policies_at, policies_above}
use Rattle.ts_path.specs.inside.Judging.{counters_after, state_after}
use Rattle.ts_path.proofs.Counting.{counts}

counters_next : (a : ValidationInputs) (n : ℕ) (c : Certificate) (above : List Certificate) → counters_at a n (c ∷ above) ≡ counters_after (counters_at a n above) c
unfolding counters_at
counters_next a n c above = λ i. record {
  explicit_policy = counts (λ c. explicit_policy_of c.tbsCertificate) (start n a.explicit_policy) c above i;
  policy_mapping = counts (λ c. inhibit_policy_mapping_of c.tbsCertificate) (start n a.inhibit_policy_mapping) c above i;
  inhibit_any_policy = counts (λ c. any_policy_of c.tbsCertificate) (start n a.inhibit_any_policy) c above i;
  max_path_length = counts (λ c. path_length_of c.tbsCertificate) n c above i;
}

one_longer : (c : Certificate) (above : List Certificate) → length (c ∷ above) ≡ length above + 1
one_longer c above = omega arith

pub state_next : (a : ValidationInputs) (n : ℕ) (c : Certificate) (above : List Certificate) → state_at a n (c ∷ above) ≡ state_after (state_at a n above) c
unfolding state_at state_after parameters_of
state_next a n c above = λ i. record (state_after (state_at a n above) c) { passed = one_longer c above i; counters = counters_next a n c above i }

pub policies_next : (a : ValidationInputs) (n : ℕ) (c : Certificate) (above : List Certificate)
    → let s = state_at a n above in policies_above a n (c ∷ above) ≡ policies_at s c false
    ∷ policies_above a n above
unfolding policies_above
policies_next a n c above = refl
