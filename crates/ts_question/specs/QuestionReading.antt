-- A question read from front to back.
use Rattle.std.specs.Prelude.{ℕ, ◌==◌, ◌&&◌, ◌/◌, ◌%◌, Bool, nat_le, nat_lt, List, [], ◌∷◌}
use Rattle.std.specs.Prelude.{Some}
use Rattle.std.specs.Int.{w16, w32}
use Rattle.ts_codec.specs.Reading.{Reader, ◌>>=◌, ◌that◌, ◌and◌, ◌then◌, ◌into◌, octet_at}
use Rattle.ts_codec.specs.Reading.{number_at, signed_at, octets_at, blob16_at, short_blob_at}
use Rattle.ts_codec.specs.Reading.{oid_at, prefix_at, optional_at, many_at, of_kind}
use Rattle.ts_question.specs.declared.terms.Presence.{Presence}
use Rattle.ts_question.specs.declared.terms.Terms.{Terms}
use Rattle.ts_question.specs.declared.question.Target.{Target}
use Rattle.ts_question.specs.declared.question.Target.TheVariants.{Chain, Search, Store, Log}
use Rattle.ts_question.specs.Question.{StoreQuestion}

abbrev pub bit : ℕ → ℕ → Bool
bit octet weight = octet / weight % 2 == 1

-- which flags an octet sets, and which parts are there
abbrev pub presence_of : ℕ → Presence
presence_of o = record {
  flags = record {
    explicit_policy = bit o 1;
    inhibit_policy_mapping = bit o 2;
    inhibit_any_policy = bit o 4;
    hard = bit o 8;
    use_deltas = bit o 64;
  };
  k = bit o 16;
  purpose = bit o 32;
}

unfoldable pub presence_at : Reader Presence
presence_at = octet_at that (λ o. nat_lt o 128) into presence_of

unfoldable pub policies_at : Reader (List (List ℕ))
policies_at = octet_at that (λ n. nat_le n 32) then many_at oid_at

unfoldable pub subtrees_at : Reader (List (List ℕ))
subtrees_at = number_at w16 that (λ n. nat_le n 64) then many_at blob16_at

unfoldable pub certificates_at : ℕ → Reader (List (List ℕ))
certificates_at most = octet_at that (λ n. nat_le 1 n && nat_le n most)
    then many_at (short_blob_at 65536)

unfoldable pub terms_at : Reader Terms
terms_at octets = do
  moment ← signed_at octets
  presence ← presence_at moment.1
  k ← optional_at prefix_at presence.0.k presence.1
  purpose ← optional_at oid_at presence.0.purpose k.1
  policies ← policies_at purpose.1
  permitted ← subtrees_at policies.1
  excluded ← subtrees_at permitted.1
  Some (
    record {
      moment = moment.0;
      flags = presence.0.flags;
      k = k.0;
      purpose = purpose.0;
      user_policies = policies.0;
      permitted_subtrees = permitted.0;
      excluded_subtrees = excluded.0;
    },
    excluded.1,
  )

-- what is asked for, by the kind
abbrev pub targets : List (ℕ × Reader Target)
targets = (1, octets_at 32 and certificates_at 16 into (λ x. Chain x.0 x.1))
    ∷ (2, certificates_at 33 into Search) ∷ (3, number_at w32 into Store)
    ∷ (4, number_at w32 into Log) ∷ []

abbrev pub asked_of : Terms × Target → StoreQuestion
asked_of x = record { terms = x.0; target = x.1 }

unfoldable pub question_at : Reader StoreQuestion
question_at = octet_at then (λ kind. terms_at and of_kind targets kind into asked_of)
