-- What is asked of a node: its limits, and its one encoding.
use Rattle.std.specs.Prelude.{◌≡◌, ◌&&◌, ℕ, pos, Bool, true, false, nat_le, nat_lt, is_some, List}
use Rattle.std.specs.Prelude.{[], ◌∷◌}
use Rattle.std.specs.Prelude.{◌++◌, length, Option, Some, None, IfSome}
use Rattle.std.specs.List.{flat_map, list_all}
use Rattle.std.specs.Int.{to_be_bytes, w16, w32, w64, cast_unsigned}
use Rattle.std.specs.Int.RustNames.{FitsSigned}
use Rattle.ts_der.specs.ObjectIdentifier.{is_oid}
use Rattle.ts_question.specs.declared.terms.Flags.{Flags}
use Rattle.ts_question.specs.declared.terms.Terms.{Terms}
use Rattle.ts_question.specs.declared.question.Target.{Target}
use Rattle.ts_question.specs.declared.question.Target.TheVariants.{Chain, Search, Store, Log}
use Rattle.ts_codec.specs.Parts.{bits, blob8, blob16, blob32, optional}

-- what is asked
pub record StoreQuestion : Type 0 where
  pub terms : Terms
  pub target : Target

-- terms that ask for nothing, after the first k commands
abbrev pub plain_terms : Option ℕ → Terms
plain_terms k = record {
  moment = pos 0;
  flags = record {
    explicit_policy = false;
    inhibit_policy_mapping = false;
    inhibit_any_policy = false;
    hard = false;
    use_deltas = false;
  };
  k = k;
  purpose = None;
  user_policies = [];
  permitted_subtrees = [];
  excluded_subtrees = [];
}

-- ---- limits

-- a store's position, or none
abbrev pub is_position_if_any : Option ℕ → Bool
is_position_if_any None = true
is_position_if_any (Some k) = nat_le k 1000000

-- at most 64 subtrees, whose lengths two octets hold
abbrev pub are_subtrees : List (List ℕ) → Bool
are_subtrees subtrees = nat_le (length subtrees) 64
    && list_all (λ s. nat_le (length s) 65535) subtrees

abbrev pub are_terms : Terms → Bool
are_terms t = is_position_if_any t.k && nat_le (length t.user_policies) 32
    && are_subtrees t.permitted_subtrees && are_subtrees t.excluded_subtrees

-- at least one certificate, and at most so many, each of at most 65,536 octets
abbrev pub are_certificates : ℕ → List (List ℕ) → Bool
are_certificates most certificates = nat_le 1 (length certificates)
    && nat_le (length certificates) most && list_all (λ c. nat_le (length c) 65536) certificates

-- a chain has at most 16 certificates, a search a leaf and a pool of at most 32
abbrev pub is_target : Target → Bool
is_target (Chain anchor certificates) = are_certificates 16 certificates
is_target (Search certificates) = are_certificates 33 certificates
is_target (Store from) = true
is_target (Log from) = true

abbrev pub is_within : StoreQuestion → Bool
is_within q = are_terms q.terms && is_target q.target

-- ---- encoding

-- bit 0 explicit policy, 1 inhibit mapping, 2 inhibit anyPolicy, 3 hard, 4 k present, 5 purpose
-- present, 6 use deltas
abbrev pub flags_octet : Flags → Bool → Bool → ℕ
flags_octet f k purpose = bits
    (f.explicit_policy ∷ f.inhibit_policy_mapping ∷ f.inhibit_any_policy ∷ f.hard ∷ k ∷ purpose
    ∷ f.use_deltas ∷ [])

-- an octet of their number, and the contents octets of each
abbrev pub policies_encoding : List (List ℕ) → List ℕ
policies_encoding oids = length oids ∷ flat_map blob8 oids

-- two octets of their number, and the octets of each
abbrev pub subtrees_encoding : List (List ℕ) → List ℕ
subtrees_encoding subtrees = to_be_bytes w16 (length subtrees) ++ flat_map blob16 subtrees

abbrev pub certificates_encoding : List (List ℕ) → List ℕ
certificates_encoding certificates = length certificates ∷ flat_map blob32 certificates

abbrev pub terms_encoding : Terms → List ℕ
terms_encoding t = to_be_bytes w64 (cast_unsigned w64 t.moment)
    ++ (flags_octet t.flags (is_some t.k) (is_some t.purpose)
    ∷ (optional (to_be_bytes w32) t.k
    ++ (optional blob8 t.purpose
    ++ (policies_encoding t.user_policies
    ++ (subtrees_encoding t.permitted_subtrees
    ++ subtrees_encoding t.excluded_subtrees)))))

abbrev pub question_kind : Target → ℕ
question_kind (Chain anchor certificates) = 1
question_kind (Search certificates) = 2
question_kind (Store from) = 3
question_kind (Log from) = 4

abbrev pub target_encoding : Target → List ℕ
target_encoding (Chain anchor certificates) = anchor ++ certificates_encoding certificates
target_encoding (Search certificates) = certificates_encoding certificates
target_encoding (Store from) = to_be_bytes w32 from
target_encoding (Log from) = to_be_bytes w32 from

-- 1 for a chain, 2 for a search, 3 for the store and 4 for the log; the terms; and the
-- certificates, or the number of rows before a page
abbrev pub question_encoding : StoreQuestion → List ℕ
question_encoding q = question_kind q.target ∷ (terms_encoding q.terms ++ target_encoding q.target)

-- ---- which have an encoding

pub record TermsFit (t : Terms) : Type 0 where
  pub moment : FitsSigned w64 t.moment
  pub purpose : IfSome t.purpose (λ p. is_oid p ≡ true)
  pub policies : list_all is_oid t.user_policies ≡ true

abbrev pub TargetFits : Target → Type 0
TargetFits (Chain anchor certificates) = length anchor ≡ 32
TargetFits (Search certificates) = Unit {0}
TargetFits (Store from) = nat_lt from 4294967296 ≡ true
TargetFits (Log from) = nat_lt from 4294967296 ≡ true

pub record QuestionFits (q : StoreQuestion) : Type 0 where
  pub terms : TermsFit q.terms
  pub target : TargetFits q.target
  pub within : is_within q ≡ true
