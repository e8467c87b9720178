-- What the conditions ask of a certificate's extensions (RFC 5280 4.2, 6.1.4).
use Rattle.std.specs.Prelude.{ℕ, Bool, true, false, not, ◌&&◌, ◌||◌, List, [], ◌∷◌, Option, Some}
use Rattle.std.specs.Prelude.{None, is_some, option_map, unwrap_or}
use Rattle.std.specs.List.{find, list_any}
use Rattle.std.specs.Option.{option_and_then}
use Rattle.std.specs.Str.{bytes_eq}
use Rattle.ts_ext.specs.declared.known.Holder.TheVariants.{Certificate as OfCertificate}
use Rattle.ts_ext.specs.declared.known.Known.TheVariants as extension
use Rattle.ts_ext.specs.declared.basic_constraints.BasicConstraints.{BasicConstraints}
use Rattle.ts_ext.specs.declared.policy_constraints.PolicyConstraints.{PolicyConstraints}
use Rattle.ts_extensions.specs.Extension.{Extension}
use Rattle.ts_ext.specs.Known.{known_at, identifier_of}
use Rattle.ts_ext.specs.NamedBits.{bit}
use Rattle.ts_ext.specs.Policies.{Information, Qualifier}
use Rattle.ts_ext.specs.Reading.{basic_constraints_of, key_usage_of, policy_constraints_of}
use Rattle.ts_ext.specs.Reading.{certificate_policies_of, ext_key_usage_of, skip_certs_of}
use Rattle.ts_cert.specs.declared.version.Version.{Version}
use Rattle.ts_cert.specs.declared.version.Version.TheVariants.{V3}
use Rattle.ts_cert.specs.Certificate.{Tbs, all_extensions}
use Rattle.ts_cert.specs.Stated.{stated_value}

-- ---- certificates of authorities

abbrev pub is_v3 : Version → Bool
is_v3 V3 = true
is_v3 other = false

abbrev pub says_ca : Option BasicConstraints → Bool
says_ca None = false
says_ca (Some b) = b.ca

-- the certificate is of version 3 and basicConstraints has cA TRUE (6.1.4 (k)); this profile takes
-- no earlier version for a CA's
abbrev pub is_ca : Tbs → Bool
is_ca t = is_v3 t.version && says_ca
    (stated_value extension.BasicConstraints basic_constraints_of t)

-- keyUsage, if it is stated, has keyCertSign (6.1.4 (n))
abbrev pub allows_signing : Option (List Bool) → Bool
allows_signing None = true
allows_signing (Some bits) = bit 5 bits

abbrev pub may_sign : Tbs → Bool
may_sign t = allows_signing (stated_value extension.KeyUsage key_usage_of t)

-- the purposes of extKeyUsage, if it is stated (4.2.1.12)
abbrev pub purposes_of : Tbs → Option (List (List ℕ))
purposes_of t = stated_value extension.ExtendedKeyUsage ext_key_usage_of t

-- ---- bounds of counters

-- pathLenConstraint (6.1.4 (m))
abbrev pub path_length_of : Tbs → Option ℕ
path_length_of t = option_and_then (λ b. b.path_len_constraint)
    (stated_value extension.BasicConstraints basic_constraints_of t)

abbrev pub constraints_of : Tbs → Option PolicyConstraints
constraints_of t = stated_value extension.PolicyConstraints policy_constraints_of t

-- requireExplicitPolicy (6.1.4 (i) (1))
abbrev pub explicit_policy_of : Tbs → Option ℕ
explicit_policy_of t = option_and_then (λ p. p.require_explicit_policy) (constraints_of t)

-- inhibitPolicyMapping (6.1.4 (i) (2))
abbrev pub inhibit_policy_mapping_of : Tbs → Option ℕ
inhibit_policy_mapping_of t = option_and_then (λ p. p.inhibit_policy_mapping) (constraints_of t)

-- inhibitAnyPolicy (6.1.4 (j))
abbrev pub any_policy_of : Tbs → Option ℕ
any_policy_of t = stated_value extension.InhibitAnyPolicy skip_certs_of t

-- ---- critical extensions

-- CPS, 1.3.6.1.5.5.7.2.1, and user notice, 1.3.6.1.5.5.7.2.2 (4.2.1.4)
abbrev pub cps : List ℕ
cps = 0x2B ∷ 0x06 ∷ 0x01 ∷ 0x05 ∷ 0x05 ∷ 0x07 ∷ 0x02 ∷ 0x01 ∷ []

abbrev pub user_notice : List ℕ
user_notice = 0x2B ∷ 0x06 ∷ 0x01 ∷ 0x05 ∷ 0x05 ∷ 0x07 ∷ 0x02 ∷ 0x02 ∷ []

-- a qualifier that is neither
abbrev pub is_other : Qualifier → Bool
is_other q = not (bytes_eq q.policyQualifierId cps || bytes_eq q.policyQualifierId user_notice)

-- the policy has such a qualifier
abbrev pub is_qualified : Information → Bool
is_qualified p = list_any is_other (unwrap_or p.policyQualifiers [])

-- one of the certificate's policies has: who processes a critical certificatePolicies must be able
-- to interpret its qualifiers
abbrev pub has_other_qualifier : Tbs → Bool
has_other_qualifier t = list_any is_qualified
    (unwrap_or (stated_value extension.CertificatePolicies certificate_policies_of t) [])

-- the extension is one of those that this profile processes in a certificate
abbrev pub is_processed : Tbs → List ℕ → Bool
is_processed t id = is_some (known_at OfCertificate id)
    && not (bytes_eq id (identifier_of extension.CertificatePolicies) && has_other_qualifier t)

abbrev pub is_refused : Tbs → Extension → Bool
is_refused t x = x.critical && not (is_processed t x.extnID)

-- the first critical extension, by its place, that is not processed (6.1.4 (o), 6.1.5 (f))
abbrev pub first_refused : Tbs → Option (List ℕ)
first_refused t = option_map (λ x. x.extnID) (find (is_refused t) (all_extensions t))
