-- Basic constraints and policy constraints, as they are read, encoded and refused.
use Rattle.std.proofs.Common.{◌≡◌, ◌≢◌, ℕ, ◌+◌, ◌%◌, false, eqb, List, [], ◌++◌, length, Option, Ok, refl, sym, ap, subst, ◌∙◌, arith}
use Rattle.std.proofs.lemmas.List.{append-nil}
use Rattle.ts_der.specs.declared.fault.Fault.{Fault}
use Rattle.ts_der.specs.Octets.{AreOctets}
use Rattle.ts_der.specs.Element.{Place, Tlv, inside}
use Rattle.ts_der.specs.Default.{flag_at}
use Rattle.ts_der.specs.Reading.{begins_with, end_at}
use Rattle.ts_der.proofs.Laws.{bind_ok, ok_is}
use Rattle.ts_shape.specs.Fields.{IfAny, optional_of}
use Rattle.ts_shape.specs.Shape.{optional, plain, nothing, ◌then◌, primitive, no_rules}
use Rattle.ts_shape.proofs.Judging.{no_more, under, ends, Whatever}
use Rattle.ts_shape.proofs.OptionalParts.{begins-if-any, optional-found, optional-again, optional-judged}
use Rattle.ts_shape.proofs.Endings.{end-ok, end-again}
use Rattle.ts_ext.specs.declared.basic_constraints.BasicConstraints.{BasicConstraints}
use Rattle.ts_ext.specs.declared.policy_constraints.PolicyConstraints.{PolicyConstraints}
use Rattle.ts_ext.specs.Encoding.{IsSmall, IsBasicConstraints, IsPolicyConstraints}
use Rattle.ts_ext.specs.Table.{small_integer_rules, basic_constraints_fields, policy_constraints_fields}
use Rattle.ts_ext.specs.Reading.{small_of, basic_constraints_of, policy_constraints_of}
use Rattle.ts_ext.proofs.Formats.{Format, value_of}
use Rattle.ts_ext.proofs.Values.{small-format}
use Rattle.ts_ext.proofs.Flags.{flag-encoded, flag-again, flag-judged}

-- the last field does not begin with the tag of one before it
not-begun : (tag other : ℕ) (w : List ℕ) (x : Option ℕ) → IfAny tag IsSmall w x → eqb tag other ≡ false → begins_with other w ≡ false
not-begun tag other w x is differs = ap (begins_with other) (sym (append-nil w)) ∙ begins-if-any tag IsSmall w x is other differs [] refl

-- ---- basic constraints

basic-found : (e : Tlv) (b : BasicConstraints) → AreOctets e.content → basic_constraints_of e ≡ Ok b → IsBasicConstraints e.content b
unfolding basic_constraints_of
basic-found e b fits read =
    let a = bind_ok (flag_at 0x01 (inside e)) _ b read in
    let l = bind_ok (optional_of 0x02 small_of a.0.1) _ b a.2 in
    let d = bind_ok (end_at l.0.1) _ b l.2 in
    let same : record { ca = a.0.0; path_len_constraint = l.0.0 } ≡ b = ok_is {A = BasicConstraints} {E = Fault} (record { ca = a.0.0; path_len_constraint = l.0.0 }) b d.2 in
    let first = flag-encoded 0x01 (inside e) a.0.0 a.0.1 fits a.1 in
    let second = optional-found 0x02 small_of IsSmall (value_of small-format 0x02) a.0.1 l.0.0 l.0.1 first.3 l.1 in
    let last : a.0.1.rest ≡ second.0 = second.2 ∙ (ap (λ (r : List ℕ). second.0 ++ r) (end-ok l.0.1 d.0 d.1) ∙ append-nil second.0) in
    subst (λ (x : BasicConstraints). IsBasicConstraints e.content x) same
    (record { authority = first.0; length = second.0; cA = first.1; pathLenConstraint = second.1; fields = first.2 ∙ ap (λ (r : List ℕ). first.0 ++ r) last })

basic-again : (e : Tlv) (b : BasicConstraints) → IsBasicConstraints e.content b → basic_constraints_of e ≡ Ok b
unfolding basic_constraints_of
basic-again e b is =
    let low : 1 % 32 ≢ 31 = λ h. omega arith in
    let a = flag-again 0x01 low (omega arith) (inside e) b.ca is.authority is.length is.cA (not-begun 0x02 0x01 is.length b.path_len_constraint is.pathLenConstraint refl) is.fields in
    let place : Place = record { rest = is.length; at = e.start + length is.authority } in
    let l = optional-again 0x02 small_of IsSmall (value_of small-format 0x02) place b.path_len_constraint is.length [] is.pathLenConstraint refl (sym (append-nil is.length)) in
    let d = end-again (e.start + length is.authority + length is.length) in
    rw (a, l, d) refl

pub basic_constraints-format : Format basic_constraints_of IsBasicConstraints basic_constraints_fields no_rules
unfolding basic_constraints_of
basic_constraints-format =
    record {
      found = basic-found;
      again = basic-again;
      judged = λ e.
          no_more _ _ _
          (under (flag_at 0x01 (inside e)) _ _ _
          (flag-judged 0x01 (optional (primitive 0x02 small_integer_rules) then nothing) (inside e) _ _ (λ ca after.
          under (optional_of 0x02 small_of after) _ _ _
          (optional-judged 0x02 plain small_integer_rules nothing after small_of _ Whatever _ small-format.judged (λ n behind. ends behind _ _ (λ h. tt))))));
    }

-- ---- policy constraints

policy-found : (e : Tlv) (p : PolicyConstraints) → AreOctets e.content → policy_constraints_of e ≡ Ok p → IsPolicyConstraints e.content p
unfolding policy_constraints_of
policy-found e p fits read =
    let a = bind_ok (optional_of 0x80 small_of (inside e)) _ p read in
    let b = bind_ok (optional_of 0x81 small_of a.0.1) _ p a.2 in
    let d = bind_ok (end_at b.0.1) _ p b.2 in
    let same : record { require_explicit_policy = a.0.0; inhibit_policy_mapping = b.0.0 } ≡ p =
    ok_is {A = PolicyConstraints} {E = Fault} (record { require_explicit_policy = a.0.0; inhibit_policy_mapping = b.0.0 }) p d.2 in
    let first = optional-found 0x80 small_of IsSmall (value_of small-format 0x80) (inside e) a.0.0 a.0.1 fits a.1 in
    let second = optional-found 0x81 small_of IsSmall (value_of small-format 0x81) a.0.1 b.0.0 b.0.1 first.3 b.1 in
    let last : a.0.1.rest ≡ second.0 = second.2 ∙ (ap (λ (r : List ℕ). second.0 ++ r) (end-ok b.0.1 d.0 d.1) ∙ append-nil second.0) in
    subst (λ (x : PolicyConstraints). IsPolicyConstraints e.content x) same
    (record { explicit = first.0; mapping = second.0; requireExplicitPolicy = first.1; inhibitPolicyMapping = second.1; fields = first.2 ∙ ap (λ (r : List ℕ). first.0 ++ r) last })

policy-again : (e : Tlv) (p : PolicyConstraints) → IsPolicyConstraints e.content p → policy_constraints_of e ≡ Ok p
unfolding policy_constraints_of
policy-again e p is =
    let a =
    optional-again 0x80 small_of IsSmall (value_of small-format 0x80) (inside e) p.require_explicit_policy is.explicit is.mapping is.requireExplicitPolicy
    (not-begun 0x81 0x80 is.mapping p.inhibit_policy_mapping is.inhibitPolicyMapping refl) is.fields in
    let place : Place = record { rest = is.mapping; at = e.start + length is.explicit } in
    let b = optional-again 0x81 small_of IsSmall (value_of small-format 0x81) place p.inhibit_policy_mapping is.mapping [] is.inhibitPolicyMapping refl (sym (append-nil is.mapping)) in
    let d = end-again (e.start + length is.explicit + length is.mapping) in
    rw (a, b, d) refl

pub policy_constraints-format : Format policy_constraints_of IsPolicyConstraints policy_constraints_fields no_rules
unfolding policy_constraints_of
policy_constraints-format =
    record {
      found = policy-found;
      again = policy-again;
      judged = λ e.
          no_more _ _ _
          (under (optional_of 0x80 small_of (inside e)) _ _ _
          (optional-judged 0x80 plain small_integer_rules (optional (primitive 0x81 small_integer_rules) then nothing) (inside e) small_of _ Whatever _ small-format.judged (λ explicit after.
          under (optional_of 0x81 small_of after) _ _ _
          (optional-judged 0x81 plain small_integer_rules nothing after small_of _ Whatever _ small-format.judged (λ mapping behind. ends behind _ _ (λ h. tt))))));
    }
