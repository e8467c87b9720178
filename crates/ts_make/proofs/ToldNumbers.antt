-- The numbers within values are those of the parts.
use Rattle.std.proofs.Common.{◌≡◌, ◌≢◌, ℕ, ◌+◌, ◌%◌, ◌<◌, ◌≤◌, ◌^◌, true, List, [], ◌∷◌, ◌++◌, length, Option, Some, None, refl, sym, arith, length-append}
use Rattle.std.specs.List.{flat_map}
use Rattle.std.proofs.lemmas.Bool.{lt-ltb}
use Rattle.std.proofs.lemmas.List.{append-nil}
use Rattle.std.proofs.lemmas.List.Concat.{flat_map-append}
use Rattle.ts_der.specs.Element.{encode, length_octets}
use Rattle.ts_der.specs.Boolean.{boolean_content}
use Rattle.ts_shape.specs.Fields.{Within, IfAny}
use Rattle.ts_ext.specs.declared.known.Known.TheVariants as extension
use Rattle.ts_ext.specs.Ext.{IsExt, basicConstraints, inhibitAnyPolicy, policyConstraints}
use Rattle.ts_ext.specs.Encoding.{IsSmall}
use Rattle.ts_make.specs.Serial.{serial_content}
use Rattle.ts_make.specs.declared.description.ExtensionText.{ExtensionText}
use Rattle.ts_make.specs.declared.description.ExtensionText.TheVariants as part
use Rattle.ts_make.specs.declared.items.Items.TheVariants as items
use Rattle.ts_make.specs.Items.{item, items_of}
use Rattle.ts_make.specs.Extensions.{path_length, basic_constraints_value, policy_constraints_content}
use Rattle.ts_make.specs.Told.{IsSmallIfAny, explicit_policy, inhibited_mapping, list_of}
use Rattle.ts_make.proofs.StandIns.{fits-sequence}
use Rattle.ts_make.proofs.SerialNumbers.{serial-small}

-- at most five octets
serial-length : (n : ℕ) → length (serial_content n) ≤ 5
unfolding serial_content
serial-length n = grind arith

-- the element of a number
number-is : (n : ℕ) → n < 2 ^ 32 → Within 0x02 IsSmall (encode 0x02 (serial_content n)) n
number-is n high =
    let short = serial-length n in
    record { content = serial_content n; fits = record { octet = omega arith; low = omega arith; short = omega arith }; encoded = refl; value = serial-small n high }

length-is : (l : Option ℕ) → IsSmallIfAny l → IfAny 0x02 IsSmall (path_length l) l
length-is None small = refl
length-is (Some n) small = number-is n small

pub any-policy-told : (n : ℕ) → n < 2 ^ 32 → IsExt (Some extension.InhibitAnyPolicy) (encode 0x02 (serial_content n)) (inhibitAnyPolicy n)
any-policy-told n high =
    let is = number-is n high in
    record { content = is.content; fits = is.fits; encoded = is.encoded; value = (n, refl, is.value) }

-- an element of few octets has two more
few : (tag : ℕ) (content : List ℕ) → length content < 128 → length (encode tag content) ≡ length content + 2
unfolding length_octets
few tag content lt = rw (lt-ltb (length content) 128 lt) (omega arith)

path-short : (l : Option ℕ) → length (path_length l) ≤ 7
path-short None = omega arith
path-short (Some n) = let short = serial-length n in let all = few 0x02 (serial_content n) (omega arith) in omega arith

pub basic_constraints-told : (l : Option ℕ) → IsSmallIfAny l → IsExt (Some extension.BasicConstraints) (basic_constraints_value l) (basicConstraints (record { ca = true; path_len_constraint = l }))
unfolding basic_constraints_value
basic_constraints-told l small =
    let flag = encode 0x01 (boolean_content true) in
    let short = path-short l in
    let first = few 0x01 (boolean_content true) (omega arith) in
    let both = length-append flag (path_length l) in
    record {
      content = flag ++ path_length l;
      fits = fits-sequence (flag ++ path_length l) (omega arith);
      encoded = refl;
      value = (record { ca = true; path_len_constraint = l }, refl, record { authority = flag; length = path_length l; cA = refl; pathLenConstraint = length-is l small; fields = refl });
    }

-- ---- policy constraints

explicit-items : (texts : List ExtensionText) → items_of items.ExplicitPolicy texts ≡ flat_map (λ n. encode 0x80 (serial_content n)) (flat_map explicit_policy texts)
explicit-items texts = by_parts texts
  where
    one : (t : ExtensionText) → item items.ExplicitPolicy t ≡ flat_map (λ n. encode 0x80 (serial_content n)) (explicit_policy t)
    one (part.RequireExplicitPolicy n) = sym (append-nil (encode 0x80 (serial_content n)))
    one other = refl

    by_parts : (texts : List ExtensionText) → items_of items.ExplicitPolicy texts ≡ flat_map (λ n. encode 0x80 (serial_content n)) (flat_map explicit_policy texts)
    by_parts [] = refl
    by_parts (t ∷ texts) = rw (one t, by_parts texts) (sym (flat_map-append (λ n. encode 0x80 (serial_content n)) (explicit_policy t) (flat_map explicit_policy texts)))

mapping-items : (texts : List ExtensionText) → items_of items.InhibitedMapping texts ≡ flat_map (λ n. encode 0x81 (serial_content n)) (flat_map inhibited_mapping texts)
mapping-items texts = by_parts texts
  where
    one : (t : ExtensionText) → item items.InhibitedMapping t ≡ flat_map (λ n. encode 0x81 (serial_content n)) (inhibited_mapping t)
    one (part.InhibitPolicyMapping n) = sym (append-nil (encode 0x81 (serial_content n)))
    one other = refl

    by_parts : (texts : List ExtensionText) → items_of items.InhibitedMapping texts ≡ flat_map (λ n. encode 0x81 (serial_content n)) (flat_map inhibited_mapping texts)
    by_parts [] = refl
    by_parts (t ∷ texts) = rw (one t, by_parts texts) (sym (flat_map-append (λ n. encode 0x81 (serial_content n)) (inhibited_mapping t) (flat_map inhibited_mapping texts)))

-- the octets of a number that may be absent
if-any-is : (tag : ℕ) (o : Option ℕ) → tag < 256 → tag % 32 ≢ 31 → IsSmallIfAny o → IfAny tag IsSmall (flat_map (λ n. encode tag (serial_content n)) (list_of o)) o
if-any-is tag None octet low small = refl
if-any-is tag (Some n) octet low small =
    let short = serial-length n in
    record { content = serial_content n; fits = record { octet = octet; low = low; short = omega arith }; encoded = append-nil (encode tag (serial_content n)); value = serial-small n small }

if-any-short : (tag : ℕ) (o : Option ℕ) → length (flat_map (λ n. encode tag (serial_content n)) (list_of o)) ≤ 7
if-any-short tag None = omega arith
if-any-short tag (Some n) =
    let short = serial-length n in
    let all = few tag (serial_content n) (omega arith) in
    omega (arith, length-append (encode tag (serial_content n)) [])

pub policy_constraints-told : (texts : List ExtensionText) (explicit mapping : Option ℕ) → flat_map explicit_policy texts ≡ list_of explicit → flat_map inhibited_mapping texts ≡ list_of mapping
    → IsSmallIfAny explicit → IsSmallIfAny mapping
    → IsExt (Some extension.PolicyConstraints) (encode 0x30 (policy_constraints_content texts)) (policyConstraints (record { require_explicit_policy = explicit; inhibit_policy_mapping = mapping }))
unfolding policy_constraints_content
policy_constraints-told texts explicit mapping first second small few_more =
    let a = flat_map (λ n. encode 0x80 (serial_content n)) (list_of explicit) in
    let b = flat_map (λ n. encode 0x81 (serial_content n)) (list_of mapping) in
    let same : items_of items.ExplicitPolicy texts ++ items_of items.InhibitedMapping texts ≡ a ++ b = rw (explicit-items texts, mapping-items texts, first, second) refl in
    let short_a = if-any-short 0x80 explicit in
    let short_b = if-any-short 0x81 mapping in
    let both = length-append a b in
    rw same (record {
      content = a ++ b;
      fits = fits-sequence (a ++ b) (omega arith);
      encoded = refl;
      value = (
        record { require_explicit_policy = explicit; inhibit_policy_mapping = mapping },
        refl,
        record {
          explicit = a;
          mapping = b;
          requireExplicitPolicy = if-any-is 0x80 explicit (omega arith) (λ h. omega arith) small;
          inhibitPolicyMapping = if-any-is 0x81 mapping (omega arith) (λ h. omega arith) few_more;
          fields = refl;
        },
      );
    })
