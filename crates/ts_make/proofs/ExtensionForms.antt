-- The extensions of a description are encoded so, whatever their values say.
use Rattle.std.proofs.Common.{◌≡◌, ℕ, ◌≤◌, Bool, true, false, List, [], ◌∷◌, ◌++◌, length, refl, arith, length-append}
use Rattle.std.specs.List.{flat_map, AllByRecursion}
use Rattle.ts_der.specs.Element.{encode}
use Rattle.ts_der.specs.ObjectIdentifier.{is_oid, series_of, subidentifier}
use Rattle.ts_shape.specs.Fields.{Within, IfAny}
use Rattle.ts_shape.specs.Items.{AreItems}
use Rattle.ts_extensions.specs.Extension.{Extension, IsExtension, AreExplicit}
use Rattle.ts_ext.specs.Encoding.{IfTrue}
use Rattle.ts_make.specs.declared.description.ExtensionText.{ExtensionText}
use Rattle.ts_make.specs.declared.description.ExtensionText.TheVariants as part
use Rattle.ts_make.specs.declared.kind.Kind.{Kind}
use Rattle.ts_make.specs.declared.kind.Kind.TheVariants as kind
use Rattle.ts_make.specs.Extensions.{critical_octets, extension_content, extension_octets}
use Rattle.ts_make.specs.Extensions.{field_octets, field_of, id_ce, key_usage, sequence_extension}
use Rattle.ts_make.specs.Extensions.{part_extensions, of_kind, kinds, described_extensions}
use Rattle.ts_make.specs.KeyUsage.{usage_numbers}
use Rattle.ts_make.proofs.StandIns.{content-short, fits-sequence}

-- ---- object identifiers

-- each is known by an object identifier
abbrev pub AreKnown : List Extension → Type 0
AreKnown xs = AllByRecursion (λ x. is_oid x.extnID ≡ true) xs

pub known-append : (xs ys : List Extension) → AreKnown xs → AreKnown ys → AreKnown (xs ++ ys)
known-append [] ys first second = second
known-append (x ∷ xs) ys first second = (first.0, known-append xs ys first.1 second)

known-pieces : {X : Type 0} (f : X → List Extension) (xs : List X) → ((x : X) → AreKnown (f x)) → AreKnown (flat_map f xs)
known-pieces f [] each = tt
known-pieces f (x ∷ xs) each = known-append (f x) (flat_map f xs) (each x) (known-pieces f xs each)

pub sequence-known : (arc : ℕ) (critical : Bool) (content : List ℕ) → is_oid (id_ce arc) ≡ true → AreKnown (sequence_extension arc critical content)
sequence-known arc critical [] is = tt
sequence-known arc critical (octet ∷ content) is = (is, tt)

usage-known : (numbers : List ℕ) → AreKnown (key_usage numbers)
unfolding is_oid series_of subidentifier
usage-known [] = tt
usage-known (n ∷ numbers) = (refl, tt)

alone-known : (k : Kind) (text : ExtensionText) → AreKnown (part_extensions k text)
unfolding is_oid series_of subidentifier
alone-known kind.BasicConstraints (part.BasicConstraints length) = (refl, tt)
alone-known kind.InhibitAnyPolicy (part.InhibitAnyPolicy n) = (refl, tt)
alone-known kind.Critical (part.Critical oid) = (oid.form, tt)
alone-known other text = tt

kind-known : (texts : List ExtensionText) (k : Kind) → AreKnown (of_kind k texts)
unfolding is_oid series_of subidentifier
kind-known texts kind.KeyUsage = usage-known (usage_numbers texts)
kind-known texts kind.SubjectAltName = sequence-known 17 _ _ refl
kind-known texts kind.BasicConstraints = known-pieces (part_extensions kind.BasicConstraints) texts (alone-known kind.BasicConstraints)
kind-known texts kind.NameConstraints = sequence-known 30 _ _ refl
kind-known texts kind.CrlDistributionPoints = sequence-known 31 _ _ refl
kind-known texts kind.CertificatePolicies = sequence-known 32 _ _ refl
kind-known texts kind.PolicyMappings = sequence-known 33 _ _ refl
kind-known texts kind.PolicyConstraints = sequence-known 36 _ _ refl
kind-known texts kind.ExtendedKeyUsage = sequence-known 37 _ _ refl
kind-known texts kind.InhibitAnyPolicy = known-pieces (part_extensions kind.InhibitAnyPolicy) texts (alone-known kind.InhibitAnyPolicy)
kind-known texts kind.Critical = known-pieces (part_extensions kind.Critical) texts (alone-known kind.Critical)

pub described-known : (texts : List ExtensionText) → AreKnown (described_extensions texts)
unfolding described_extensions
described-known texts = known-pieces (λ k. of_kind k texts) kinds (kind-known texts)

-- ---- encoding

critical-is : (b : Bool) → IfTrue 0x01 (critical_octets b) b
critical-is true = refl
critical-is false = refl

extension-is : (x : Extension) → is_oid x.extnID ≡ true → length (extension_octets x) ≤ 4194304 → Within 0x30 IsExtension (extension_octets x) x
unfolding extension_content
extension-is x known le =
    let id = encode 0x06 x.extnID in
    let flag = critical_octets x.critical in
    let value = encode 0x04 x.extnValue in
    let content = id ++ (flag ++ value) in
    let whole = content-short 0x30 content in
    let first = length-append id (flag ++ value) in
    let second = length-append flag value in
    let id_short = content-short 0x06 x.extnID in
    let value_short = content-short 0x04 x.extnValue in
    record {
      content = content;
      fits = fits-sequence content (omega arith);
      encoded = refl;
      value = record {
        id = id;
        flag = flag;
        value = value;
        extnID = record { content = x.extnID; fits = record { octet = omega arith; low = omega arith; short = omega arith }; encoded = refl; value = (refl, known) };
        critical = critical-is x.critical;
        extnValue = record { content = x.extnValue; fits = record { octet = omega arith; low = omega arith; short = omega arith }; encoded = refl; value = refl };
        fields = refl;
      };
    }

pub items-are : (xs : List Extension) → AreKnown xs → length (flat_map extension_octets xs) ≤ 4194304 → AreItems (Within 0x30 IsExtension) (flat_map extension_octets xs) xs
items-are [] known le = refl
items-are (x ∷ xs) known le =
    let both = length-append (extension_octets x) (flat_map extension_octets xs) in
    (extension_octets x, flat_map extension_octets xs, extension-is x known.0 (omega arith), refl, items-are xs known.1 (omega arith))

-- the field
pub field-is : (xs : List Extension) → AreKnown xs → length (field_octets xs) ≤ 4194304 → IfAny 0xA3 AreExplicit (field_octets xs) (field_of xs)
unfolding field_octets
field-is [] known le = refl
field-is (x ∷ xs) known le =
    let items = flat_map extension_octets (x ∷ xs) in
    let list = encode 0x30 items in
    let whole = content-short 0xA3 list in
    let inner = content-short 0x30 items in
    record {
      content = list;
      fits = record { octet = omega arith; low = omega arith; short = omega arith };
      encoded = refl;
      value = record {
        content = items;
        fits = fits-sequence items (omega arith);
        encoded = refl;
        value = (λ none. absurd (cc), items-are (x ∷ xs) known (omega arith));
      };
    }
