-- The names within values say what the parts do.
use Rattle.std.proofs.Common.{◌≡◌, ◌≢◌, ℕ, ◌≤◌, ◌<◌, ◌%◌, List, [], ◌∷◌, ◌++◌, length, Some, None, refl, sym, arith, length-append}
use Rattle.std.proofs.lemmas.List.{append-nil}
use Rattle.std.specs.List.{flat_map}
use Rattle.ts_der.specs.Element.{encode}
use Rattle.ts_shape.specs.Fields.{Within, IfAny}
use Rattle.ts_shape.specs.Items.{AreItems}
use Rattle.ts_name.specs.General.{IsGeneralName, uniformResourceIdentifier}
use Rattle.ts_name.specs.Subtree.{GeneralSubtree, IsSubtree}
use Rattle.ts_ext.specs.declared.known.Known.TheVariants as extension
use Rattle.ts_ext.specs.Ext.{IsExt, subjectAltName, nameConstraints, cRLDistributionPoints}
use Rattle.ts_ext.specs.NameConstraints.{AreSubtrees}
use Rattle.ts_ext.specs.Points.{IsPoint, fullName}
use Rattle.ts_make.specs.declared.description.NameText.{NameText}
use Rattle.ts_make.specs.declared.description.NameText.TheVariants.{Dns, Ip, Mail}
use Rattle.ts_make.specs.declared.description.ExtensionText.{ExtensionText}
use Rattle.ts_make.specs.declared.description.ExtensionText.TheVariants as part
use Rattle.ts_make.specs.declared.items.Items.TheVariants as items
use Rattle.ts_make.specs.Items.{item, items_of, general_name, general_subtree, distribution_point}
use Rattle.ts_make.specs.Extensions.{tagged_if_any, constraints_content}
use Rattle.ts_make.specs.Told.{name_said, IsAsciiName, IsAsciiPart, AreAscii, alternative_name, subtree_said, permitted_subtrees, excluded_subtrees, if_any, point}
use Rattle.ts_make.proofs.StandIns.{content-short, fits-sequence}
use Rattle.ts_make.proofs.ToldCrls.{told-items, one-item}

-- ---- names

name-is : (name : NameText) → IsAsciiName name → length (general_name name) ≤ 4194304 → IsGeneralName (general_name name) (name_said name)
name-is (Dns text) ascii le =
    let short = content-short 0x82 text.now in
    record { tag = 0x82; content = text.now; fits = record { octet = omega arith; low = omega arith; short = omega arith }; encoded = refl; form = (refl, (refl, ascii)) }
name-is (Ip octets) ascii le =
    let short = content-short 0x87 octets.now in
    record { tag = 0x87; content = octets.now; fits = record { octet = omega arith; low = omega arith; short = omega arith }; encoded = refl; form = (refl, refl) }
name-is (Mail text) ascii le =
    let short = content-short 0x81 text.now in
    record { tag = 0x81; content = text.now; fits = record { octet = omega arith; low = omega arith; short = omega arith }; encoded = refl; form = (refl, (refl, ascii)) }

alternative-part : (t : ExtensionText) → IsAsciiPart t → length (item items.AlternativeNames t) ≤ 4194304 → AreItems IsGeneralName (item items.AlternativeNames t) (alternative_name t)
alternative-part (part.SubjectAltName name) ascii le = one-item IsGeneralName (general_name name) (name_said name) (name-is name ascii le)
alternative-part other ascii le = refl

pub names-told : (texts : List ExtensionText) → AreAscii texts → flat_map alternative_name texts ≢ [] → length (items_of items.AlternativeNames texts) ≤ 4194304
    → IsExt (Some extension.SubjectAltName) (encode 0x30 (items_of items.AlternativeNames texts)) (subjectAltName (flat_map alternative_name texts))
names-told texts ascii some le =
    let content = items_of items.AlternativeNames texts in
    record {
      content = content;
      fits = fits-sequence content le;
      encoded = refl;
      value = (flat_map alternative_name texts, refl, (some, told-items IsGeneralName (item items.AlternativeNames) alternative_name IsAsciiPart alternative-part texts ascii le));
    }

-- ---- subtrees

subtree-is : (name : NameText) → IsAsciiName name → length (general_subtree name) ≤ 4194304 → Within 0x30 IsSubtree (general_subtree name) (subtree_said name)
subtree-is name ascii le =
    let base = general_name name in
    let short = content-short 0x30 base in
    record {
      content = base;
      fits = fits-sequence base (omega arith);
      encoded = refl;
      value = record {
        named = base;
        least = [];
        most = [];
        base = name-is name ascii (omega arith);
        minimum = record { minimum_octets = None; encoded = refl; value = refl };
        maximum = refl;
        fields = sym (append-nil base);
      };
    }

permitted-part : (t : ExtensionText) → IsAsciiPart t → length (item items.PermittedSubtrees t) ≤ 4194304 → AreItems (Within 0x30 IsSubtree) (item items.PermittedSubtrees t) (permitted_subtrees t)
permitted-part (part.PermittedSubtree name) ascii le = one-item (Within 0x30 IsSubtree) (general_subtree name) (subtree_said name) (subtree-is name ascii le)
permitted-part other ascii le = refl

excluded-part : (t : ExtensionText) → IsAsciiPart t → length (item items.ExcludedSubtrees t) ≤ 4194304 → AreItems (Within 0x30 IsSubtree) (item items.ExcludedSubtrees t) (excluded_subtrees t)
excluded-part (part.ExcludedSubtree name) ascii le = one-item (Within 0x30 IsSubtree) (general_subtree name) (subtree_said name) (subtree-is name ascii le)
excluded-part other ascii le = refl

-- an element that is absent where there are no items
field-is : (tag : ℕ) (octets : List ℕ) (xs : List GeneralSubtree) → tag < 256 → tag % 32 ≢ 31 → AreItems (Within 0x30 IsSubtree) octets xs → length (tagged_if_any tag octets) ≤ 4194304
    → IfAny tag AreSubtrees (tagged_if_any tag octets) (if_any xs)
field-is tag [] [] octet low are le = refl
field-is tag (o ∷ octets) [] octet low are le = absurd (cc)
field-is tag [] (x ∷ xs) octet low are le = absurd (none are.0 are.1 are.2 are.3)
  where
    none : (w rest : List ℕ) → Within 0x30 IsSubtree w x → [] ≡ w ++ rest → ⊥
    none [] rest is e = let s = is.encoded in cc
    none (o ∷ w) rest is e = cc
field-is tag (o ∷ octets) (x ∷ xs) octet low are le =
    let short = content-short tag (o ∷ octets) in
    record { content = o ∷ octets; fits = record { octet = octet; low = low; short = omega arith }; encoded = refl; value = (λ none. absurd (cc), are) }

items-short : (tag : ℕ) (octets : List ℕ) → length octets ≤ length (tagged_if_any tag octets)
items-short tag [] = omega arith
items-short tag (o ∷ octets) = content-short tag (o ∷ octets)

pub constraints-told : (texts : List ExtensionText) → AreAscii texts → length (constraints_content texts) ≤ 4194304
    → IsExt (Some extension.NameConstraints) (encode 0x30 (constraints_content texts))
    (nameConstraints (record { permittedSubtrees = if_any (flat_map permitted_subtrees texts); excludedSubtrees = if_any (flat_map excluded_subtrees texts) }))
unfolding constraints_content
constraints-told texts ascii le =
    let p = items_of items.PermittedSubtrees texts in
    let x = items_of items.ExcludedSubtrees texts in
    let first = tagged_if_any 0xA0 p in
    let second = tagged_if_any 0xA1 x in
    let both = length-append first second in
    let p_short = items-short 0xA0 p in
    let x_short = items-short 0xA1 x in
    let p_are = told-items (Within 0x30 IsSubtree) (item items.PermittedSubtrees) permitted_subtrees IsAsciiPart permitted-part texts ascii (omega arith) in
    let x_are = told-items (Within 0x30 IsSubtree) (item items.ExcludedSubtrees) excluded_subtrees IsAsciiPart excluded-part texts ascii (omega arith) in
    record {
      content = first ++ second;
      fits = fits-sequence (first ++ second) le;
      encoded = refl;
      value = (
        record { permittedSubtrees = if_any (flat_map permitted_subtrees texts); excludedSubtrees = if_any (flat_map excluded_subtrees texts) },
        refl,
        record {
          permitted = first;
          excluded = second;
          permittedSubtrees = field-is 0xA0 p (flat_map permitted_subtrees texts) (omega arith) (λ h. omega arith) p_are (omega arith);
          excludedSubtrees = field-is 0xA1 x (flat_map excluded_subtrees texts) (omega arith) (λ h. omega arith) x_are (omega arith);
          fields = refl;
        },
      );
    }

-- ---- distribution points

point-part : (t : ExtensionText) → IsAsciiPart t → length (item items.DistributionPoints t) ≤ 4194304 → AreItems (Within 0x30 IsPoint) (item items.DistributionPoints t) (point t)
point-part (part.DistributionPoint uri) ascii le =
    let name = encode 0x86 uri.now in
    let full = encode 0xA0 name in
    let wrapped = encode 0xA0 full in
    let s1 = content-short 0x30 wrapped in
    let s2 = content-short 0xA0 full in
    let s3 = content-short 0xA0 name in
    let s4 = content-short 0x86 uri.now in
    one-item (Within 0x30 IsPoint) (distribution_point uri.now) (record { distributionPoint = Some (fullName (uniformResourceIdentifier uri.now ∷ [])); reasons = None; cRLIssuer = None })
    (record {
      content = wrapped;
      fits = fits-sequence wrapped (omega arith);
      encoded = refl;
      value = record {
        named = wrapped;
        flags = [];
        issued_by = [];
        distributionPoint = record {
          content = full;
          fits = record { octet = omega arith; low = omega arith; short = omega arith };
          encoded = refl;
          value = record {
            tag = 0xA0;
            content = name;
            fits = record { octet = omega arith; low = omega arith; short = omega arith };
            encoded = refl;
            form = (
              refl,
              (
                λ none. absurd (cc),
                one-item IsGeneralName name (uniformResourceIdentifier uri.now)
                    (record { tag = 0x86; content = uri.now; fits = record { octet = omega arith; low = omega arith; short = omega arith }; encoded = refl; form = (refl, (refl, ascii)) }),
              ),
            );
          };
        };
        reasons = refl;
        cRLIssuer = refl;
        fields = sym (append-nil wrapped);
      };
    })
point-part other ascii le = refl

pub points-told : (texts : List ExtensionText) → AreAscii texts → flat_map point texts ≢ [] → length (items_of items.DistributionPoints texts) ≤ 4194304
    → IsExt (Some extension.CrlDistributionPoints) (encode 0x30 (items_of items.DistributionPoints texts)) (cRLDistributionPoints (flat_map point texts))
points-told texts ascii some le =
    let content = items_of items.DistributionPoints texts in
    record {
      content = content;
      fits = fits-sequence content le;
      encoded = refl;
      value = (flat_map point texts, refl, (some, told-items (Within 0x30 IsPoint) (item items.DistributionPoints) point IsAsciiPart point-part texts ascii le));
    }
