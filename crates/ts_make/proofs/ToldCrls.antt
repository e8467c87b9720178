-- The lists within values say what the parts do.
use Rattle.std.proofs.Common.{◌≡◌, ◌≢◌, ℕ, ◌≤◌, true, List, [], ◌∷◌, ◌++◌, length, Some, refl, sym, ap, ◌∙◌, arith, length-append, append_assoc}
use Rattle.std.proofs.lemmas.List.{append-nil}
use Rattle.std.specs.List.{flat_map, AllByRecursion}
use Rattle.ts_der.specs.Element.{encode}
use Rattle.ts_der.specs.ObjectIdentifier.{is_oid}
use Rattle.ts_shape.specs.Fields.{Within, IsOid}
use Rattle.ts_shape.specs.Items.{AreItems}
use Rattle.ts_ext.specs.declared.known.Known.TheVariants as extension
use Rattle.ts_ext.specs.Ext.{IsExt, certificatePolicies, policyMappings, extKeyUsage}
use Rattle.ts_ext.specs.Encoding.{IsPolicyInformation, IsPolicyMapping}
use Rattle.ts_make.specs.declared.description.ExtensionText.{ExtensionText}
use Rattle.ts_make.specs.declared.description.ExtensionText.TheVariants as part
use Rattle.ts_make.specs.declared.items.Items.TheVariants as items
use Rattle.ts_make.specs.Items.{item, items_of}
use Rattle.ts_make.specs.Told.{policy, mapping, purpose}
use Rattle.ts_make.proofs.StandIns.{content-short, fits-sequence}

-- ---- pieces that are items

items-append : {A : Type 0} (Encodes : List ℕ → A → Type 0) (a b : List ℕ) (xs ys : List A) → AreItems Encodes a xs → AreItems Encodes b ys → AreItems Encodes (a ++ b) (xs ++ ys)
items-append Encodes a b [] ys first second = rw first second
items-append Encodes a b (x ∷ xs) ys first second =
    (first.0, first.1 ++ b, first.2, ap (λ (o : List ℕ). o ++ b) first.3 ∙ append_assoc first.0 first.1 b, items-append Encodes first.1 b xs ys first.4 second)

-- where each part puts its items into a list, the list is all of them
pub told-items : {A : Type 0} (Encodes : List ℕ → A → Type 0) (f : ExtensionText → List ℕ) (g : ExtensionText → List A) (P : ExtensionText → Type 0)
    → ((t : ExtensionText) → P t → length (f t) ≤ 4194304 → AreItems Encodes (f t) (g t)) → (texts : List ExtensionText) → AllByRecursion P texts → length (flat_map f texts) ≤ 4194304
    → AreItems Encodes (flat_map f texts) (flat_map g texts)
told-items Encodes f g P each [] all le = refl
told-items Encodes f g P each (t ∷ texts) all le =
    let both = length-append (f t) (flat_map f texts) in
    items-append Encodes (f t) (flat_map f texts) (g t) (flat_map g texts) (each t all.0 (omega arith)) (told-items Encodes f g P each texts all.1 (omega arith))

-- every list of parts has what every part has
pub any-parts : (texts : List ExtensionText) → AllByRecursion (λ t. Unit {0}) texts
any-parts [] = tt
any-parts (t ∷ texts) = (tt, any-parts texts)

-- one item
pub one-item : {A : Type 0} (Encodes : List ℕ → A → Type 0) (octets : List ℕ) (x : A) → Encodes octets x → AreItems Encodes octets (x ∷ [])
one-item Encodes octets x is = (octets, [], is, sym (append-nil octets), refl)

-- ---- object identifiers

-- an element of an object identifier
pub oid-is : (oid : List ℕ) → is_oid oid ≡ true → length (encode 0x06 oid) ≤ 4194304 → Within 0x06 IsOid (encode 0x06 oid) oid
oid-is oid is le =
    let short = content-short 0x06 oid in
    record { content = oid; fits = record { octet = omega arith; low = omega arith; short = omega arith }; encoded = refl; value = (refl, is) }

policy-part : (t : ExtensionText) → Unit {0} → length (item items.Policies t) ≤ 4194304 → AreItems (Within 0x30 IsPolicyInformation) (item items.Policies t) (policy t)
policy-part (part.Policy oid) any le =
    let id = encode 0x06 oid.content.now in
    let short = content-short 0x30 id in
    one-item (Within 0x30 IsPolicyInformation) (encode 0x30 id) (record { policyIdentifier = oid.content.now; policyQualifiers = _ })
    (record {
      content = id;
      fits = fits-sequence id (omega arith);
      encoded = refl;
      value = record { id = id; qualifiers = []; policyIdentifier = oid-is oid.content.now oid.form (omega arith); policyQualifiers = refl; fields = sym (append-nil id) };
    })
policy-part other any le = refl

mapping-part : (t : ExtensionText) → Unit {0} → length (item items.PolicyMappings t) ≤ 4194304 → AreItems (Within 0x30 IsPolicyMapping) (item items.PolicyMappings t) (mapping t)
mapping-part (part.PolicyMapping issuer subject) any le =
    let first = encode 0x06 issuer.content.now in
    let second = encode 0x06 subject.content.now in
    let short = content-short 0x30 (first ++ second) in
    let both = length-append first second in
    one-item (Within 0x30 IsPolicyMapping) (encode 0x30 (first ++ second)) (record { issuerDomainPolicy = issuer.content.now; subjectDomainPolicy = subject.content.now })
    (record {
      content = first ++ second;
      fits = fits-sequence (first ++ second) (omega arith);
      encoded = refl;
      value = record {
        issuer = first;
        subject = second;
        issuerDomainPolicy =
            oid-is issuer.content.now issuer.form (omega arith);
        subjectDomainPolicy =
            oid-is subject.content.now subject.form (omega arith);
        fields = refl;
      };
    })
mapping-part other any le = refl

purpose-part : (t : ExtensionText) → Unit {0} → length (item items.KeyPurposes t) ≤ 4194304 → AreItems (Within 0x06 IsOid) (item items.KeyPurposes t) (purpose t)
purpose-part (part.KeyPurpose oid) any le = one-item (Within 0x06 IsOid) (encode 0x06 oid.content.now) oid.content.now (oid-is oid.content.now oid.form le)
purpose-part other any le = refl

-- ---- values

pub policies-told : (texts : List ExtensionText) → flat_map policy texts ≢ [] → length (items_of items.Policies texts) ≤ 4194304
    → IsExt (Some extension.CertificatePolicies) (encode 0x30 (items_of items.Policies texts)) (certificatePolicies (flat_map policy texts))
policies-told texts some le =
    let content = items_of items.Policies texts in
    record {
      content = content;
      fits = fits-sequence content le;
      encoded = refl;
      value = (flat_map policy texts, refl, (some, told-items (Within 0x30 IsPolicyInformation) (item items.Policies) policy (λ t. Unit {0}) policy-part texts (any-parts texts) le));
    }

pub mappings-told : (texts : List ExtensionText) → flat_map mapping texts ≢ [] → length (items_of items.PolicyMappings texts) ≤ 4194304
    → IsExt (Some extension.PolicyMappings) (encode 0x30 (items_of items.PolicyMappings texts)) (policyMappings (flat_map mapping texts))
mappings-told texts some le =
    let content = items_of items.PolicyMappings texts in
    record {
      content = content;
      fits = fits-sequence content le;
      encoded = refl;
      value = (flat_map mapping texts, refl, (some, told-items (Within 0x30 IsPolicyMapping) (item items.PolicyMappings) mapping (λ t. Unit {0}) mapping-part texts (any-parts texts) le));
    }

pub purposes-told : (texts : List ExtensionText) → flat_map purpose texts ≢ [] → length (items_of items.KeyPurposes texts) ≤ 4194304
    → IsExt (Some extension.ExtendedKeyUsage) (encode 0x30 (items_of items.KeyPurposes texts)) (extKeyUsage (flat_map purpose texts))
purposes-told texts some le =
    let content = items_of items.KeyPurposes texts in
    record {
      content = content;
      fits = fits-sequence content le;
      encoded = refl;
      value = (flat_map purpose texts, refl, (some, told-items (Within 0x06 IsOid) (item items.KeyPurposes) purpose (λ t. Unit {0}) purpose-part texts (any-parts texts) le));
    }
