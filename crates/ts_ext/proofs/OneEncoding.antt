-- No two contents encode one value of an extension, and no content encodes two.
use Rattle.std.proofs.Common.{◌≡◌, ℕ, true, false, List, [], ◌∷◌, ◌++◌, Option, Some, None, refl, sym, ap, subst, ◌∙◌}
use Rattle.std.specs.Prelude.{unwrap_or, pos}
use Rattle.std.proofs.lemmas.List.{append-nil}
use Rattle.ts_der.specs.declared.fault.Fault.{Fault}
use Rattle.ts_der.specs.Octets.{AreOctets}
use Rattle.ts_der.specs.Element.{Tlv, encode}
use Rattle.ts_der.specs.Integer as integers
use Rattle.ts_der.specs.Integer.{twos_complement}
use Rattle.ts_der.proofs.Laws.{ok_is}
use Rattle.ts_der.proofs.OctetLists.{AreOctets-part, AreOctets-front, AreOctets-back}
use Rattle.ts_der.proofs.Unique.{one-content, one-number}
use Rattle.ts_name.specs.NameEncoding.{IsName}
use Rattle.ts_shape.specs.Fields.{Within, IfAny, IsOid}
use Rattle.ts_shape.specs.Items.{AreItems, AreSome, IsChoice}
use Rattle.ts_name.specs.General.{GeneralName, otherName, rfc822Name, dNSName, x400Address, directoryName, ediPartyName, uniformResourceIdentifier, iPAddress, registeredID, IsForm, IsGeneralName}
use Rattle.ts_name.specs.Subtree.{is_zero, IsDistance, IsSubtree}
use Rattle.ts_time.proofs.TextLemmas.{IsGeneral-one_text}
use Rattle.ts_ext.specs.declared.known.Known.{Known}
use Rattle.ts_ext.specs.declared.known.Known.TheVariants as extension
use Rattle.ts_ext.specs.Encoding.{IsKeyUsage, IsCrlNumber, IsReasonCode, IsInvalidityDate}
use Rattle.ts_ext.specs.Encoding.{IsBaseCrlNumber, AreCertificatePolicies, ArePolicyMappings}
use Rattle.ts_ext.specs.Encoding.{AreKeyPurposes, IsSkipCerts, IfTrue, IsSmall, IsBasicConstraints}
use Rattle.ts_ext.specs.Encoding.{IsPolicyConstraints, IsPolicyQualifier, IsPolicyInformation}
use Rattle.ts_ext.specs.Encoding.{IsPolicyMapping}
use Rattle.ts_ext.specs.NamedBits.{IsNamedBits}
use Rattle.ts_ext.specs.GeneralNames.{AreGeneralNames}
use Rattle.ts_ext.specs.Points.{PointName, fullName, nameRelativeToCRLIssuer, IsPointForm, IsPointName, IsPoint, ArePoints, IsIssuingPoint}
use Rattle.ts_ext.specs.AuthorityKey.{AreOctetsOf, IsAuthorityKey}
use Rattle.ts_ext.specs.NameConstraints.{AreConstraints}
use Rattle.ts_ext.specs.Ext.{ExtValue, subjectKeyIdentifier, keyUsage, subjectAltName}
use Rattle.ts_ext.specs.Ext.{issuerAltName, basicConstraints, cRLNumber, reasonCode, invalidityDate}
use Rattle.ts_ext.specs.Ext.{deltaCRLIndicator, issuingDistributionPoint, certificateIssuer}
use Rattle.ts_ext.specs.Ext.{nameConstraints, cRLDistributionPoints, certificatePolicies}
use Rattle.ts_ext.specs.Ext.{policyMappings, authorityKeyIdentifier, policyConstraints, extKeyUsage}
use Rattle.ts_ext.specs.Ext.{freshestCRL, inhibitAnyPolicy, unknown, As, IsContent, IsExt}
use Rattle.ts_ext.specs.Ext.{layout_of}
use Rattle.ts_ext.proofs.Exts.{ext-again}

-- one content for each value
abbrev One : {A : Type 0} → (List ℕ → A → Type 0) → Type 0
One {A} Encodes = (c d : List ℕ) (x : A) → AreOctets c → AreOctets d → Encodes c x → Encodes d x → c ≡ d

front : (c a b : List ℕ) → AreOctets c → c ≡ a ++ b → AreOctets a
front c a b h e = AreOctets-front a b (subst AreOctets e h)

back : (c a b : List ℕ) → AreOctets c → c ≡ a ++ b → AreOctets b
back c a b h e = AreOctets-back a b (subst AreOctets e h)

both : (a b c d : List ℕ) → a ≡ b → c ≡ d → a ++ c ≡ b ++ d
both a b c d p q = ap (λ (o : List ℕ). o ++ c) p ∙ ap (λ (o : List ℕ). b ++ o) q

-- the content of an element
inner : (tag : ℕ) (content c : List ℕ) → AreOctets c → c ≡ encode tag content → AreOctets content
inner tag content c h e = AreOctets-part tag content [] (subst AreOctets (e ∙ sym (append-nil (encode tag content))) h)

within-one : {A : Type 0} (tag : ℕ) (Encodes : List ℕ → A → Type 0) → One Encodes → One (Within tag Encodes)
within-one tag Encodes one c d x oc od a b =
    a.encoded ∙ (ap (λ (o : List ℕ). encode tag o) (one a.content b.content x (inner tag a.content c oc a.encoded) (inner tag b.content d od b.encoded) a.value b.value) ∙ sym b.encoded)

if-any-one : {A : Type 0} (tag : ℕ) (Encodes : List ℕ → A → Type 0) → One Encodes → One (IfAny tag Encodes)
if-any-one tag Encodes one c d None oc od a b = a ∙ sym b
if-any-one tag Encodes one c d (Some x) oc od a b = within-one tag Encodes one c d x oc od a b

if-true-one : (tag : ℕ) → One (IfTrue tag)
if-true-one tag c d true oc od a b = a ∙ sym b
if-true-one tag c d false oc od a b = a ∙ sym b

items-one : {A : Type 0} (Encodes : List ℕ → A → Type 0) → One Encodes → (c d : List ℕ) (xs : List A) → AreOctets c → AreOctets d → AreItems Encodes c xs → AreItems Encodes d xs → c ≡ d
items-one Encodes one c d [] oc od a b = a ∙ sym b
items-one Encodes one c d (x ∷ xs) oc od a b =
    let first = one a.0 b.0 x (front c a.0 a.1 oc a.3) (front d b.0 b.1 od b.3) a.2 b.2 in
    let others = items-one Encodes one a.1 b.1 xs (back c a.0 a.1 oc a.3) (back d b.0 b.1 od b.3) a.4 b.4 in
    a.3 ∙ (both a.0 b.0 a.1 b.1 first others ∙ sym b.3)

some-one : {A : Type 0} (Encodes : List ℕ → A → Type 0) → One Encodes → One (AreSome Encodes)
some-one Encodes one c d xs oc od a b = items-one Encodes one c d xs oc od a.1 b.1

choice-one : {A : Type 0} (Is : ℕ → List ℕ → A → Type 0)
    → ((t u : ℕ) (c d : List ℕ) (x : A) → AreOctets c → AreOctets d → Is t c x → Is u d x → (t ≡ u) × (c ≡ d)) → One (IsChoice Is)
choice-one Is same c d x oc od a b =
    let p = same a.tag b.tag a.content b.content x (inner a.tag a.content c oc a.encoded) (inner b.tag b.content d od b.encoded) a.form b.form in
    a.encoded ∙ (ap (λ (t : ℕ). encode t a.content) p.0 ∙ (ap (λ (o : List ℕ). encode b.tag o) p.1 ∙ sym b.encoded))

-- two parts, and three
two : (c d a1 a2 b1 b2 : List ℕ) → c ≡ a1 ++ a2 → d ≡ b1 ++ b2 → a1 ≡ b1 → a2 ≡ b2 → c ≡ d
two c d a1 a2 b1 b2 e f p q = e ∙ (both a1 b1 a2 b2 p q ∙ sym f)

-- ---- names

name-one : One IsName
name-one c d x oc od a b = a.whole ∙ sym b.whole

general-same : (t u : ℕ) (c d : List ℕ) (x : GeneralName) → AreOctets c → AreOctets d → IsForm t c x → IsForm u d x → (t ≡ u) × (c ≡ d)
general-same t u c d (otherName o) oc od a b = (a.0 ∙ sym b.0, a.1 ∙ sym b.1)
general-same t u c d (rfc822Name o) oc od a b = (a.0 ∙ sym b.0, a.1.0 ∙ sym b.1.0)
general-same t u c d (dNSName o) oc od a b = (a.0 ∙ sym b.0, a.1.0 ∙ sym b.1.0)
general-same t u c d (x400Address o) oc od a b = (a.0 ∙ sym b.0, a.1 ∙ sym b.1)
general-same t u c d (directoryName rdns) oc od a b = (a.0 ∙ sym b.0, within-one 0x30 IsName name-one c d rdns oc od a.1 b.1)
general-same t u c d (ediPartyName o) oc od a b = (a.0 ∙ sym b.0, a.1 ∙ sym b.1)
general-same t u c d (uniformResourceIdentifier o) oc od a b = (a.0 ∙ sym b.0, a.1.0 ∙ sym b.1.0)
general-same t u c d (iPAddress o) oc od a b = (a.0 ∙ sym b.0, a.1 ∙ sym b.1)
general-same t u c d (registeredID o) oc od a b = (a.0 ∙ sym b.0, a.1.0 ∙ sym b.1.0)

names-one : One AreGeneralNames
names-one = some-one IsGeneralName (choice-one IsForm general-same)

distance-one : One IsDistance
distance-one c d x oc od a b = a.0.0 ∙ sym b.0.0

minimum-is : (m : List ℕ) (x y : Option (List ℕ)) (c d : List ℕ) → AreOctets c → AreOctets d → m ≡ unwrap_or x (0 ∷ []) → m ≡ unwrap_or y (0 ∷ [])
    → IfAny 0x80 IsDistance c x → IfAny 0x80 IsDistance d y → c ≡ d
minimum-is m None None c d oc od e f a b = a ∙ sym b
minimum-is m (Some x) (Some y) c d oc od e f a b =
    within-one 0x80 IsDistance distance-one c d x oc od a (subst (λ (o : List ℕ). Within 0x80 IsDistance d o) (sym f ∙ e) b)
minimum-is m None (Some y) c d oc od e f a b = let zero : is_zero y ≡ true = ap is_zero (sym f ∙ e) in let other = b.value.1 in absurd cc
minimum-is m (Some x) None c d oc od e f a b = let zero : is_zero x ≡ true = ap is_zero (sym e ∙ f) in let other = a.value.1 in absurd cc

subtree-one : One IsSubtree
subtree-one c d s oc od a b =
    let rest-a = back c a.named (a.least ++ a.most) oc a.fields in
    let rest-b = back d b.named (b.least ++ b.most) od b.fields in
    let base = choice-one IsForm general-same a.named b.named s.base (front c a.named (a.least ++ a.most) oc a.fields) (front d b.named (b.least ++ b.most) od b.fields) a.base b.base in
    let least = minimum-is s.minimum a.minimum.minimum_octets b.minimum.minimum_octets a.least
    b.least (AreOctets-front a.least a.most rest-a) (AreOctets-front b.least b.most rest-b)
    a.minimum.value b.minimum.value a.minimum.encoded b.minimum.encoded in
    let most = if-any-one 0x81 _ (λ v w x ov ow p q. p.0 ∙ sym q.0) a.most b.most s.maximum (AreOctets-back a.least a.most rest-a) (AreOctets-back b.least b.most rest-b) a.maximum b.maximum in
    two c d a.named (a.least ++ a.most) b.named (b.least ++ b.most) a.fields b.fields base (both a.least b.least a.most b.most least most)

constraints-one : One AreConstraints
constraints-one c d n oc od a b =
    let one = some-one (Within 0x30 IsSubtree) (within-one 0x30 IsSubtree subtree-one) in
    two c d a.permitted a.excluded b.permitted b.excluded a.fields b.fields
    (if-any-one 0xA0 _ one a.permitted b.permitted n.permittedSubtrees
    (front c a.permitted a.excluded oc a.fields) (front d b.permitted b.excluded od b.fields)
    a.permittedSubtrees b.permittedSubtrees)
    (if-any-one 0xA1 _ one a.excluded b.excluded n.excludedSubtrees (back c a.permitted a.excluded oc a.fields) (back d b.permitted b.excluded od b.fields) a.excludedSubtrees b.excludedSubtrees)

-- ---- numbers and bits

bits-one : One IsNamedBits
bits-one c d x oc od a b = one-content c d x oc od a.encoded b.encoded

small-integer : (c : List ℕ) (n : ℕ) → IsSmall c n → integers.IsInteger c (pos n)
unfolding twos_complement
small-integer c n a = record { shortest = a.shortest; value = rw a.natural (ap pos a.value) }

small-one : One IsSmall
small-one c d n oc od a b = one-number c d (pos n) oc od (small-integer c n a) (small-integer d n b)

basic-one : One IsBasicConstraints
basic-one c d x oc od a b =
    two c d a.authority a.length b.authority b.length a.fields b.fields
    (if-true-one 0x01 a.authority b.authority x.ca (front c a.authority a.length oc a.fields) (front d b.authority b.length od b.fields) a.cA b.cA)
    (if-any-one 0x02 IsSmall small-one a.length b.length x.path_len_constraint
    (back c a.authority a.length oc a.fields) (back d b.authority b.length od b.fields)
    a.pathLenConstraint b.pathLenConstraint)

policy-constraints-one : One IsPolicyConstraints
policy-constraints-one c d x oc od a b =
    two c d a.explicit a.mapping b.explicit b.mapping a.fields b.fields
    (if-any-one 0x80 IsSmall small-one a.explicit b.explicit x.require_explicit_policy
    (front c a.explicit a.mapping oc a.fields) (front d b.explicit b.mapping od b.fields)
    a.requireExplicitPolicy b.requireExplicitPolicy)
    (if-any-one 0x81 IsSmall small-one a.mapping b.mapping x.inhibit_policy_mapping
    (back c a.explicit a.mapping oc a.fields) (back d b.explicit b.mapping od b.fields)
    a.inhibitPolicyMapping b.inhibitPolicyMapping)

-- ---- policies

oid-one : One (Within 0x06 IsOid)
oid-one = within-one 0x06 IsOid (λ v w x ov ow p q. p.0 ∙ sym q.0)

qualifier-one : One IsPolicyQualifier
qualifier-one c d q oc od a b =
    two c d a.id q.qualifier b.id q.qualifier a.fields b.fields
    (oid-one a.id b.id q.policyQualifierId (front c a.id q.qualifier oc a.fields) (front d b.id q.qualifier od b.fields) a.policyQualifierId b.policyQualifierId) refl

information-one : One IsPolicyInformation
information-one c d p oc od a b =
    two c d a.id a.qualifiers b.id b.qualifiers a.fields b.fields
    (oid-one a.id b.id p.policyIdentifier (front c a.id a.qualifiers oc a.fields) (front d b.id b.qualifiers od b.fields) a.policyIdentifier b.policyIdentifier)
    (if-any-one 0x30 _ (some-one (Within 0x30 IsPolicyQualifier)
    (within-one 0x30 IsPolicyQualifier qualifier-one)) a.qualifiers b.qualifiers p.policyQualifiers
    (back c a.id a.qualifiers oc a.fields) (back d b.id b.qualifiers od b.fields) a.policyQualifiers
    b.policyQualifiers)

mapping-one : One IsPolicyMapping
mapping-one c d m oc od a b =
    two c d a.issuer a.subject b.issuer b.subject a.fields b.fields
    (oid-one a.issuer b.issuer m.issuerDomainPolicy (front c a.issuer a.subject oc a.fields) (front d b.issuer b.subject od b.fields) a.issuerDomainPolicy b.issuerDomainPolicy)
    (oid-one a.subject b.subject m.subjectDomainPolicy (back c a.issuer a.subject oc a.fields) (back d b.issuer b.subject od b.fields) a.subjectDomainPolicy b.subjectDomainPolicy)

-- ---- distribution points and keys

point-form-same : (t u : ℕ) (c d : List ℕ) (x : PointName) → AreOctets c → AreOctets d → IsPointForm t c x → IsPointForm u d x → (t ≡ u) × (c ≡ d)
point-form-same t u c d (fullName names) oc od a b = (a.0 ∙ sym b.0, names-one c d names oc od a.1 b.1)
point-form-same t u c d (nameRelativeToCRLIssuer rdn) oc od a b = (a.0 ∙ sym b.0, a.1.0 ∙ sym b.1.0)

point-name-one : One IsPointName
point-name-one = choice-one IsPointForm point-form-same

point-one : One IsPoint
point-one c d p oc od a b =
    let rest-a = back c a.named (a.flags ++ a.issued_by) oc a.fields in
    let rest-b = back d b.named (b.flags ++ b.issued_by) od b.fields in
    let named = if-any-one 0xA0 IsPointName point-name-one a.named b.named p.distributionPoint
    (front c a.named (a.flags ++ a.issued_by) oc a.fields)
    (front d b.named (b.flags ++ b.issued_by) od b.fields) a.distributionPoint
    b.distributionPoint in
    let flags = if-any-one 0x81 IsNamedBits bits-one a.flags b.flags p.reasons (AreOctets-front a.flags a.issued_by rest-a) (AreOctets-front b.flags b.issued_by rest-b) a.reasons b.reasons in
    let issuer = if-any-one 0xA2 AreGeneralNames names-one a.issued_by b.issued_by p.cRLIssuer
    (AreOctets-back a.flags a.issued_by rest-a) (AreOctets-back b.flags b.issued_by rest-b)
    a.cRLIssuer b.cRLIssuer in
    two c d a.named (a.flags ++ a.issued_by) b.named (b.flags ++ b.issued_by) a.fields b.fields named (both a.flags b.flags a.issued_by b.issued_by flags issuer)

scope-one : One IsIssuingPoint
scope-one c d p oc od a b =
    let a1 = a.user ++ (a.ca ++ (a.flags ++ (a.indirect ++ a.attribute))) in
    let b1 = b.user ++ (b.ca ++ (b.flags ++ (b.indirect ++ b.attribute))) in
    let a3 = a.flags ++ (a.indirect ++ a.attribute) in
    let b3 = b.flags ++ (b.indirect ++ b.attribute) in
    let oa1 = back c a.named a1 oc a.fields in
    let ob1 = back d b.named b1 od b.fields in
    let oa2 = AreOctets-back a.user (a.ca ++ a3) oa1 in
    let ob2 = AreOctets-back b.user (b.ca ++ b3) ob1 in
    let oa3 = AreOctets-back a.ca a3 oa2 in
    let ob3 = AreOctets-back b.ca b3 ob2 in
    let oa4 = AreOctets-back a.flags (a.indirect ++ a.attribute) oa3 in
    let ob4 = AreOctets-back b.flags (b.indirect ++ b.attribute) ob3 in
    let named = if-any-one 0xA0 IsPointName point-name-one a.named b.named p.distributionPoint
    (front c a.named a1 oc a.fields) (front d b.named b1 od b.fields) a.distributionPoint
    b.distributionPoint in
    let user = if-true-one 0x81 a.user b.user p.onlyContainsUserCerts
    (AreOctets-front a.user (a.ca ++ a3) oa1) (AreOctets-front b.user (b.ca ++ b3) ob1)
    a.onlyContainsUserCerts b.onlyContainsUserCerts in
    let ca = if-true-one 0x82 a.ca b.ca p.onlyContainsCACerts (AreOctets-front a.ca a3 oa2) (AreOctets-front b.ca b3 ob2) a.onlyContainsCACerts b.onlyContainsCACerts in
    let flags = if-any-one 0x83 IsNamedBits bits-one a.flags b.flags p.onlySomeReasons
    (AreOctets-front a.flags (a.indirect ++ a.attribute) oa3)
    (AreOctets-front b.flags (b.indirect ++ b.attribute) ob3) a.onlySomeReasons
    b.onlySomeReasons in
    let indirect = if-true-one 0x84 a.indirect b.indirect p.indirectCRL (AreOctets-front a.indirect a.attribute oa4) (AreOctets-front b.indirect b.attribute ob4) a.indirectCRL b.indirectCRL in
    let attribute = if-true-one 0x85 a.attribute b.attribute p.onlyContainsAttributeCerts
    (AreOctets-back a.indirect a.attribute oa4) (AreOctets-back b.indirect b.attribute ob4)
    a.onlyContainsAttributeCerts b.onlyContainsAttributeCerts in
    two c d a.named a1 b.named b1 a.fields b.fields named
    (both a.user b.user (a.ca ++ a3) (b.ca ++ b3) user
    (both a.ca b.ca a3 b3 ca
    (both a.flags b.flags (a.indirect ++ a.attribute) (b.indirect ++ b.attribute) flags
    (both a.indirect b.indirect a.attribute b.attribute indirect attribute))))

key-one : One IsAuthorityKey
key-one c d k oc od a b =
    let rest-a = back c a.key (a.issuer ++ a.serial) oc a.fields in
    let rest-b = back d b.key (b.issuer ++ b.serial) od b.fields in
    let key = if-any-one 0x80 _ (λ v w x ov ow p q. p ∙ sym q) a.key b.key k.keyIdentifier
    (front c a.key (a.issuer ++ a.serial) oc a.fields)
    (front d b.key (b.issuer ++ b.serial) od b.fields) a.keyIdentifier b.keyIdentifier in
    let issuer = if-any-one 0xA1 AreGeneralNames names-one a.issuer b.issuer k.authorityCertIssuer
    (AreOctets-front a.issuer a.serial rest-a) (AreOctets-front b.issuer b.serial rest-b)
    a.authorityCertIssuer b.authorityCertIssuer in
    let serial = if-any-one 0x82 _ (λ v w x ov ow p q. p.0 ∙ sym q.0) a.serial b.serial
    k.authorityCertSerialNumber (AreOctets-back a.issuer a.serial rest-a)
    (AreOctets-back b.issuer b.serial rest-b) a.authorityCertSerialNumber
    b.authorityCertSerialNumber in
    two c d a.key (a.issuer ++ a.serial) b.key (b.issuer ++ b.serial) a.fields b.fields key (both a.issuer b.issuer a.serial b.serial issuer serial)

-- ---- the value of an extension

as-one : {A : Type 0} (form : A → ExtValue) (Is : List ℕ → A → Type 0) → ((x y : A) → form x ≡ form y → x ≡ y) → One Is → One (As form Is)
as-one {A} form Is same one c d v oc od a b = one c d a.0 oc od a.2 (subst (Is d) (same b.0 a.0 (sym b.1 ∙ a.1)) b.2)

content-one : (known : Known) → One (IsContent known)
content-one extension.SubjectKeyIdentifier = as-one (λ x. subjectKeyIdentifier x) AreOctetsOf (λ x y e. cc) (λ v w x ov ow p q. p ∙ sym q)
content-one extension.KeyUsage = as-one (λ x. keyUsage x) IsKeyUsage (λ x y e. cc) bits-one
content-one extension.SubjectAltName = as-one (λ x. subjectAltName x) AreGeneralNames (λ x y e. cc) names-one
content-one extension.IssuerAltName = as-one (λ x. issuerAltName x) AreGeneralNames (λ x y e. cc) names-one
content-one extension.BasicConstraints = as-one (λ x. basicConstraints x) IsBasicConstraints (λ x y e. cc) basic-one
content-one extension.CrlNumber = as-one (λ x. cRLNumber x) IsCrlNumber (λ x y e. cc) (λ v w x ov ow p q. p.whole ∙ sym q.whole)
content-one extension.ReasonCode = as-one (λ x. reasonCode x) IsReasonCode (λ x y e. cc) (λ v w x ov ow p q. p ∙ sym q)
content-one extension.InvalidityDate = as-one (λ x. invalidityDate x) IsInvalidityDate (λ x y e. cc) (λ v w x ov ow p q. IsGeneral-one_text v w x p q)
content-one extension.DeltaCrlIndicator = as-one (λ x. deltaCRLIndicator x) IsBaseCrlNumber (λ x y e. cc) (λ v w x ov ow p q. p.0 ∙ sym q.0)
content-one extension.IssuingDistributionPoint = as-one (λ x. issuingDistributionPoint x) IsIssuingPoint (λ x y e. cc) scope-one
content-one extension.CertificateIssuer = as-one (λ x. certificateIssuer x) AreGeneralNames (λ x y e. cc) names-one
content-one extension.NameConstraints = as-one (λ x. nameConstraints x) AreConstraints (λ x y e. cc) constraints-one
content-one extension.CrlDistributionPoints = as-one (λ x. cRLDistributionPoints x) ArePoints (λ x y e. cc) (some-one _ (within-one 0x30 IsPoint point-one))
content-one extension.CertificatePolicies = as-one (λ x. certificatePolicies x) AreCertificatePolicies (λ x y e. cc) (some-one _ (within-one 0x30 IsPolicyInformation information-one))
content-one extension.PolicyMappings = as-one (λ x. policyMappings x) ArePolicyMappings (λ x y e. cc) (some-one _ (within-one 0x30 IsPolicyMapping mapping-one))
content-one extension.AuthorityKeyIdentifier = as-one (λ x. authorityKeyIdentifier x) IsAuthorityKey (λ x y e. cc) key-one
content-one extension.PolicyConstraints = as-one (λ x. policyConstraints x) IsPolicyConstraints (λ x y e. cc) policy-constraints-one
content-one extension.ExtendedKeyUsage = as-one (λ x. extKeyUsage x) AreKeyPurposes (λ x y e. cc) (some-one _ oid-one)
content-one extension.FreshestCrl = as-one (λ x. freshestCRL x) ArePoints (λ x y e. cc) (some-one _ (within-one 0x30 IsPoint point-one))
content-one extension.InhibitAnyPolicy = as-one (λ x. inhibitAnyPolicy x) IsSkipCerts (λ x y e. cc) small-one

pub one-encoding : (known : Option Known) (c d : List ℕ) (x : ExtValue) → AreOctets c → AreOctets d → IsExt known c x → IsExt known d x → c ≡ d
one-encoding (Some known) c d x oc od a b = within-one (layout_of known).tag (IsContent known) (content-one known) c d x oc od a b
one-encoding None c d x oc od a b = let same : unknown c ≡ unknown d = sym a ∙ b in cc

pub one-record : (known : Option Known) (c : List ℕ) (x y : ExtValue) → IsExt known c x → IsExt known c y → x ≡ y
one-record known c x y a b =
    let e : Tlv = record { tag = 0x04; content = c; whole = c; at = 0; start = 0 } in
    ok_is {A = ExtValue} {E = Fault} x y (sym (ext-again known e x a) ∙ ext-again known e y b)
