-- How many policies a certificate names: no more than it has octets.
use Rattle.std.proofs.Common.{◌≡◌, ◌≤◌, ◌+◌, ◌*◌, ℕ, suc, Bool, true, false, cond, List, [], ◌∷◌, ◌++◌, map, length}
use Rattle.std.proofs.Common.{Option, Some, None, Result, refl, ap, subst, inl, inr, arith, length-append}
use Rattle.std.specs.Prelude.{option_map, unwrap_or}
use Rattle.std.specs.List.{AllByRecursion, find}
use Rattle.std.specs.Str.{bytes_eq}
use Rattle.std.proofs.Math.Logic.{∥∥₁_elim}
use Rattle.std.proofs.Props.{props}
use Rattle.ts_der.specs.declared.fault.Fault.{Fault}
use Rattle.ts_der.specs.Element.{Tlv, length_octets}
use Rattle.ts_shape.specs.Fields.{Within, IfAny}
use Rattle.ts_shape.specs.Items.{AreItems, AreSome}
use Rattle.ts_ext.specs.declared.known.Known.{Known}
use Rattle.ts_ext.specs.declared.known.Known.TheVariants.{CertificatePolicies, PolicyMappings}
use Rattle.ts_ext.specs.Encoding.{IsPolicyInformation, IsPolicyMapping}
use Rattle.ts_ext.specs.Ext.{certificatePolicies, policyMappings, layout_of}
use Rattle.ts_extensions.specs.Extension.{Extension, IsExtension, AreExplicit}
use Rattle.ts_ext.specs.Known.{known_at, certificate_extension, identifier_of}
use Rattle.ts_ext.specs.Policies.{Information, Mapping}
use Rattle.ts_ext.specs.Reading.{certificate_policies_of, policy_mappings_of}
use Rattle.ts_extensions.specs.Stated.{IsStated}
use Rattle.ts_ext.proofs.Policies.{certificate_policies-format, policy_mappings-format}
use Rattle.ts_cert.specs.declared.certificate.Cert.{Cert}
use Rattle.ts_cert.specs.Certificate.{Certificate, Tbs, all_extensions}
use Rattle.ts_cert.specs.CertView.{cert_in}
use Rattle.ts_cert.specs.Encoding.{IsCertificate}
use Rattle.ts_cert.specs.Stated.{IsEncoded, known_extension, stated_value}
use Rattle.ts_cert.proofs.EncodedValues.{encoded}
use Rattle.ts_cert.proofs.Held.{is-certificate}
use Rattle.ts_policy.specs.Labels.{Label, In}
use Rattle.ts_policy.specs.Paths.{policies_stated}
use Rattle.ts_policy.specs.Stated.{policies_of, mappings_of, identifiers, pairs_if_any}
use Rattle.ts_path.specs.Asked.{ValidationInputs}
use Rattle.ts_path.specs.State.{PathState, policies_at, policies_above, state_at}
use Rattle.ts_search.proofs.Takes.{length_map}
use Rattle.ts_answer.proofs.Named.{named, all_named}

-- ---- lengths of encodings

-- the content of an element is shorter than the element
shorter : {A : Type 0} {tag : ℕ} {Encodes : List ℕ → A → Type 0} {octets : List ℕ} {x : A} (is : Within tag Encodes octets x) → suc (length is.content) ≤ length octets
shorter {tag = tag} is = let e = length-append (length_octets (length is.content)) is.content in omega (arith, ap length is.encoded, e)

-- as many items at most as octets, of which each item has one or more
items_few : {A : Type 0} (tag : ℕ) (Encodes : List ℕ → A → Type 0) (octets : List ℕ) (xs : List A) → AreItems (Within tag Encodes) octets xs → length xs ≤ length octets
items_few tag Encodes octets [] are = omega arith
items_few tag Encodes octets (x ∷ xs) are =
    let w = are.0 in
    let rest = are.1 in
    let one = shorter are.2 in
    let others = items_few tag Encodes rest xs are.4 in
    omega (arith, one, others, ap length are.3, length-append w rest)

-- an item has no more octets than all
item_in : {A : Type 0} (Encodes : List ℕ → A → Type 0) (octets : List ℕ) (xs : List A) → AreItems Encodes octets xs → (x : A) → In x xs → (w : List ℕ) × Encodes w x × (length w ≤ length octets)
item_in Encodes octets [] are x i = absurd i
item_in {A} Encodes octets (y ∷ xs) are x (inl e) =
    let w = are.0 in
    (w, subst (λ (z : A). Encodes w z) e are.2, omega (arith, ap length are.3, length-append w are.1))
item_in Encodes octets (y ∷ xs) are x (inr i) =
    let r = item_in Encodes are.1 xs are.4 x i in
    (r.0, r.1, omega (arith, r.2, ap length are.3, length-append are.0 are.1))

-- ---- extensions

find_in : {X : Type 0} (p : X → Bool) (xs : List X) (x : X) → find p xs ≡ Some x → In x xs
find_in p [] x e = absurd cc
find_in {X} p (y ∷ xs) x e = by (p y) (find_in p xs x) e
  where
    is_first : {a b : X} → Some a ≡ Some b → a ≡ b
    is_first h = cc

    by : (b : Bool) → (find p xs ≡ Some x → In x xs) → cond b (Some y) (find p xs) ≡ Some x → In x (y ∷ xs)
    by true others e = inl (is_first e)
    by false others e = inr (others e)

explicit_short : (o : Option (List Extension)) (octets : List ℕ) → IfAny 0xA3 AreExplicit octets o → (x : Extension) → In x (unwrap_or o []) → length x.extnValue ≤ length octets
explicit_short None octets is x i = absurd i
explicit_short (Some xs) octets is x i =
    let sequence = is.value in
    let one = item_in (Within 0x30 IsExtension) sequence.content xs sequence.value.1 x i in
    let extension = one.1.value in
    let value = extension.extnValue in
    omega (
      arith,
      shorter is,
      shorter sequence,
      one.2,
      shorter one.1,
      shorter value,
      ap length value.value,
      ap length extension.fields,
      length-append extension.id (extension.flag ++ extension.value),
      length-append extension.flag extension.value,
    )

extension_short : (octets : List ℕ) (c : Certificate) → IsCertificate octets c → (x : Extension) → In x (all_extensions c.tbsCertificate) → length x.extnValue ≤ 65536
extension_short octets c is x i =
    let signed = is.whole.value in
    let tbs = signed.tbsCertificate in
    let f = tbs.value in
    let inside = explicit_short c.tbsCertificate.extensions f.last f.extensions x i in
    let fields = simp length-append at (ap length f.fields) in
    omega (
      arith,
      is.size,
      shorter is.whole,
      ap length signed.fields,
      length-append c.tbs (signed.identifier ++ signed.bits),
      shorter tbs,
      fields,
      inside,
    )

-- ---- values

value_few : {A : Type 0} (tag : ℕ) (Item : List ℕ → A → Type 0) (known : Known) (reading : Tlv → Result (List A) Fault) (t : Tbs)
    → IsEncoded known reading (AreSome (Within tag Item)) t → ((x : Extension) → In x (all_extensions t) → length x.extnValue ≤ 65536)
    → (xs : List A) → stated_value known reading t ≡ Some xs → length xs ≤ 65536
value_few {A} tag Item known reading t is short xs e = by (known_extension known t) refl is
  where
    by : (o : Option Extension) → known_extension known t ≡ o → IsStated (Within (layout_of known).tag (AreSome (Within tag Item))) o (stated_value known reading t) → length xs ≤ 65536
    by None stands is = absurd cc
    by (Some x) stands is =
        let w = (is.1 xs).0 e in
        let few = items_few tag Item w.content xs w.value.1 in
        omega (arith, shorter w, few, short x (find_in (λ y. bytes_eq y.extnID (identifier_of known)) (all_extensions t) x stands))

-- the policies that a certificate states
abbrev stated : Option (List Label) → List Label
stated o = elim o [ None ↦ [] | Some ps ↦ ps ]

policies_few : (o : Option (List Information)) → ((xs : List Information) → o ≡ Some xs → length xs ≤ 65536) → length (stated (option_map identifiers o)) ≤ 65536
policies_few None few = omega arith
policies_few (Some xs) few = omega (arith, few xs refl, length_map (λ x. x.policyIdentifier) xs)

pairs_few : (o : Option (List Mapping)) → ((xs : List Mapping) → o ≡ Some xs → length xs ≤ 65536) → length (pairs_if_any o) ≤ 65536
pairs_few None few = omega arith
pairs_few (Some xs) few =
    let pair : Mapping → Label × Label = λ x. (x.issuerDomainPolicy, x.subjectDomainPolicy) in
    omega (arith, few xs refl, length_map pair xs)

-- a certificate names few policies: as many at most in each extension as a certificate has octets
pub record NamesFew (c : Certificate) : Type 0 where
  pub policies : length (stated (policies_of c.tbsCertificate)) ≤ 65536
  pub mappings : length (mappings_of c.tbsCertificate) ≤ 65536

names_few : (octets : List ℕ) (c : Certificate) → IsCertificate octets c → NamesFew c
unfolding known_at certificate_extension
names_few octets c is =
    let t = c.tbsCertificate in
    let short = extension_short octets c is in
    record {
      policies = policies_few (stated_value CertificatePolicies certificate_policies_of t)
          (value_few 0x30 IsPolicyInformation CertificatePolicies certificate_policies_of t
          (encoded certificate_policies-format CertificatePolicies (λ x. certificatePolicies x) refl (λ o v is. is) octets c is) short);
      mappings = pairs_few (stated_value PolicyMappings policy_mappings_of t)
          (value_few 0x30 IsPolicyMapping PolicyMappings policy_mappings_of t
          (encoded policy_mappings-format PolicyMappings (λ x. policyMappings x) refl (λ o v is. is) octets c is) short);
    }

-- one that was read
one_names_few : (c : Cert) → NamesFew (cert_in c)
one_names_few c = ∥∥₁_elim c.laid (Prim.hlevel props) (λ laid. names_few c.octets.now (cert_in c) (is-certificate c.octets.now c.layout laid))

pub all_name_few : (cs : List Cert) → AllByRecursion NamesFew (map cert_in cs)
all_name_few [] = tt
all_name_few (c ∷ cs) = (one_names_few c, all_name_few cs)

-- ---- certificates of a chain

pub named_few : (s : PathState) (c : Certificate) (last : Bool) → NamesFew c → length (named (policies_at s c last)) ≤ 196608
named_few s c last few =
    let p = policies_at s c last in
    omega (
      arith,
      few.policies,
      few.mappings,
      length_map (λ m. m.0) p.mappings,
      length_map (λ m. m.1) p.mappings,
      length-append (policies_stated p) (map (λ m. m.0) p.mappings ++ map (λ m. m.1) p.mappings),
      length-append (map (λ m. m.0) p.mappings) (map (λ m. m.1) p.mappings),
    )

pub above_few : (a : ValidationInputs) (n : ℕ) (above : List Certificate) → AllByRecursion NamesFew above → length (all_named (policies_above a n above)) ≤ 196608 * length above + 1
unfolding policies_above
above_few a n [] few = omega arith
above_few a n (c ∷ above) few =
    let one = named_few (state_at a n above) c false few.0 in
    let others = above_few a n above few.1 in
    let p = policies_at (state_at a n above) c false in
    omega (arith, one, others, length-append (named p) (all_named (policies_above a n above)))
