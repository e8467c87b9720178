-- The words after the signer of a `cert` line: what they say of the certificate's extensions.
use Rattle.std.specs.Prelude.{◌≡◌, ℕ, ◌<◌, ◌≤◌, ◌^◌, true, if◌then◌else◌, List, [], ◌∷◌, ◌++◌, map}
use Rattle.std.specs.Prelude.{Option, Some, None, codes}
use Rattle.std.specs.List.{AllByRecursion, count_by}
use Rattle.std.specs.Str.{IsUtf8, bytes_eq}
use Rattle.std.specs.Fmt.{decimal}
use Rattle.ts_der.specs.Octets.{AreOctets}
use Rattle.ts_der.specs.ObjectIdentifier.{is_oid, arcs}
use Rattle.ts_der.specs.Dotted.{dotted_text}
use Rattle.ts_script.specs.declared.keyword.NameKind.{NameKind}
use Rattle.ts_script.specs.declared.keyword.NameKind.TheVariants.{Dns, Ip, Mail}
use Rattle.ts_script.specs.declared.keyword.Keyword.{Keyword}
use Rattle.ts_script.specs.declared.keyword.Keyword.TheVariants.{KeyUsage, SubjectAltName}
use Rattle.ts_script.specs.declared.keyword.Keyword.TheVariants.{BasicConstraints, PermittedSubtree}
use Rattle.ts_script.specs.declared.keyword.Keyword.TheVariants.{ExcludedSubtree, DistributionPoint}
use Rattle.ts_script.specs.declared.keyword.Keyword.TheVariants.{Policy, PolicyMapping}
use Rattle.ts_script.specs.declared.keyword.Keyword.TheVariants.{RequireExplicitPolicy}
use Rattle.ts_script.specs.declared.keyword.Keyword.TheVariants.{InhibitPolicyMapping, KeyPurpose}
use Rattle.ts_script.specs.declared.keyword.Keyword.TheVariants.{InhibitAnyPolicy, Critical}
use Rattle.ts_script.specs.Pieces.{pieces_of}
use Rattle.ts_literal.specs.Literals.{IsNumber}
use Rattle.ts_script.specs.Words.{IsHex, first_of}
use Rattle.ts_script.specs.Parts.{Part, PartName, dns_name, ip_address, mail_box, usage_bit}
use Rattle.ts_script.specs.Parts.{alt_name, authority, permitted, excluded, crl_point, policy}
use Rattle.ts_script.specs.Parts.{mapped_policy, explicit_policy, no_mapping, purpose}
use Rattle.ts_script.specs.Parts.{no_any_policy, critical_unknown}

-- how a form of name is called
abbrev pub kind_text : NameKind → List ℕ
kind_text Dns = codes "dns"
kind_text Ip = codes "ip"
kind_text Mail = codes "mail"

-- what a word begins with
abbrev pub keyword_text : Keyword → List ℕ
keyword_text KeyUsage = codes "usage"
keyword_text (SubjectAltName kind) = kind_text kind
keyword_text BasicConstraints = codes "ca"
keyword_text (PermittedSubtree kind) = codes "permit-" ++ kind_text kind
keyword_text (ExcludedSubtree kind) = codes "exclude-" ++ kind_text kind
keyword_text DistributionPoint = codes "crldp"
keyword_text Policy = codes "policy"
keyword_text PolicyMapping = codes "map"
keyword_text RequireExplicitPolicy = codes "require"
keyword_text InhibitPolicyMapping = codes "nomapping"
keyword_text KeyPurpose = codes "eku"
keyword_text InhibitAnyPolicy = codes "noany"
keyword_text Critical = codes "critical"

-- the first of some keywords that is written so (in a private clause)
abbrev pub keyword_named : List Keyword → List ℕ → Option Keyword
keyword_named [] text = None
keyword_named (k ∷ ks) text = if bytes_eq (keyword_text k) text then Some k
    else keyword_named ks text

-- text in UTF-8, also none at all
pub record IsText (value : List ℕ) (text : List ℕ) : Type 0 where
  pub written : value ≡ text
  pub utf8 : IsUtf8 text

-- the dotted form of an object identifier, of these contents octets (X.690 8.19)
pub record IsDotted (value : List ℕ) (content : List ℕ) : Type 0 where
  pub written : value ≡ dotted_text (arcs content)
  pub form : is_oid content ≡ true
  pub octets : AreOctets content

-- one or more numbers, between commas
pub record IsNumbers (value : List ℕ) (numbers : List ℕ) : Type 0 where
  pub pieces : pieces_of 44 value ≡ map decimal numbers
  pub ranges : AllByRecursion (λ n. n < 2 ^ 32) numbers

-- two object identifiers, the issuer's policy and the subject's, between which `>` stands
pub record IsMapping (value : List ℕ) (issuer subject : List ℕ) : Type 0 where
  pub left : List ℕ
  pub right : List ℕ
  pub pieces : pieces_of 62 value ≡ left ∷ right ∷ []
  pub from : IsDotted left issuer
  pub to : IsDotted right subject

-- a name: the text of a host or a mailbox, or the octets of an address
abbrev pub IsNameValue : NameKind → List ℕ → PartName → Type 0
IsNameValue Dns value name = (text : List ℕ) × IsText value text × (name ≡ dns_name text)
IsNameValue Ip value name = (octets : List ℕ) × IsHex value octets × (name ≡ ip_address octets)
IsNameValue Mail value name = (text : List ℕ) × IsText value text × (name ≡ mail_box text)

-- a value is of a form, and the part that it says is this one
abbrev pub Says : {T : Type 0} → (List ℕ → T → Type 0) → (T → Part) → List ℕ → List Part → Type 0
Says {T} Is part value parts = (x : T) × Is value x × (parts ≡ part x ∷ [])

-- what follows `=` after a keyword says these parts
abbrev pub SaysValue : Keyword → List ℕ → List Part → Type 0
SaysValue KeyUsage value parts = (numbers : List ℕ) × IsNumbers value numbers
    × (parts ≡ map usage_bit numbers)
SaysValue (SubjectAltName kind) value parts = Says (IsNameValue kind) alt_name value parts
SaysValue BasicConstraints value parts =
    Says IsNumber (λ length. authority (Some length)) value parts
SaysValue (PermittedSubtree kind) value parts = Says (IsNameValue kind) permitted value parts
SaysValue (ExcludedSubtree kind) value parts = Says (IsNameValue kind) excluded value parts
SaysValue DistributionPoint value parts = Says IsText crl_point value parts
SaysValue Policy value parts = Says IsDotted policy value parts
SaysValue PolicyMapping value parts =
    (issuer : List ℕ) × (subject : List ℕ) × IsMapping value issuer subject
    × (parts ≡ mapped_policy issuer subject ∷ [])
SaysValue RequireExplicitPolicy value parts = Says IsNumber explicit_policy value parts
SaysValue InhibitPolicyMapping value parts = Says IsNumber no_mapping value parts
SaysValue KeyPurpose value parts = Says IsDotted purpose value parts
SaysValue InhibitAnyPolicy value parts = Says IsNumber no_any_policy value parts
SaysValue Critical value parts = Says IsDotted critical_unknown value parts

-- a keyword alone, which only `ca` may be, or with a value
abbrev pub SaysWith : Keyword → Option (List ℕ) → List Part → Type 0
SaysWith keyword None parts = (keyword ≡ BasicConstraints) × (parts ≡ authority None ∷ [])
SaysWith keyword (Some value) parts = SaysValue keyword value parts

-- a value, after `=`
abbrev pub value_text : Option (List ℕ) → List ℕ
value_text None = []
value_text (Some value) = codes "=" ++ value

-- a word says these parts of extensions
pub record IsWord (word : List ℕ) (parts : List Part) : Type 0 where
  pub keyword : Keyword
  pub value : Option (List ℕ)
  pub written : word ≡ keyword_text keyword ++ value_text value
  pub says : SaysWith keyword value parts

-- words say these parts, one word after another
abbrev pub AreWords : List (List ℕ) → List Part → Type 0
AreWords [] parts = parts ≡ []
AreWords (word ∷ words) parts =
    (first : List Part) × (rest : List Part) × IsWord word first × AreWords words rest
    × (parts ≡ first ++ rest)

-- what precedes the first `=` of a word
abbrev pub keyword_in : List ℕ → List ℕ
keyword_in word = first_of (pieces_of 61 word)

-- at most one of the words has this keyword
abbrev pub StandsOnce : List (List ℕ) → Keyword → Type 0
StandsOnce words keyword = count_by
    (λ word. bytes_eq (keyword_in word) (keyword_text keyword)) words ≤ 1

-- the keywords of an extension that has one such value
abbrev pub once : List Keyword
once = BasicConstraints ∷ RequireExplicitPolicy ∷ InhibitPolicyMapping ∷ InhibitAnyPolicy ∷ []

-- the words after the signer say these parts: those of which an extension has one value occur once
-- at most, all others gather
pub record AreParts (words : List (List ℕ)) (parts : List Part) : Type 0 where
  pub said : AreWords words parts
  pub alone : AllByRecursion (StandsOnce words) once
