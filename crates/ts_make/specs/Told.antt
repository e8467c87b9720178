-- What the values of the extensions say (RFC 5280 4.2.1), in the words in which they are read.
use Rattle.std.specs.Prelude.{◌≡◌, ℕ, ◌<◌, ◌^◌, true, List, [], ◌∷◌, Option, Some, None}
use Rattle.std.specs.List.{AllByRecursion}
use Rattle.ts_der.specs.Text.{is_ascii}
use Rattle.ts_name.specs.General.{GeneralName, rfc822Name, dNSName, uniformResourceIdentifier}
use Rattle.ts_name.specs.General.{iPAddress}
use Rattle.ts_name.specs.Subtree.{GeneralSubtree}
use Rattle.ts_ext.specs.Policies.{Information, Mapping}
use Rattle.ts_ext.specs.Points.{Point, fullName}
use Rattle.ts_make.specs.declared.description.NameText.{NameText}
use Rattle.ts_make.specs.declared.description.NameText.TheVariants.{Dns, Ip, Mail}
use Rattle.ts_make.specs.declared.description.ExtensionText.{ExtensionText}
use Rattle.ts_make.specs.declared.description.ExtensionText.TheVariants as part

-- ---- names (4.2.1.6)

abbrev pub name_said : NameText → GeneralName
name_said (Dns text) = dNSName text.now
name_said (Ip octets) = iPAddress octets.now
name_said (Mail text) = rfc822Name text.now

-- the texts of IA5Strings are ASCII
abbrev pub IsAsciiName : NameText → Type 0
IsAsciiName (Dns text) = is_ascii text.now ≡ true
IsAsciiName (Ip octets) = Unit {0}
IsAsciiName (Mail text) = is_ascii text.now ≡ true

abbrev pub IsAsciiPart : ExtensionText → Type 0
IsAsciiPart (part.SubjectAltName name) = IsAsciiName name
IsAsciiPart (part.PermittedSubtree name) = IsAsciiName name
IsAsciiPart (part.ExcludedSubtree name) = IsAsciiName name
IsAsciiPart (part.DistributionPoint uri) = is_ascii uri.now ≡ true
IsAsciiPart other = Unit {0}

abbrev pub AreAscii : List ExtensionText → Type 0
AreAscii texts = AllByRecursion IsAsciiPart texts

-- the names of subjectAltName
abbrev pub alternative_name : ExtensionText → List GeneralName
alternative_name (part.SubjectAltName name) = name_said name ∷ []
alternative_name other = []

-- ---- subtrees (4.2.1.10): no minimum and no maximum

abbrev pub subtree_said : NameText → GeneralSubtree
subtree_said name = record { base = name_said name; minimum = 0 ∷ []; maximum = None }

abbrev pub permitted_subtrees : ExtensionText → List GeneralSubtree
permitted_subtrees (part.PermittedSubtree name) = subtree_said name ∷ []
permitted_subtrees other = []

abbrev pub excluded_subtrees : ExtensionText → List GeneralSubtree
excluded_subtrees (part.ExcludedSubtree name) = subtree_said name ∷ []
excluded_subtrees other = []

-- a list, absent where it is empty
abbrev pub if_any : {A : Type 0} → List A → Option (List A)
if_any [] = None
if_any (x ∷ xs) = Some (x ∷ xs)

-- ---- distribution points (4.2.1.13): the full name is a URI

abbrev pub point : ExtensionText → List Point
point (part.DistributionPoint uri) = record {
  distributionPoint = Some (fullName (uniformResourceIdentifier uri.now ∷ []));
  reasons = None;
  cRLIssuer = None;
} ∷ []
point other = []

-- ---- policies (4.2.1.4, 4.2.1.5) and purposes (4.2.1.12)

abbrev pub policy : ExtensionText → List Information
policy (part.Policy oid) = record { policyIdentifier = oid.content.now; policyQualifiers = None }
    ∷ []
policy other = []

abbrev pub mapping : ExtensionText → List Mapping
mapping (part.PolicyMapping issuer subject) = record
    { issuerDomainPolicy = issuer.content.now; subjectDomainPolicy = subject.content.now } ∷ []
mapping other = []

abbrev pub purpose : ExtensionText → List (List ℕ)
purpose (part.KeyPurpose oid) = oid.content.now ∷ []
purpose other = []

-- ---- numbers

-- a number that is there is below 2 ^ 32
abbrev pub IsSmallIfAny : Option ℕ → Type 0
IsSmallIfAny None = Unit {0}
IsSmallIfAny (Some n) = n < 2 ^ 32

-- the numbers of requireExplicitPolicy and of inhibitPolicyMapping (4.2.1.11)
abbrev pub explicit_policy : ExtensionText → List ℕ
explicit_policy (part.RequireExplicitPolicy n) = n ∷ []
explicit_policy other = []

abbrev pub inhibited_mapping : ExtensionText → List ℕ
inhibited_mapping (part.InhibitPolicyMapping n) = n ∷ []
inhibited_mapping other = []

-- the list of what is there
abbrev pub list_of : {A : Type 0} → Option A → List A
list_of None = []
list_of (Some x) = x ∷ []
