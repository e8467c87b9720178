-- The rules of the values of extensions beside those of DER, in the order in which they count.
use Rattle.std.specs.Prelude.{Bool, true, not, ◌&&◌, List, [], Option, Some, None, is_none}
use Rattle.std.specs.Prelude.{if◌then◌else◌}
use Rattle.std.specs.List.{list_all}
use Rattle.ts_shape.specs.declared.fault.CertRule.{CertRule}
use Rattle.ts_shape.specs.declared.fault.CertRule.TheVariants.{SubtreeBounds, AddressLength}
use Rattle.ts_shape.specs.declared.fault.CertRule.TheVariants.{DuplicatePolicy}
use Rattle.ts_name.specs.General.{has_address_length, has_range_length}
use Rattle.ts_shape.specs.Repeats.{first_repeated}
use Rattle.ts_name.specs.Subtree.{GeneralSubtree, is_unbounded}
use Rattle.ts_ext.specs.Policies.{Information}
use Rattle.ts_ext.specs.Points.{PointName, fullName, Point}
use Rattle.ts_ext.specs.NameConstraints.{Constraints}
use Rattle.ts_ext.specs.Ext.{ExtValue, subjectAltName, issuerAltName, certificateIssuer}
use Rattle.ts_ext.specs.Ext.{issuingDistributionPoint, nameConstraints, cRLDistributionPoints}
use Rattle.ts_ext.specs.Ext.{certificatePolicies, authorityKeyIdentifier, freshestCRL}

-- each item of a list meets a test, if the list is there
abbrev pub all_of : {A : Type 0} → (A → Bool) → Option (List A) → Bool
all_of test None = true
all_of test (Some xs) = list_all test xs

-- each subtree of name constraints meets a test
abbrev pub all_subtrees : (GeneralSubtree → Bool) → Constraints → Bool
all_subtrees test n = all_of test n.permittedSubtrees && all_of test n.excludedSubtrees

-- minimum is zero and maximum is absent (4.2.1.10)
abbrev pub is_bounded_by_none : ExtValue → Bool
is_bounded_by_none (nameConstraints n) = all_subtrees is_unbounded n
is_bounded_by_none other = true

-- the names of a distribution point
abbrev pub has_point_addresses : Option PointName → Bool
has_point_addresses (Some (fullName names)) = list_all has_address_length names
has_point_addresses other = true

abbrev pub has_addresses : Point → Bool
has_addresses p = has_point_addresses p.distributionPoint && all_of has_address_length p.cRLIssuer

-- each IP address has 4 octets or 16 (4.2.1.6), in a constraint 8 or 32 (4.2.1.10)
abbrev pub has_address_lengths : ExtValue → Bool
has_address_lengths (subjectAltName names) = list_all has_address_length names
has_address_lengths (issuerAltName names) = list_all has_address_length names
has_address_lengths (certificateIssuer names) = list_all has_address_length names
has_address_lengths (issuingDistributionPoint p) = has_point_addresses p.distributionPoint
has_address_lengths (nameConstraints n) = all_subtrees (λ s. has_range_length s.base) n
has_address_lengths (cRLDistributionPoints points) = list_all has_addresses points
has_address_lengths (freshestCRL points) = list_all has_addresses points
has_address_lengths (authorityKeyIdentifier a) = all_of has_address_length a.authorityCertIssuer
has_address_lengths other = true

-- a certificate policy OID MUST NOT appear more than once (4.2.1.4)
abbrev pub are_distinct : List Information → Bool
are_distinct policies = is_none (first_repeated (λ p. p.policyIdentifier) [] policies)

abbrev pub states_policies_once : ExtValue → Bool
states_policies_once (certificatePolicies policies) = are_distinct policies
states_policies_once other = true

-- the first of these rules that a value breaks
abbrev pub broken_rule : ExtValue → Option CertRule
broken_rule x =
    if not (is_bounded_by_none x) then Some SubtreeBounds
    else (if not (has_address_lengths x) then Some AddressLength
    else (if not (states_policies_once x) then Some DuplicatePolicy else None))
