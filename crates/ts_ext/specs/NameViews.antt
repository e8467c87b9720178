-- What contracts see of the names that are borrowed from extensions.
use Rattle.std.specs.Prelude.{List, option_map}
use Rattle.ts_der.specs.Element.{inside}
use Rattle.ts_der.specs.View.{now}
use Rattle.ts_der.specs.BitsView.{bits_in}
use Rattle.ts_name.specs.declared.general.General.{General}
use Rattle.ts_name.specs.declared.subtree.Subtree.{Subtree}
use Rattle.ts_shape.specs.declared.sequence_of.SequenceOf.{SequenceOf}
use Rattle.ts_name.specs.NameView.{attributes_in}
use Rattle.ts_shape.specs.Items.{of_tag, items_at}
use Rattle.ts_name.specs.General.{GeneralName, general_of}
use Rattle.ts_name.specs.Subtree.{GeneralSubtree, subtree_of}
use Rattle.ts_ext.specs.declared.distribution_point.PointName as point
use Rattle.ts_ext.specs.declared.distribution_point.PointName.TheVariants.{FullName, RelativeName}
use Rattle.ts_ext.specs.declared.distribution_point.DistributionPoint as borrowed_point
use Rattle.ts_ext.specs.declared.issuing_distribution_point.IssuingDistributionPoint as scope
use Rattle.ts_ext.specs.declared.authority_key_identifier.AuthorityKeyIdentifier as borrowed_key
use Rattle.ts_ext.specs.declared.name_constraints.NameConstraints as borrowed_constraints
use Rattle.ts_ext.specs.declared.alternative_names.AlternativeNames as borrowed_names
use Rattle.ts_ext.specs.declared.distribution_points.DistributionPoints as borrowed_points
use Rattle.ts_ext.specs.Points.{PointName, fullName, nameRelativeToCRLIssuer, Point, ListScope}
use Rattle.ts_ext.specs.Points.{point_item}
use Rattle.ts_ext.specs.AuthorityKey.{AuthorityKey}
use Rattle.ts_ext.specs.NameConstraints.{Constraints}

-- the general names of a list
abbrev pub names_in : SequenceOf General → List GeneralName
names_in names = items_at general_of (inside (now names.element))

-- the subtrees of a list
abbrev pub subtrees_in : SequenceOf Subtree → List GeneralSubtree
subtrees_in subtrees = items_at (of_tag 0x30 subtree_of) (inside (now subtrees.element))

-- the name of a distribution point
abbrev pub point_name_in : point.PointName → PointName
point_name_in (FullName names) = fullName (names_in names)
point_name_in (RelativeName rdn) = nameRelativeToCRLIssuer (attributes_in rdn)

-- a distribution point
abbrev pub point_in : borrowed_point.DistributionPoint → Point
point_in p =
    record {
      distributionPoint = option_map point_name_in p.name;
      reasons = option_map (λ r. bits_in r.bits) p.reasons;
      cRLIssuer = option_map names_in p.crl_issuer;
    }

-- what a list covers
abbrev pub issuing_point_in : scope.IssuingDistributionPoint → ListScope
issuing_point_in p =
    record {
      distributionPoint = option_map point_name_in p.name;
      onlyContainsUserCerts = p.only_user_certs;
      onlyContainsCACerts = p.only_ca_certs;
      onlySomeReasons = option_map (λ r. bits_in r.bits) p.only_some_reasons;
      indirectCRL = p.indirect_crl;
      onlyContainsAttributeCerts = p.only_attribute_certs;
    }

-- the key of an authority
abbrev pub authority_key_in : borrowed_key.AuthorityKeyIdentifier → AuthorityKey
authority_key_in a =
    record {
      keyIdentifier = option_map (λ k. k.now) a.key_identifier;
      authorityCertIssuer = option_map names_in a.authority_cert_issuer;
      authorityCertSerialNumber = option_map (λ s. s.octets.now) a.authority_cert_serial_number;
    }

-- name constraints
abbrev pub name_constraints_in : borrowed_constraints.NameConstraints → Constraints
name_constraints_in n =
    record {
      permittedSubtrees = option_map subtrees_in n.permitted;
      excludedSubtrees = option_map subtrees_in n.excluded;
    }

-- names of a subject or an issuer
abbrev pub alternatives_in : borrowed_names.AlternativeNames → List GeneralName
alternatives_in a = names_in a.list

-- distribution points
abbrev pub points_in : borrowed_points.DistributionPoints → List Point
points_in p = items_at point_item (inside (now p.list.element))
