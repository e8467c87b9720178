-- The pairs of a distribution point and a CRL that may be used for a certificate (RFC 5280 6.3.3
-- (a) to (g), in this profile).
use Rattle.std.specs.Prelude.{ℤ, ◌&&◌, ◌||◌, not, int_le, Bool, true, false, List, [], ◌∷◌, filter}
use Rattle.std.specs.Prelude.{Option, Some, None, is_none, unwrap_or}
use Rattle.ts_name.specs.General.{directoryName}
use Rattle.ts_name.specs.Sameness.{is_same_name}
use Rattle.ts_ext.specs.declared.known.Known.TheVariants.{CrlDistributionPoints}
use Rattle.ts_ext.specs.declared.known.Known.TheVariants.{BasicConstraints as BasicConstraintsOf}
use Rattle.ts_ext.specs.declared.basic_constraints.BasicConstraints.{BasicConstraints}
use Rattle.ts_ext.specs.declared.reason_set.ReasonSet.{ReasonSet}
use Rattle.ts_ext.specs.NamedBits.{bit, flag_number}
use Rattle.ts_ext.specs.Points.{PointName, fullName, Point, ListScope, points_of}
use Rattle.ts_ext.specs.Reading.{basic_constraints_of}
use Rattle.ts_field.specs.declared.time.Time.{Time}
use Rattle.ts_cert.specs.Certificate.{Certificate}
use Rattle.ts_cert.specs.Stated.{stated_value}
use Rattle.ts_crl.specs.List.{CertificateList}
use Rattle.ts_crl.specs.Profile.{scope_of, is_delta, is_relative_name}
use Rattle.ts_revoke.specs.Names.{share}
use Rattle.ts_revoke.specs.Question.{StatusQuestion}
use Rattle.ts_revoke.specs.Reasons.{reasons_where, all_reasons, intersection}

-- ---- the CRL

-- its issuer is the same as the certificate's (6.3.3 (b) (1))
abbrev pub has_issuer : StatusQuestion → CertificateList → Bool
has_issuer q l = is_same_name l.tbsCertList.issuer q.certificate.tbsCertificate.issuer

-- a time that is stated is at or after the moment
abbrev pub is_at_or_after : ℤ → Option Time → Bool
is_at_or_after moment None = false
is_at_or_after moment (Some t) = int_le moment t.moment

-- nextUpdate is at or after the moment (6.3.3 (a)), and thisUpdate at or before it (this profile)
abbrev pub is_current : ℤ → CertificateList → Bool
is_current moment l = int_le l.tbsCertList.thisUpdate.moment moment
    && is_at_or_after moment l.tbsCertList.nextUpdate

-- the issuer's certificate, where it states a keyUsage, has cRLSign (6.3.3 (f))
abbrev pub may_sign_crl : Option (List Bool) → Bool
may_sign_crl None = true
may_sign_crl (Some bits) = bit 6 bits

-- the key that signed the certificate signed the CRL (6.3.3 (f) and (g), in this profile)
abbrev pub is_signed : StatusQuestion → CertificateList → Bool
is_signed q l = q.good l.signatureAlgorithm.whole q.key l.tbs l.signatureValue

-- the certificate is that of a CA: it has basicConstraints with cA TRUE
abbrev pub says_ca : Option BasicConstraints → Bool
says_ca None = false
says_ca (Some b) = b.ca

abbrev pub has_ca_flag : Certificate → Bool
has_ca_flag c = says_ca (stated_value BasicConstraintsOf basic_constraints_of c.tbsCertificate)

-- an issuing distribution point, where there is one, has onlyContainsAttributeCerts FALSE,
-- onlyContainsUserCerts TRUE only for a certificate that is not a CA's, and onlyContainsCACerts
-- TRUE only for one that is (6.3.3 (b) (2) (ii) to (iv))
abbrev pub covers : Bool → Option ListScope → Bool
covers ca None = true
covers ca (Some s) =
    not s.onlyContainsAttributeCerts
    && ((not s.onlyContainsUserCerts || not ca) && (not s.onlyContainsCACerts || ca))

-- all that is asked of a CRL, at whatever distribution point: a delta CRL is used with a complete
-- one alone (5.2.4)
unfoldable pub serves : StatusQuestion → CertificateList → Bool
serves q l =
    not (is_delta l)
    && (has_issuer q l
    && (is_current q.moment l
    && (may_sign_crl q.usage
    && (covers (has_ca_flag q.certificate) (scope_of l)
    && is_signed q l))))

-- ---- the CRL and the distribution point

-- an issuing distribution point that has a name shares one with the distribution point (6.3.3 (b)
-- (2) (i))
abbrev pub name_shared : Option PointName → Option PointName → Bool
name_shared None point = true
name_shared (Some (fullName names)) (Some (fullName others)) = share names others
name_shared (Some name) point = false

abbrev pub is_named : Point → Option ListScope → Bool
is_named p None = true
is_named p (Some s) = name_shared s.distributionPoint p.distributionPoint

-- the reasons of a ReasonFlags, and all-reasons where it is absent
abbrev pub reasons_in : Option (List Bool) → ReasonSet
reasons_in None = all_reasons
reasons_in (Some bits) = reasons_where (λ flag. bit (flag_number flag) bits)

abbrev pub scope_reasons : Option ListScope → ReasonSet
scope_reasons None = all_reasons
scope_reasons (Some s) = reasons_in s.onlySomeReasons

-- the mask of a pair: the intersection of onlySomeReasons and the point's reasons, one of them
-- where the other is absent, all-reasons where both are (6.3.3 (d))
abbrev pub mask_of : Point → Option ListScope → ReasonSet
mask_of p scope = intersection (scope_reasons scope) (reasons_in p.reasons)

-- a pair is usable, unless its mask is empty: such a pair is left out where the passes take theirs
abbrev pub is_usable : StatusQuestion → Point → CertificateList → Bool
is_usable q p l = serves q l && is_named p (scope_of l)

-- ---- the distribution points

-- it has neither cRLIssuer nor a name relative to the issuer of the CRL (4.2.1.13)
abbrev pub is_own : Point → Bool
is_own p = is_none p.cRLIssuer && not (is_relative_name p.distributionPoint)

-- those that the certificate states, and of them those of pass 1, in order
abbrev pub all_points : Certificate → List Point
all_points c = unwrap_or (stated_value CrlDistributionPoints points_of c.tbsCertificate) []

abbrev pub own_points : Certificate → List Point
own_points c = filter is_own (all_points c)

-- the one of pass 2: named by the certificate's issuer, without reasons (6.3.3, the last paragraph)
abbrev pub issuer_point : Certificate → Point
issuer_point c = record {
  distributionPoint = Some
      (fullName (directoryName c.tbsCertificate.issuer ∷ []));
  reasons = None;
  cRLIssuer = None;
}
