use Rattle.std.proofs.Common.{refl, sym, ◌∙◌}
use Rattle.std.specs.Prelude.{map}
use Rattle.ts_ext.specs.Points.{point_of_uri}
use Rattle.ts_ext.specs.declared.known.Known.TheVariants.{SubjectKeyIdentifier, KeyUsage, BasicConstraints, AuthorityKeyIdentifier, CrlDistributionPoints}
use Rattle.ts_ext.specs.Ext.{subjectKeyIdentifier, keyUsage, basicConstraints, authorityKeyIdentifier, cRLDistributionPoints}
use Rattle.ts_extensions.proofs.FastValues.{some-of, key-alone, sound-value}
use Rattle.ts_extensions.proofs.UriPoints.{uris-unbroken}
use Rattle.ts_extensions.proofs.fast.is_fast.Goals as goal

pub returns-in-SubjectKeyIdentifier : goal.returns-in-SubjectKeyIdentifier
returns-in-SubjectKeyIdentifier c = λ e.
    let octets = c.args.octets.now in
    let key = some-of _ c.content_of.result c.content_of.ensures (sym c.is_some.ensures ∙ e) in
    rw c.in-SubjectKeyIdentifier.is (sound-value SubjectKeyIdentifier octets key.0.now (subjectKeyIdentifier key.0.now) key.1.0 key.1.1 (key.0.now, refl, refl) refl)

pub returns-in-Some : goal.returns-in-Some
returns-in-Some c = λ e.
    let octets = c.args.octets.now in
    let content = c.in-Some.content.now in
    let is = c.are_of_authority.ensures e in
    rw c.in-BasicConstraints.is (sound-value BasicConstraints octets content (basicConstraints is.0) c.in-Some.ensures.0 c.in-Some.ensures.1 (is.0, refl, is.1) refl)

pub returns-in-Some-content_of : goal.returns-in-Some-content_of
returns-in-Some-content_of c = λ e.
    let octets = c.args.octets.now in
    let here = c.in-Some-content_of in
    let is = c.ends_with_crl_sign.ensures e in
    rw c.in-KeyUsage.is (sound-value KeyUsage octets here.content.now (keyUsage is.0) here.ensures.0 here.ensures.1 (is.0, refl, is.1) refl)

pub returns-in-Some-content_of-2 : goal.returns-in-Some-content_of-2
returns-in-Some-content_of-2 c = λ e.
    let octets = c.args.octets.now in
    let here = c.in-Some-content_of-2 in
    let key = some-of _ c.content_of-in-Some-content_of-2.result c.content_of-in-Some-content_of-2.ensures (sym c.is_some-in-Some-content_of-2.ensures ∙ e) in
    let is = key-alone here.content.now key.0.now key.1.0 key.1.1 in
    rw c.in-AuthorityKeyIdentifier.is (sound-value AuthorityKeyIdentifier octets here.content.now (authorityKeyIdentifier _) here.ensures.0 here.ensures.1 (_, refl, is) refl)

pub returns-in-Some-content_of-3 : goal.returns-in-Some-content_of-3
returns-in-Some-content_of-3 c = λ e.
    let octets = c.args.octets.now in
    let here = c.in-Some-content_of-3 in
    let is = c.are_uris.ensures e in
    let points = map point_of_uri is.0 in
    rw c.in-CrlDistributionPoints.is (sound-value CrlDistributionPoints octets here.content.now (cRLDistributionPoints points) here.ensures.0 here.ensures.1 (points, refl, is.1) (uris-unbroken is.0))
