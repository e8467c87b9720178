use Rattle.std.proofs.Common.{arith}
use Rattle.ts_curve.specs.Curves.{curve_p256, curve_p384, curve_p521}
use Rattle.ts_curve.proofs.Tests.{same_test}
use Rattle.ts_der.specs.Octets.{AreOctets}
use Rattle.ts_ecdsa.specs.Signature.{IsEcdsaSignature}
use Rattle.ts_ecdsa.specs.Tests.{is_ecdsa_signature_of}
use Rattle.ts_ecdsa.proofs.Exact.{signature_test}
use Rattle.ts_ecdsa.proofs.signature.is_ecdsa_signature.Goals as goal

pub returns-in-P256-clause-exactly : goal.returns-in-P256-clause-exactly
returns-in-P256-clause-exactly c = rw c.in-P256.is c.is_signature_on.ensures

pub returns-in-P256-clause-test : goal.returns-in-P256-clause-test
returns-in-P256-clause-test c =
    let a = c.args in
    let oct : AreOctets a.signature.now = λ i. omega (arith, c.type_inv.signature i) in
    rw c.in-P256.is
    (same_test c.is_signature_on.result
    (is_ecdsa_signature_of curve_p256 a.hash a.public_key.now a.signed.now.octets.now a.signature.now)
    (IsEcdsaSignature curve_p256 a.hash a.public_key.now a.signed.now.octets.now a.signature.now)
    c.is_signature_on.ensures
    (signature_test curve_p256 a.hash a.public_key.now a.signed.now.octets.now a.signature.now oct))

pub returns-in-P384-clause-exactly : goal.returns-in-P384-clause-exactly
returns-in-P384-clause-exactly c = rw c.in-P384.is c.is_signature_on-in-P384.ensures

pub returns-in-P384-clause-test : goal.returns-in-P384-clause-test
returns-in-P384-clause-test c =
    let a = c.args in
    let oct : AreOctets a.signature.now = λ i. omega (arith, c.type_inv.signature i) in
    rw c.in-P384.is
    (same_test c.is_signature_on-in-P384.result
    (is_ecdsa_signature_of curve_p384 a.hash a.public_key.now a.signed.now.octets.now a.signature.now)
    (IsEcdsaSignature curve_p384 a.hash a.public_key.now a.signed.now.octets.now a.signature.now)
    c.is_signature_on-in-P384.ensures
    (signature_test curve_p384 a.hash a.public_key.now a.signed.now.octets.now a.signature.now oct))

pub returns-in-P521-clause-exactly : goal.returns-in-P521-clause-exactly
returns-in-P521-clause-exactly c = rw c.in-P521.is c.is_signature_on-in-P521.ensures

pub returns-in-P521-clause-test : goal.returns-in-P521-clause-test
returns-in-P521-clause-test c =
    let a = c.args in
    let oct : AreOctets a.signature.now = λ i. omega (arith, c.type_inv.signature i) in
    rw c.in-P521.is
    (same_test c.is_signature_on-in-P521.result
    (is_ecdsa_signature_of curve_p521 a.hash a.public_key.now a.signed.now.octets.now a.signature.now)
    (IsEcdsaSignature curve_p521 a.hash a.public_key.now a.signed.now.octets.now a.signature.now)
    c.is_signature_on-in-P521.ensures
    (signature_test curve_p521 a.hash a.public_key.now a.signed.now.octets.now a.signature.now oct))
