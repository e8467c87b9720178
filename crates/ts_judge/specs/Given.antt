-- What is judged without a node: the octets that files hold, read as certificates, trust anchors
-- and CRLs.
use Rattle.std.specs.Prelude.{◌≡◌, ◌<◌, ◌==◌, ◌&&◌, nat_lt, ℕ, Bool, true, false, not, List, []}
use Rattle.std.specs.Prelude.{◌∷◌, length, Option, Some, None, option_map, is_ok, if◌then◌else◌}
use Rattle.ts_cert.specs.Certificate.{Certificate}
use Rattle.ts_cert.specs.CertView.{certificate_in}
use Rattle.ts_cert.specs.Reading.{certificate_of}
use Rattle.ts_check.specs.Native.{native_accepts}
use Rattle.ts_crl.specs.Fault.{fault_in}
use Rattle.ts_crl.specs.List.{CertificateList}
use Rattle.ts_path.specs.Asked.{TrustAnchor, ValidationInputs}
use Rattle.ts_given.specs.Given.{deltas_of, first_certificate, first_crl, lists_of, octets_of}
use Rattle.ts_given.specs.declared.fault.GivenFault.{GivenFault}
use Rattle.ts_given.specs.declared.fault.GivenFault.TheVariants as fault
use Rattle.ts_judge.specs.declared.given.GivenChain.{GivenChain}
use Rattle.ts_judge.specs.declared.given.VerifyOptions.{VerifyOptions}

-- ---- trust anchors

-- a certificate's subject and key, for any purpose (RFC 5280 6.1.1 (d))
abbrev pub anchor_of : Certificate → TrustAnchor
anchor_of c = record {
  name = c.tbsCertificate.subject;
  key = c.tbsCertificate.subjectPublicKeyInfo;
  purposes = None;
}

-- those of a bundle, which may hold octets that are no certificate
abbrev pub anchors_of : List (List ℕ) → List TrustAnchor
anchors_of [] = []
anchors_of (octets ∷ bundle) = if is_ok (certificate_of octets)
    then anchor_of (certificate_in octets) ∷ anchors_of bundle
    else anchors_of bundle

-- ---- what is refused

-- a leaf and at most 32 more
abbrev pub is_count : ℕ → Bool
is_count n = nat_lt 0 n && nat_lt n 34

-- no part is refused
pub record AreRead (anchors certificates crls : List (List ℕ)) : Type 0 where
  pub count : is_count (length certificates) ≡ true
  pub anchored : 0 < length (anchors_of anchors)
  pub certificates_are : first_certificate 1 certificates ≡ None
  pub crls_are : first_crl 1 crls ≡ None

-- The first part that is refused: the number of certificates, the trust anchors where none is a
-- certificate, a certificate, a CRL. Memory may be refused at any.
abbrev pub IsRefusal : List (List ℕ) → List (List ℕ) → List (List ℕ) → GivenFault → Type 0
IsRefusal anchors certificates crls fault.Memory = Unit {0}
IsRefusal anchors certificates crls fault.Count = is_count (length certificates) ≡ false
IsRefusal anchors certificates crls fault.NoAnchor =
    (is_count (length certificates) ≡ true) × (length (anchors_of anchors) ≡ 0)
IsRefusal anchors certificates crls (fault.Certificate place e) =
    (is_count (length certificates) ≡ true) × (0 < length (anchors_of anchors))
    × (first_certificate 1 certificates ≡ Some (place, e))
IsRefusal anchors certificates crls (fault.Crl place e) =
    (is_count (length certificates) ≡ true) × (0 < length (anchors_of anchors))
    × (first_certificate 1 certificates ≡ None) × (first_crl 1 crls ≡ Some (place, fault_in e))

-- ---- what is asked

-- what path validation is asked beside the certificates, under a trust anchor (RFC 5280 6.1.1)
abbrev pub asked_with : VerifyOptions → Option (List ℕ) → List (List ℕ) → Bool
    → List CertificateList → List CertificateList → TrustAnchor → ValidationInputs
asked_with options purpose policies hard lists deltas anchor = record {
  anchor = anchor;
  moment = options.moment;
  purpose = purpose;
  user_policies = policies;
  explicit_policy = options.explicit_policy;
  inhibit_policy_mapping = options.inhibit_policy_mapping;
  inhibit_any_policy = options.inhibit_any_policy;
  subtrees = record { permitted = []; excluded = [] };
  hard = hard;
  lists = lists;
  deltas = deltas;
  use_deltas = options.use_deltas;
  good = native_accepts;
}

-- revocation is hard where there are CRLs, unless it is to be soft
abbrev pub is_hard : VerifyOptions → ℕ → Bool
is_hard options crls = not options.soft && not (crls == 0)

abbrev pub asked_of : GivenChain → VerifyOptions → TrustAnchor → ValidationInputs
asked_of given options = asked_with options (option_map (λ p. p.items) given.purpose)
    given.policies.items (is_hard options (length given.crls.items))
    (lists_of (octets_of given.crls.items)) (deltas_of (octets_of given.crls.items))
