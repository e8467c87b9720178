-- What private clauses see of a trust anchor that path validation borrows.
use Rattle.std.specs.Prelude.{ℕ, List, map, take, Option, Some, None, if◌then◌else◌}
use Rattle.ts_cert.specs.CertView.{cert_in}
use Rattle.ts_path.specs.Asked.{TrustAnchor}
use Rattle.ts_answer.specs.declared.trusted.TrustedAnchor.{TrustedAnchor}

abbrev pub purposes_in : TrustedAnchor → Option (List (List ℕ))
purposes_in t = if t.is_listed then Some (map (λ c. c.now) (take t.count t.contents)) else None

abbrev pub trusted_in : TrustedAnchor → TrustAnchor
trusted_in t = record {
  name = (cert_in t.cert).tbsCertificate.subject;
  key = (cert_in t.cert).tbsCertificate.subjectPublicKeyInfo;
  purposes = purposes_in t;
}
