-- Whether a certificate is self-issued: issuer and subject are one name (RFC 5280 6.1).
use Rattle.std.specs.Prelude.{Bool}
use Rattle.ts_name.specs.Sameness.{is_same_name}
use Rattle.ts_cert.specs.Certificate.{Certificate}

abbrev pub is_self_issued : Certificate → Bool
is_self_issued c = is_same_name c.tbsCertificate.issuer c.tbsCertificate.subject
