-- What contracts see of a certificate.
use Rattle.std.specs.Prelude.{ℕ, List, [], None, pos}
use Rattle.std.specs.Result.{result_unwrap_or}
use Rattle.ts_field.specs.declared.time.Time.{Time}
use Rattle.ts_field.specs.declared.time.TimeForm.TheVariants.{Utc}
use Rattle.ts_field.specs.Algorithm.{Algorithm}
use Rattle.ts_field.specs.View.{algorithm_in}
use Rattle.ts_cert.specs.declared.certificate.Cert.{Cert}
use Rattle.ts_cert.specs.declared.parts.Parts.{Parts}
use Rattle.ts_cert.specs.declared.version.Version.TheVariants.{V1}
use Rattle.ts_cert.specs.Certificate.{Certificate}
use Rattle.ts_cert.specs.Reading.{UncheckedCertificate, certificate_of}
use Rattle.ts_cert.specs.View.{optional_fields_in, fields_in}

-- ---- the parts, while they are read

abbrev pub parts_in : Parts → Certificate
parts_in c =
    record {
      tbs = c.tbs.now;
      tbsCertificate = fields_in c.fields;
      signatureAlgorithm = algorithm_in c.signature_algorithm;
      signatureValue = c.signature_value.now;
    }

-- the same with places
abbrev pub unagreed_in : Parts → UncheckedCertificate
unagreed_in c = record {
  certificate = parts_in c;
  identifier_at = c.identifier_at;
  optional_fields = optional_fields_in c.fields.optional_fields;
}

-- ---- the certificate, once it is read

abbrev no_algorithm : Algorithm
no_algorithm = record { algorithm = []; parameters = None; whole = [] }

abbrev no_time : Time
no_time = record { form = Utc; moment = pos 0 }

abbrev pub no_certificate : Certificate
no_certificate =
    record {
      tbs = [];
      tbsCertificate = record {
        version = V1;
        serialNumber = [];
        signature = no_algorithm;
        issuer = [];
        validity = record { not_before = no_time; not_after = no_time };
        subject = [];
        subjectPublicKeyInfo = record { algorithm = no_algorithm; subjectPublicKey = [] };
        issuerUniqueID = None;
        subjectUniqueID = None;
        extensions = None;
      };
      signatureAlgorithm = no_algorithm;
      signatureValue = [];
    }

-- the certificate that octets are; of octets that are none it says nothing
abbrev pub certificate_in : List ℕ → Certificate
certificate_in octets = result_unwrap_or (certificate_of octets) no_certificate

abbrev pub cert_in : Cert → Certificate
cert_in c = certificate_in c.octets.now
